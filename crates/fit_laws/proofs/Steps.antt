-- Each step of a loss makes f32 values.
use mathlib.Core.Bool.{Bool, true, false, cond}
use mathlib.Core.List.{List, [], ◌++◌, map}
use Prim.Native.Nat.{ℕ, zero, suc, ◌+◌, ◌-◌, ◌^◌, ◌<◌}
use lib.ListN.{length, get_or, set, take, drop, replicate}
use lib.Seq.{slice}
use lib.Dec.{leb}
use lib.Ieee.{Float, nan, binary32, sub, eq, lt}
use lib.Ieee.Fits.{add-fits, sub-fits, mul-fits, div-fits}
use lib.Ieee.Bits.{of_bits-fits}
use Rattle.loops.specs.Front.{tab}
use Rattle.loops.specs.Fold.{fold-holds}
use Rattle.loops.specs.Logic.{cond_either}
use Rattle.buffers.specs.Buffers.{zero32, times, energy}
use Rattle.draw.specs.Draw.{draw, draws, draw-word}
use Rattle.history.specs.History.{half, overlap, channel, Tail, Tails, with_tails}
use Rattle.celt_window.specs.Window.{window}
use Rattle.post_filter.specs.declared.Filter.{Filter}
use Rattle.comb_filter.specs.Comb.{comb_at, comb_filter_to, comb_filtered, tap_gain}
use Rattle.prefilter.specs.Prefilter.{skips, pre_filtered}
use Rattle.plc_lpc.specs.Lpc.{Lpc, crossed, reflection, lpc_with, lpc_turn, lpc_to, celt_lpc}
use Rattle.plc_iir.specs.Iir.{iir_at, iir_to, celt_iir}
use Rattle.excitation.specs.Cycle.{repeated_cycle}
use Rattle.energy_guard.specs.Guard.{muted, back_scale, guarded_at, guarded}
use Rattle.extrapolate.specs.Extrapolate.{order, recent, excitation, fade, faded_cycle, extrapolated}
use Rattle.roll.specs.Roll.{rolled}
use Rattle.fold.specs.Fold.{fold_at, folded}
use Rattle.pitch_fit.specs.Fit.{pitch_fit}
use Rattle.pitch_predictor.specs.Predictor.{fitted_to}
use Rattle.take_in.specs.TakeIn.{extra, tail_after}
use Rattle.pitch_loss.specs.PitchLoss.{pitch_tail, pitch_tails}
use Rattle.noise_block.specs.Block.{windowed, noise_block}
use Rattle.noise_energies.specs.Energies.{energy_drop, drops, dropped_at, lower_energies}
use Rattle.noise_cover.specs.Cover.{overlapped, covered_tail}
use Rattle.noise_loss.specs.Loss.{channel_block, noise_blocks, noise_tails}
use Rattle.deemphasis.specs.Deemphasis.{next_memory, memory_to, deemphasis}
use Rattle.settings.specs.declared.Settings.{Settings}
use Rattle.std.proofs.lemmas.List.Elements.{All-nil, All-push}
use Rattle.fit_laws.specs.Values.{Single, AllSingle, all-at, all_append, all_take, all_drop, all-slice, all_set, all_map, all_replicate, all-tab, all-cond}

-- ---- energies and memories

pub lowered-single : (channels start end count : ℕ) (e : List Float) → AllSingle e → AllSingle (lower_energies channels start end count e)
unfolding lower_energies dropped_at
lowered-single channels start end count e a =
    let d = energy_drop count in
    all-cond (leb 5 count) e (tab (dropped_at channels start end count e) (length e)) a
    (all-tab (dropped_at channels start end count e) (length e)
    (λ i. cond_either Single (drops channels start end i) (sub binary32 (get_or e i nan) d) (get_or e i nan) (sub-fits binary32 (get_or e i nan) d) (all-at e i a)))

pub memories_single : (d : ℕ) (vs : List (List Float)) (m : List Float) → AllSingle m → AllSingle (deemphasis d vs m).memories
unfolding deemphasis memory_to next_memory
memories_single d vs m a =
    all_append _ (drop (length vs) m)
    (all-tab _ (length vs) (λ c. fold-holds Single _ (get_or m c nan) (length (get_or vs 0 [])) (all-at m c a) (λ x i _ s. sub-fits binary32 _ _)))
    (all_drop (length vs) m a)

-- ---- the predictor

crossed-single : (r : Float) (i : ℕ) (l : List Float) (j : ℕ) → AllSingle l → AllSingle (crossed r i l j)
crossed-single r i l j a = all_set (set l j _) (i - 1 - j) _ (all_set l j _ a (add-fits binary32 _ _)) (add-fits binary32 _ _)

turn-single : (ac : List Float) (s : Lpc) (i : ℕ) → AllSingle s.lpc → AllSingle (lpc_turn ac s i).lpc
turn-single ac s i a = go s.done
  where
    r : Float
    r = reflection s.lpc s.error ac i

    go : (b : Bool) → AllSingle (cond b s (lpc_with ac s i r)).lpc
    go true = a
    go false = fold-holds AllSingle (crossed r i) (set s.lpc i r) _ (all_set s.lpc i r a (div-fits binary32 _ _)) (λ l j _ p. crossed-single r i l j p)

lpc_single : (ac : List Float) (p : ℕ) → AllSingle (celt_lpc ac p)
unfolding celt_lpc lpc_to
lpc_single ac p =
    let zeros = all_replicate p zero32 (of_bits-fits binary32 0) in
    let start : Lpc = record { lpc = replicate p zero32; error = get_or ac 0 nan; done = false } in
    all-cond (eq (get_or ac 0 nan) zero32) (replicate p zero32) (lpc_to ac p p).lpc zeros
    (fold-holds (λ (s : Lpc). AllSingle s.lpc) (lpc_turn ac) start p zeros (λ s i _ w. turn-single ac s i w))

pub fitted_single : (two : Bool) (p : List Float) (t : Tails) → AllSingle p → AllSingle (fitted_to two p t)
unfolding fitted_to pitch_fit
fitted_single two p t a = all_append _ _ (lpc_single _ _) (all-cond two _ _ (lpc_single _ _) (all_drop order p a))

-- ---- tails

pub record TailSingle (t : Tail) : Type 0 where
  pub new : AllSingle t.new
  pub over : AllSingle t.over

pub record TailsSingle (t : Tails) : Type 0 where
  pub first : TailSingle t.first
  pub second : TailSingle t.second

iir_single : (den mem x : List Float) (n : ℕ) → AllSingle x → AllSingle (iir_to den mem x n)
unfolding iir_to iir_at
iir_single den mem x zero a = All-nil Single
iir_single den mem x (suc n) a =
    All-push Single (iir_to den mem x n) _ (iir_single den mem x n a)
    (fold-holds Single _ (get_or x n nan) (length den) (all-at x n a) (λ s j _ p. sub-fits binary32 _ _))

guarded-single : (s1 : Float) (e : List Float) → AllSingle e → AllSingle (guarded s1 e)
unfolding guarded guarded_at
guarded-single s1 e a =
    let s2 = energy zero32 e in
    let g = back_scale s1 s2 in
    all-cond (muted s1 s2) (replicate (length e) zero32) (cond (lt s1 s2) (map (times g) e) e) (all_replicate (length e) zero32 (of_bits-fits binary32 0))
    (all-cond (lt s1 s2) (map (times g) e) e (all_map (times g) e (λ v. mul-fits binary32 v g)) a)

faded_single : (m : ℕ) (exc : List Float) (lag : ℕ) (first : Bool) → AllSingle (faded_cycle m exc lag first)
unfolding faded_cycle
faded_single m exc lag first = all_map (times (fade first)) (repeated_cycle m exc lag) (λ v. mul-fits binary32 v (fade first))

extrapolated-single : (m : ℕ) (new : List Float) (lag : ℕ) (first : Bool) (c : List Float) → AllSingle (extrapolated m new lag first c)
unfolding extrapolated celt_iir
extrapolated-single m new lag first c =
    let x = faded_cycle m (excitation c new) lag first in
    guarded-single _ _ (iir_single c (recent new) x (length x) (faded_single m (excitation c new) lag first))

comb_single : (x : List Float) (i t : ℕ) (g0 g1 g2 : Float) → Single (comb_at x i t g0 g1 g2)
unfolding comb_at
comb_single x i t g0 g1 g2 = add-fits binary32 _ _

filter-single : (f : Filter) (x : List Float) → AllSingle (comb_filtered f x)
unfolding comb_filtered comb_filter_to
filter-single f x = all-tab _ overlap (λ i. comb_single x (half + i) f.period (tap_gain f 0) (tap_gain f 1) (tap_gain f 2))

pre-single : (f : Filter) (new over : List Float) → AllSingle over → AllSingle (pre_filtered f new over)
unfolding pre_filtered
pre-single f new over a =
    all-cond (skips f.gain) over (comb_filtered f (new ++ over)) a (filter-single f (new ++ over))

folded-single : (w x : List Float) → AllSingle (folded w x)
unfolding folded fold_at
folded-single w x = all-tab _ overlap (λ k. mul-fits binary32 _ _)

pitch_single : (n : ℕ) (t : Tail) (lag : ℕ) (first : Bool) (c : List Float) (f : Filter) → TailSingle t → TailSingle (pitch_tail n t lag first c f)
unfolding pitch_tail tail_after rolled
pitch_single n t lag first c f z =
    let e = extrapolated (n + extra) t.new lag first c in
    record {
      new = all_append _ (take n e) (all_drop (length (take n e)) t.new z.new) (all_take n e (extrapolated-single (n + extra) t.new lag first c));
      over = pre-single f _ _ (folded-single window _);
    }

tail-cond : (b : Bool) (t u : Tail) → TailSingle t → TailSingle u → TailSingle (cond b t u)
tail-cond true t u p q = p
tail-cond false t u p q = q

pub pitches_single : (two : Bool) (n lag : ℕ) (first : Bool) (c : List Float) (f : Filter) (t : Tails) → TailsSingle t → TailsSingle (pitch_tails two n lag first c f t)
unfolding pitch_tails
pitches_single two n lag first c f t z = record {
  first = pitch_single n t.first lag first _ f z.first;
  second = tail-cond two _ t.second (pitch_single n t.second lag first _ f z.second) z.second;
}

block-single : (k : Settings) (seed : ℕ) (e : List Float) → AllSingle (channel_block k seed e).samples
unfolding channel_block noise_block windowed
block-single k seed e = all-tab _ _ (λ j. mul-fits binary32 _ _)

cover-single : (n : ℕ) (block : List Float) (t : Tail) → AllSingle block → TailSingle t → TailSingle (covered_tail n block t)
unfolding covered_tail overlapped
cover-single n block t b z = record {
  new = all_append _ _ (all_take (half - n) t.new z.new) (all_append _ _ (all-tab _ overlap (λ j. add-fits binary32 _ _)) (all-slice overlap n block b));
  over = all_drop n block b;
}

pub noises_single : (two : Bool) (n : ℕ) (k : Settings) (seed : ℕ) (e : List Float) (t : Tails) → TailsSingle t → TailsSingle (noise_tails two n (noise_blocks k seed e) t)
unfolding noise_tails noise_blocks
noises_single two n k seed e t z = record {
  first = cover-single n _ t.first (block-single k _ _) z.first;
  second = tail-cond two _ t.second (cover-single n _ t.second (block-single k _ _) z.second) z.second;
}

pub with-single : (h : List Float) (t : Tails) → AllSingle h → TailsSingle t → AllSingle (with_tails h t)
unfolding with_tails
with-single h t a z =
    all_append (take half h) _ (all_take half h a)
    (all_append t.first.new _ z.first.new
    (all_append t.first.over _ z.first.over
    (all_append (slice channel (channel + half) h) _ (all-slice channel (channel + half) h a)
    (all_append t.second.new _ z.second.new z.second.over))))

-- ---- the seed

pub draws-word : (d s : ℕ) → s < 2 ^ 32 → draws d s < 2 ^ 32
unfolding draws
draws-word zero s l = l
draws-word (suc d) s l = draws-word d (draw s) (draw-word s)
