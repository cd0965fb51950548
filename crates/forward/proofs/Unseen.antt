-- Nothing of the forward filter shows: the roll and the new frame overwrite all that it changed.
use mathlib.Core.Path.{◌≡◌, refl, ap, ap₂, sym, ◌∙◌}
use mathlib.Core.Bool.{Bool, true, false, cond}
use mathlib.Core.List.{List, ◌++◌, append_assoc, append-nil}
use Prim.Native.Nat.{ℕ, ◌+◌, ◌-◌, ◌≤◌}
use native.Mathlib.Omega.{arith}
use lib.ListN.{length, take, drop, length-set, length-append, length-drop, drop_of_length-le}
use lib.Seq.{slice, length-take-le, take_at, drop_at, drop-drop, take-append-le, take-take, take-set-le}
use lib.Ieee.{Float}
use Rattle.loops.specs.Fold.{fold-keeps}
use Rattle.loops.specs.Part.{put, drop-put}
use Rattle.celt_window.specs.Window.{window}
use Rattle.history.proofs.Parts.{slice-take, TailSized}
use Rattle.history.specs.History.{half, overlap, Tail, tail_list, tail_of}
use Rattle.post_filter.specs.declared.Filter.{Filter}
use Rattle.prefilter.specs.Prefilter.{skips, pre_filtered, pre_filtered_end}
use Rattle.roll.specs.Roll.{moved_back, rolled, length-rolled}
use Rattle.fold.specs.Fold.{folded, length-folded}
use Rattle.extrapolate.specs.Extrapolate.{extrapolated, length-extrapolated}
use Rattle.take_in.specs.TakeIn.{extra, tail_after}
use Rattle.pitch_loss.specs.PitchLoss.{pitch_tail}
use Rattle.forward.specs.Forward.{comb_turn, comb_filter, forward_gain, post_filtered, framed, forward_tail}

-- the filter changes the overlap alone
module _ (t : ℕ) (g0 g1 g2 : Float) where
  turn-length : (y : List Float) (j : ℕ) → length (comb_turn t g0 g1 g2 y j) ≡ length y
  unfolding comb_turn
  turn-length y j = simp length-set

  turn-keeps : (y : List Float) (j : ℕ) → take half (comb_turn t g0 g1 g2 y j) ≡ take half y
  unfolding comb_turn
  turn-keeps y j = take-set-le half y (half + j) _ (omega arith)

  filter-length : (x : List Float) → length (comb_filter t g0 g1 g2 x) ≡ length x
  unfolding comb_filter
  filter-length x = fold-keeps length (comb_turn t g0 g1 g2) x overlap turn-length

  filter-keeps : (x : List Float) → take half (comb_filter t g0 g1 g2 x) ≡ take half x
  unfolding comb_filter
  filter-keeps x = fold-keeps (take half) (comb_turn t g0 g1 g2) x overlap turn-keeps

post-length : (f : Filter) (x : List Float) → length (post_filtered f x) ≡ length x
unfolding post_filtered
post-length f x = go (skips f.gain)
  where
    go : (b : Bool) → length (cond b x (comb_filter f.period (forward_gain f 0) (forward_gain f 1) (forward_gain f 2) x)) ≡ length x
    go true = refl
    go false = filter-length _ _ _ _ x

post-keeps : (f : Filter) (x : List Float) → take half (post_filtered f x) ≡ take half x
unfolding post_filtered
post-keeps f x = go (skips f.gain)
  where
    go : (b : Bool) → take half (cond b x (comb_filter f.period (forward_gain f 0) (forward_gain f 1) (forward_gain f 2) x)) ≡ take half x
    go true = refl
    go false = filter-keeps _ _ _ _ x

-- what the roll, the fold and the frame leave of a tail y: of the overlap that was there, nothing
module _ (n : ℕ) (y frame fold : List Float) (l : length y ≡ half + overlap) (h : n ≤ half) (lf : length frame ≡ n) (lo : length fold ≡ overlap) where
  abbrev moved : List Float
  moved = moved_back n y

  moved_length : length moved ≡ half + overlap
  unfolding moved_back
  moved_length = omega (arith, length-append (drop n y) (drop (length y - n) y), length-drop n y, length-drop (length y - n) y)

  abbrev blended : List Float
  blended = put half overlap fold moved

  -- the first part stays: the newest samples less the oldest n of them
  front-is : take (half - n) blended ≡ drop n (take half y)
  unfolding moved_back
  front-is =
      take-append-le (half - n) (take half moved) _ (omega (arith, length-take-le half moved (omega (arith, moved_length))))
      ∙ take-take (half - n) half moved (omega arith)
      ∙ take-append-le (half - n) (drop n y) _ (omega (arith, length-drop n y))
      ∙ sym (slice-take n (half - n) y (omega arith))
      ∙ ap (λ z. slice n z y) (let e : n + (half - n) ≡ half = omega arith in e)

  back_is : drop half blended ≡ fold
  back_is = drop-put half overlap fold moved (omega (arith, moved_length))
      ∙ ap (λ z. fold ++ z) (drop_of_length-le moved {i = half + overlap} (omega (arith, moved_length))) ∙ append-nil fold

  pub overwritten : put (half - n) n frame blended ≡ rolled frame (take half y) ++ fold
  unfolding rolled
  overwritten =
      let e : half - n + n ≡ half = omega arith in
      ap₂ (λ u v. u ++ (frame ++ v)) front-is (drop-drop n (half - n) blended ∙ ap (λ z. drop z blended) e ∙ back_is)
      ∙ sym (append_assoc (drop n (take half y)) frame fold)
      ∙ ap (λ z. (drop z (take half y) ++ frame) ++ fold) (sym lf)

-- a tail put together and taken apart
apart : (f : Filter) (new over : List Float) → length new ≡ half → tail_of (pre_filtered_end f (new ++ over)) ≡ record { new = new; over = pre_filtered f new over }
unfolding pre_filtered_end tail_of
apart f new over l =
    let a : take half (new ++ over) ≡ new = take_at new over half l in
    let b : drop half (new ++ over) ≡ over = drop_at new over half l in
    let e : take half (new ++ over) ++ pre_filtered f (take half (new ++ over)) (drop half (new ++ over)) ≡ new ++ pre_filtered f new over =
    ap₂ (λ u v. u ++ pre_filtered f u v) a b in
    λ i. record {
      new = (ap (take half) e ∙ take_at new (pre_filtered f new over) half l) i;
      over = (ap (drop half) e ∙ drop_at new (pre_filtered f new over) half l) i;
    }

module _ (n : ℕ) (t : Tail) (z : TailSized t) (h : n ≤ half) (f : Filter) where
  -- whatever the synthesis e, the tail that the Rust leaves is the one without the forward filter
  framed-same : (e : List Float) → n + overlap ≤ length e → tail_of (framed n e (tail_list t) f) ≡ tail_after n e f t
  unfolding framed tail_list tail_after
  framed-same e l =
      let y = post_filtered f (t.new ++ t.over) in
      let fold = folded window (slice n (n + overlap) e) in
      let ly : length y ≡ half + overlap = omega (arith, post-length f (t.new ++ t.over), length-append t.new t.over, z.new, z.over) in
      let lf : length (take n e) ≡ n = length-take-le n e (omega arith) in
      let k : take half y ≡ t.new = post-keeps f (t.new ++ t.over) ∙ take_at t.new t.over half z.new in
      ap (λ w. tail_of (pre_filtered_end f w))
      (overwritten n y (take n e) fold ly h lf (length-folded window (slice n (n + overlap) e)) ∙ ap (λ w. rolled (take n e) w ++ fold) k)
      ∙ apart f (rolled (take n e) t.new) fold (length-rolled (take n e) t.new (omega (arith, z.new)) ∙ z.new)

  -- one channel
  pub forward-hidden : (lag : ℕ) (first : Bool) (c : List Float) → forward_tail n t lag first c f ≡ pitch_tail n t lag first c f
  unfolding forward_tail pitch_tail
  forward-hidden lag first c =
      framed-same (extrapolated (n + extra) t.new lag first c) (omega (arith, length-extrapolated (n + extra) t.new lag first c))
