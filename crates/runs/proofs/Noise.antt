-- What a noise loss makes: its samples from the core and the old overlaps, its seed by the number of draws.
use mathlib.Core.Path.{◌≡◌, refl, ap, ap₂, sym, subst, ◌∙◌}
use mathlib.Core.Bool.{Bool, cond, true, false}
use mathlib.Core.List.{List, [], ◌∷◌, ◌++◌}
use Prim.Native.Nat.{ℕ, ◌+◌, ◌*◌, ◌-◌, ◌≤◌}
use native.Mathlib.Omega.{arith}
use native.Mathlib.Nat.{mul_assoc, one-mul}
use lib.ListN.{drop}
use lib.Seq.{slice}
use lib.Ieee.{Float}
use lib.Dec.{eqb}
use borrow.Author.Tests.{eqb-true}
use Rattle.draw.specs.Draw.{draws}
use Rattle.draw.proofs.Draws.{draws-add}
use Rattle.custom_mode.specs.Mode.{last_edge}
use Rattle.history.specs.History.{half, overlap, Tails, tails, both}
use Rattle.history.proofs.Parts.{tails-sized, newest-tails}
use Rattle.settings.specs.Settings.{factor, frame, stereo, first_bin, draws_per_loss, check_settings}
use Rattle.state.specs.State.{Core, core, noisy}
use Rattle.settings.specs.declared.Settings.{Settings}
use Rattle.state.specs.declared.State.{State}
use Rattle.settings.proofs.Passed.{passed, one-channel, frame-high}
use Rattle.state.proofs.Keep.{Ok}
use Rattle.noise_cover.specs.Cover.{overlapped, covered_tail}
use Rattle.noise_loss.specs.Loss.{noise_blocks, noise_seed, noise_tails}
use Rattle.loss.specs.Loss.{blocks, made, tails_by_noise, tails_by_pitch, tails_after, history_after}
use Rattle.runs.specs.Run.{ahead}
use Rattle.loss.proofs.Keep.{after-tails}
use Rattle.loss.proofs.Laws.{block-draws, covered_newest}

-- a block of n + 120 samples laid over an old overlap
laid_over : ℕ → List Float → List Float → List Float
laid_over n block over = overlapped block over ++ slice overlap n block

-- the samples of a noise loss, from the core and the old overlaps
pub heard : Core → List Float → List Float → List (List Float)
heard c u v =
    let n = frame c.settings in
    both (stereo c.settings) (laid_over n (blocks c).first.samples u) (laid_over n (blocks c).second.samples v)

both-same : {A : Type 0} (b : Bool) (a c d e : A) → a ≡ c → (b ≡ true → d ≡ e) → both b a d ≡ both b c e
both-same true a c d e p q = ap₂ (λ y z. y ∷ z ∷ []) p (q refl)
both-same false a c d e p q = ap (λ y. y ∷ []) p

pub heard_same : (c d : Core) (u v w y : List Float) → c ≡ d → u ≡ w → (stereo c.settings ≡ true → v ≡ y) → heard c u v ≡ heard d w y
unfolding heard
heard_same c d u v w y e p q =
    let n = frame c.settings in
    subst (λ z. heard c u v ≡ heard z w y) e
    (both-same (stereo c.settings) _ _ _ _ (ap (laid_over n (blocks c).first.samples) p) (λ b. ap (laid_over n (blocks c).second.samples) (q b)))

-- the new overlaps are the blocks' last 120 samples
pub new_over : Core → List Float
new_over c = drop (frame c.settings) (blocks c).first.samples

pub new_over_two : Core → List Float
new_over_two c = drop (frame c.settings) (blocks c).second.samples

module _ (s : State) (h : List Float) (o : Ok s h) (z : noisy (core s) ≡ true) where
  noise_tails_lem : tails (history_after s h) ≡ noise_tails (stereo s.settings) (frame s.settings) (blocks (core s)) (tails h)
  unfolding tails_after tails_by_noise
  noise_tails_lem = after-tails s h o ∙ ap (λ b. cond b (tails_by_noise s (tails h)) (tails_by_pitch s (made s h) (tails h))) z

  pub noise_ahead : ahead s.settings (history_after s h) ≡ heard (core s) (tails h).first.over (tails h).second.over
  unfolding heard laid_over noise_tails
  noise_ahead =
      let k = s.settings in
      let n = frame k in
      let w = tails-sized h o.history in
      let l : n ≤ half = omega (arith, frame-high k o.settings) in
      newest-tails (stereo k) n (history_after s h) l
      ∙ ap (λ (t : Tails). both (stereo k) (drop (half - n) t.first.new) (drop (half - n) t.second.new)) noise_tails_lem
      ∙ both-same (stereo k) _ _ _ _
      (covered_newest n _ _ l w.first.new)
      (λ b. ap (λ c. drop (half - n) (cond c (covered_tail n (blocks (core s)).second.samples (tails h).second) (tails h).second).new) b
      ∙ covered_newest n _ _ l w.second.new)

  pub noise_over : (tails (history_after s h)).first.over ≡ new_over (core s)
  unfolding noise_tails covered_tail new_over
  noise_over = ap (λ (t : Tails). t.first.over) noise_tails_lem

  pub noise_over-two : stereo s.settings ≡ true → (tails (history_after s h)).second.over ≡ new_over_two (core s)
  unfolding noise_tails covered_tail new_over_two
  noise_over-two b =
      ap (λ (t : Tails). t.second.over) noise_tails_lem
      ∙ ap (λ c. (cond c (covered_tail (frame s.settings) (blocks (core s)).second.samples (tails h).second) (tails h).second).over) b

-- the seed after a noise loss: its draws, whatever the energies
module _ (k : Settings) (good : check_settings k ≡ 0) (seed : ℕ) (energies : List Float) where
  draws_by : (d : ℕ) → (b : Bool) → eqb k.channels 2 ≡ b
      → (one two : ℕ) → one ≡ draws d seed → two ≡ draws d one → cond b two one ≡ draws (k.channels * d) seed
  draws_by d true e one two p q =
      let z : d + d ≡ 2 * d = omega arith in
      let n : d + d ≡ k.channels * d = z ∙ ap (λ n. n * d) (sym (eqb-true k.channels 2 e)) in
      q ∙ ap (draws d) p ∙ sym (draws-add d d seed) ∙ ap (λ n. draws n seed) n
  draws_by d false e one two p q =
      p ∙ ap (λ n. draws n seed) (sym (one-mul d) ∙ ap (λ n. n * d) (sym (one-channel k good e)))

  pub noise_draws : noise_seed (stereo k) (noise_blocks k seed energies) ≡ draws (draws_per_loss k) seed
  unfolding noise_seed noise_blocks stereo draws_per_loss
  noise_draws =
      draws_by (factor k * (last_edge - first_bin k)) (eqb k.channels 2) refl _ _ (block-draws k _ _ (passed k good).start) (block-draws k _ _ (passed k good).start)
      ∙ ap (λ n. draws n seed) (sym (mul_assoc k.channels (factor k) (last_edge - first_bin k)))
