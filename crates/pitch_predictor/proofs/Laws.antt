-- What the steps make together, over plain variables.
use mathlib.Core.Path.{◌≡◌, ap, ap₂, ◌∙◌, sym}
use mathlib.Core.Bool.{Bool, true, false}
use mathlib.Core.List.{List, [], ◌++◌, append-nil}
use Prim.Native.Nat.{ℕ, ◌+◌, ◌≤◌}
use native.Mathlib.Omega.{arith}
use Rattle.std.specs.Prelude.{Ok, Err}
use lib.Dec.{eqb, lit≤}
use lib.ListN.{length, take, drop, length-append, length-drop, drop_of_length-le}
use lib.Seq.{slice, length-take-le, take_at, drop-drop}
use lib.Ieee.{Float}
use borrow.Author.Tests.{eq-eqb}
use Rattle.loops.specs.Logic.{and_both}
use Rattle.loops.specs.Part.{put}
use Rattle.reply.specs.Reply.{reply, reply_if, ok_if, reply-lent, reply-taken}
use Rattle.history.specs.History.{half, samples, channel, whole, tail_at, tails}
use Rattle.history.proofs.Parts.{slice-take}
use Rattle.pitch_fit.specs.Fit.{order, pitch_fit, length-pitch_fit, fit_takes}
use Rattle.pitch_predictor.specs.Predictor.{fitted_to}

-- a value, and a refusal
module _ {A : Type 0} (b : Bool) (x : A) where
  pub ok-yes : (y : A) → b ≡ true → y ≡ x → Ok y ≡ ok_if b x
  unfolding ok_if
  ok-yes y e q = ap Ok q ∙ sym (ap (λ z. ok_if z x) e)

  pub ok-no : b ≡ false → Err (record {}) ≡ ok_if b x
  unfolding ok_if
  ok-no e = sym (ap (λ z. ok_if z x) e)

module _ (h : List Float) (l : length h ≡ whole) (p : List Float) (m : length p ≡ order + order) where
  -- a fit takes 1,024 samples from a on and 24 coefficients z
  part-takes : (a : ℕ) (z : List Float) → a + half ≤ whole → length z ≡ order → fit_takes (length (take half (drop a h))) (length z) ≡ true
  unfolding fit_takes
  part-takes a z w k =
      and_both (eqb (length (take half (drop a h))) half) (eqb (length z) order)
      (eq-eqb _ _ (length-take-le half (drop a h) (omega (arith, length-drop a h))))
      (eq-eqb _ _ k)

  -- what it leaves of them
  fit-part : (a : ℕ) (z y : List Float) (t : Bool) → a + half ≤ whole → length z ≡ order
      → reply t y ≡ reply_if (fit_takes (length (take half (drop a h))) (length z)) (pitch_fit (take half (drop a h))) z → y ≡ pitch_fit (slice a (a + half) h)
  fit-part a z y t w k e = reply-lent _ _ _ e (part-takes a z w k) ∙ ap pitch_fit (sym (slice-take a half h (omega arith)))

  -- the first channel's coefficients, and the second one's behind them
  module _
      (y : List Float)
      (t : Bool)
      (e : reply t y ≡ reply_if (fit_takes (length (take half (drop half h))) (length (take order p))) (pitch_fit (take half (drop half h))) (take order p)) where
    pub first-taken : t ≡ true
    first-taken = reply-taken _ _ _ e ∙ part-takes half (take order p) (lit≤ tt) (length-take-le order p (omega arith))

    pub fit-first : y ≡ pitch_fit (slice half samples h)
    fit-first = fit-part half (take order p) y t (lit≤ tt) (length-take-le order p (omega arith)) e

  room-second : (y : List Float) → y ≡ pitch_fit (slice half samples h) → length (y ++ drop order p) ≡ order + order
  room-second y e = omega (arith, length-append y (drop order p), length-drop order p, ap length e, length-pitch_fit (slice half samples h))

  module _
      (y z : List Float)
      (t : Bool)
      (q : y ≡ pitch_fit (slice half samples h))
      (e : reply t z
      ≡ reply_if (fit_takes (length (take half (drop (channel + half) h))) (length (take order (drop order (y ++ drop order p)))))
      (pitch_fit (take half (drop (channel + half) h))) (take order (drop order (y ++ drop order p)))) where
    room : length (take order (drop order (y ++ drop order p))) ≡ order
    room = length-take-le order (drop order (y ++ drop order p)) (omega (arith, length-drop order (y ++ drop order p), room-second y q))

    pub second-taken : t ≡ true
    second-taken = reply-taken _ _ _ e ∙ part-takes (channel + half) (take order (drop order (y ++ drop order p))) (lit≤ tt) room

    pub fit-second : z ≡ pitch_fit (slice (channel + half) (channel + samples) h)
    fit-second = fit-part (channel + half) (take order (drop order (y ++ drop order p))) z t (lit≤ tt) room e

  pub fit-mono : (two : Bool) (y : List Float) → two ≡ false → y ≡ pitch_fit (slice half samples h) → y ++ drop order p ≡ fitted_to two p (tails h)
  unfolding fitted_to tails tail_at
  fit-mono two y b e = ap (λ z. z ++ drop order p) e ∙ sym (ap (λ w. fitted_to w p (tails h)) b)

  pub fit-stereo : (two : Bool) (y z : List Float) → two ≡ true → y ≡ pitch_fit (slice half samples h) → z ≡ pitch_fit (slice (channel + half) (channel + samples) h)
      → put order order z (y ++ drop order p) ≡ fitted_to two p (tails h)
  unfolding fitted_to tails tail_at
  fit-stereo two y z b e f =
      let ly : length y ≡ order = ap length e ∙ length-pitch_fit _ in
      let g : drop order (drop order (y ++ drop order p)) ≡ [] =
      drop-drop order order (y ++ drop order p) ∙ drop_of_length-le (y ++ drop order p) {i = order + order} (omega (arith, room-second y e)) in
      ap₂ (λ u v. u ++ (z ++ v)) (take_at y (drop order p) order ly) g
      ∙ ap₂ (λ u v. u ++ v) e (append-nil z ∙ f)
      ∙ sym (ap (λ w. fitted_to w p (tails h)) b)
