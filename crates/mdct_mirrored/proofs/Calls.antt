-- What the entry answers: the outputs of half of the sums, or a refusal.
use mathlib.Core.Path.{◌≡◌, ap, ap₂, ◌∙◌, sym}
use mathlib.Core.List.{List}
use mathlib.Core.Bool.{Bool, true}
use Prim.Native.Nat.{ℕ, ◌*◌, ◌%◌, ◌≤◌}
use lib.ListN.{length, take, replicate}
use lib.Ieee.{Float, binary64, of_bits}
use Rattle.std.specs.Prelude.{Result, Ok, Err, is_ok}
use Rattle.reply.specs.declared.Refused.{Refused}
use Rattle.reply.specs.Reply.{reply, replied, value_or, reply-lent, reply-taken, reply-yes}
use Rattle.cosine_circle.specs.Circle.{is_frame_size}
use Rattle.cosine_circle.proofs.Sizes.{sized, even, few}
use Rattle.mdct.specs.Imdct.{imdct, imdct_takes, takes-frame, takes_fits}
use Rattle.mdct_work.specs.Work.{total, pair_sums, values}
use Rattle.mdct_pairs.proofs.Lent.{lent-count}
use Rattle.mdct_pairs.proofs.Takes.{takes}
use Rattle.mdct_pairs.specs.Pairs.{pair_reply, summed, Sums}
use Rattle.mdct_mirrored.proofs.Same.{mirrored-same}
use Rattle.mdct_mirrored.specs.Mirrored.{Transform, mirrored_outputs, mirrored, transformed, mirrored_reply}

-- n inputs that are taken: their sums have room within a frame's, and come back as many, an even number
module _ (n m : ℕ) (t : imdct_takes n m ≡ true) where
  pub few-in : n ≤ 960
  few-in = few n (takes_fits n m t).0

  pub lent-in : n ≡ length (take n (replicate 960 (of_bits binary64 0)))
  lent-in = lent-count (of_bits binary64 0) n 960 few-in

  module _ (y : List Float) (e : length y ≡ length (take n (replicate 960 (of_bits binary64 0)))) where
    pub back-even : length y % 2 ≡ 0
    back-even = ap (λ z. z % 2) (e ∙ sym lent-in) ∙ even n (sized n (takes_fits n m t).0)

    pub back-room : m ≡ 2 * length y
    back-room = (takes_fits n m t).1 ∙ ap (λ z. 2 * z) (sym (e ∙ sym lent-in))

-- pair_sums takes a frame's inputs and as much room
module _ (xs was : List Float) (f : is_frame_size (length xs) ≡ true) (l : length was ≡ length xs) where
  pub sums-taken : {r : Result ℕ Refused} {e : Refused} {y : Sums} → replied r y ≡ pair_reply xs was → r ≡ Err e → ⊥
  unfolding pair_reply
  sums-taken q e = let t = sym (ap is_ok e) ∙ reply-taken _ _ _ q ∙ takes xs was f l in (cc)

  pub summed-is : {r : Result ℕ Refused} {p : ℕ} {y : List Float} → replied r (summed y (value_or 0 r)) ≡ pair_reply xs was → r ≡ Ok p
      → summed y p ≡ summed (values (pair_sums (length xs) xs)) (total (pair_sums (length xs) xs))
  unfolding pair_reply
  summed-is {y = y} q e = ap (λ r. summed y (value_or 0 r)) (sym e) ∙ reply-lent _ _ _ q (takes xs was f l)

module _ (xs out : List Float) where
  pub taken : (sums y : List Float) (p : ℕ) → imdct_takes (length xs) (length out) ≡ true → length sums ≡ length xs
      → summed sums p ≡ summed (values (pair_sums (length xs) xs)) (total (pair_sums (length xs) xs)) → y ≡ mirrored_outputs (length sums) sums
      → reply true (transformed y p) ≡ mirrored_reply xs out
  unfolding mirrored_reply mirrored
  taken sums y p t k s o =
      reply-yes _ _ _ t
      (ap₂ transformed (o ∙ ap₂ mirrored_outputs k (ap (λ (z : Sums). z.values) s)) (ap (λ (z : Sums). z.products) s))

  -- it takes a frame's inputs and room for twice as many outputs
  pub mirrored-taken : {r : Result ℕ Refused} {e : Refused} {y : Transform} → is_frame_size (length xs) ≡ true → length out ≡ 2 * length xs
      → replied r y ≡ mirrored_reply xs out → r ≡ Err e → ⊥
  unfolding mirrored_reply
  mirrored-taken f l q e = let t = sym (ap is_ok e) ∙ reply-taken _ _ _ q ∙ takes-frame _ _ f l in (cc)

  -- whoever calls it gets the direct sum's outputs
  pub reply-same : (y : List Float) (p : ℕ) (took : Bool) → is_frame_size (length xs) ≡ true → length out ≡ 2 * length xs
      → reply took (transformed y p) ≡ mirrored_reply xs out → y ≡ imdct (length xs) xs
  unfolding mirrored_reply
  reply-same y p took f l e = ap (λ (z : Transform). z.outputs) (reply-lent _ _ _ e (takes-frame _ _ f l)) ∙ mirrored-same (length xs) xs f
