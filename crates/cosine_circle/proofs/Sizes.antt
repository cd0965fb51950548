-- The four frame sizes, 120 * 2 ^ lm.
use mathlib.Core.Path.{◌≡◌, refl, ap, ◌∙◌, sym, subst}
use mathlib.Core.Bool.{Bool, true, false, ◌||◌}
use Prim.Native.Nat.{ℕ, ◌+◌, ◌-◌, ◌*◌, ◌/◌, ◌%◌, ◌^◌, ◌≤◌, ◌<◌}
use native.Mathlib.Omega.{arith}
use native.Mathlib.Nat.{mul_assoc, mul_comm, mul-le-mul_left, div-eq_of_eq-mul_right}
use lib.Dec.{T, eqb}
use lib.Pow.{pow_pos, pow_mono, pow-add}
use borrow.Author.Tests.{eqb-true}
use Rattle.cosine_circle.specs.Circle.{is_frame_size}

pub record Size (n : ℕ) : Type 0 where
  pub lm : ℕ
  pub small : lm ≤ 3
  pub is : n ≡ 120 * 2 ^ lm

pick : (n : ℕ) (a b c d : Bool) → eqb n (120 * 2 ^ 0) ≡ a → eqb n (120 * 2 ^ 1) ≡ b → eqb n (120 * 2 ^ 2) ≡ c → eqb n (120 * 2 ^ 3) ≡ d
    → (((a || b) || c) || d) ≡ true → Size n
pick n true b c d ea eb ec ed t = record { lm = 0; small = omega arith; is = eqb-true n _ ea }
pick n false true c d ea eb ec ed t = record { lm = 1; small = omega arith; is = eqb-true n _ eb }
pick n false false true d ea eb ec ed t = record { lm = 2; small = omega arith; is = eqb-true n _ ec }
pick n false false false true ea eb ec ed t = record { lm = 3; small = omega arith; is = eqb-true n _ ed }
pick n false false false false ea eb ec ed t = absurd (subst T (sym t) tt)

pub sized : (n : ℕ) → is_frame_size n ≡ true → Size n
unfolding is_frame_size
sized n t = pick n _ _ _ _ refl refl refl refl t

module _ (n : ℕ) (z : Size n) where
  part : 2 ^ z.lm * 2 ^ (3 - z.lm) ≡ 8
  part = let h = z.small in let e : z.lm + (3 - z.lm) ≡ 3 = omega arith in sym (pow-add 2 z.lm (3 - z.lm)) ∙ ap (λ k. 2 ^ k) e

  times : 960 ≡ n * 2 ^ (3 - z.lm)
  times =
      sym (ap (λ k. 120 * k) part) ∙ sym (mul_assoc 120 (2 ^ z.lm) (2 ^ (3 - z.lm))) ∙ ap (λ k. k * 2 ^ (3 - z.lm)) (sym z.is)

  pub at_least : 120 ≤ n
  at_least = omega (arith, z.is, pow_pos z.lm)

  pub at_most : n ≤ 960
  at_most = omega (arith, z.is, pow_mono z.small)

  pub per : 960 / n ≡ 2 ^ (3 - z.lm)
  per = div-eq_of_eq-mul_right (omega (arith, at_least)) times

  pub even : n % 2 ≡ 0
  even = omega (arith, z.is)

  pub eights : 2 * n % 8 ≡ 0
  eights = omega (arith, z.is)

  -- n and the number of parts of the circle to each of its steps go together
  pub whole : n * (960 / n) ≡ 960
  whole = ap (λ k. n * k) per ∙ sym times

  pub per_most : 960 / n ≤ 8
  per_most = let h : 3 - z.lm ≤ 3 = omega arith in omega (arith, per, pow_mono h)

  pub per_least : 1 ≤ 960 / n
  per_least = omega (arith, per, pow_pos (3 - z.lm))

  -- each place of the circle is within 7,680 parts
  pub parts-most : (i : ℕ) → i < 4 * n → 960 / n * (2 * i + 1) ≤ 7680
  parts-most i h =
      let m : 2 * i + 1 ≤ 8 * n = omega arith in
      omega (arith, mul-le-mul_left (960 / n) m, mul_comm (960 / n) (8 * n), mul_assoc 8 n (960 / n), whole)

-- no frame is longer
pub few : (n : ℕ) → is_frame_size n ≡ true → n ≤ 960
few n f = at_most _ (sized _ f)
