-- The cosines that a pair of outputs reads, as steps round the circle, a quarter of it apart.
use mathlib.Core.Path.{◌≡◌, ap, ap₂, ◌∙◌, sym}
use mathlib.Core.List.{List}
use mathlib.Core.Logic.{inl, inr}
use Prim.Native.Nat.{ℕ, ◌+◌, ◌*◌, ◌/◌, ◌%◌}
use native.Mathlib.Omega.{arith}
use native.Mathlib.Nat.{mul_comm, mul_assoc, mul-add, div-add-mod', mod-add-mod, add-mul-mod_self_left}
use lib.ListN.{get_or}
use lib.Ieee.{Float, nan, binary64, mul, neg}
use borrow.Author.Tests.{eq-eqb, ne_eqb}
use Rattle.std.proofs.lemmas.Bool.{cases_lt}
use Rattle.float_sign.proofs.Sign.{mul-both}
use Rattle.cosine_circle.specs.Circle.{cos_at}
use Rattle.cosine_circle.proofs.Sizes.{Size, whole}
use Rattle.mdct.specs.Imdct.{angle, imdct_term}
use Rattle.mdct.proofs.Angles.{half_steps, place, on_circle, odd-parts}
use Rattle.cosine_pairs.specs.Pairs.{step_cos, pair_at}
use Rattle.cosine_pairs.proofs.Turns.{cos_half}
use Rattle.mdct_pairs.specs.Inputs.{input_at}

plain : (xs : List Float) (i k : ℕ) → (i % 4 ≡ 3 → ⊥) → i / 2 ≡ k → input_at xs i ≡ get_or xs k nan
unfolding input_at
plain xs i k h e = simp (ne_eqb (i % 4) 3 h, e)

signed : (xs : List Float) (i k : ℕ) → i % 4 ≡ 3 → i / 2 ≡ k → input_at xs i ≡ neg (get_or xs k nan)
unfolding input_at
signed xs i k h e = simp (eq-eqb (i % 4) 3 h, e)

module _ (n : ℕ) (z : Size n) where
  -- j steps further on are 2 * j * (960 / n) parts
  further : (i j c : ℕ) → j * (960 / n) ≡ c → 960 / n * (2 * (i + j) + 1) ≡ 960 / n * (2 * i + 1) + 2 * c
  further i j c e =
      let s = 960 / n in
      let f : 2 * (i + j) + 1 ≡ 2 * i + 1 + 2 * j = omega arith in
      ap (λ y. s * y) f ∙ mul-add s (2 * i + 1) (2 * j) ∙ ap (λ y. s * (2 * i + 1) + y) (mul_comm s (2 * j) ∙ mul_assoc 2 j s ∙ ap (λ y. 2 * y) e)

  quarters : (c : ℕ) → c * n * (960 / n) ≡ c * 960
  quarters c = mul_assoc c n (960 / n) ∙ ap (λ y. c * y) (whole n z)

  -- round and round
  pub step-around : (i : ℕ) → step_cos n (i % (4 * n)) ≡ step_cos n i
  unfolding step_cos
  step-around i =
      let q = i / (4 * n) in
      let r = i % (4 * n) in
      let split : r + q * (4 * n) ≡ i = omega (arith, div-add-mod' i (4 * n)) in
      let turns : q * (4 * n) * (960 / n) ≡ q * 3840 = mul_assoc q (4 * n) (960 / n) ∙ ap (λ y. q * y) (quarters 4) in
      let e : 960 / n * (2 * i + 1) ≡ 960 / n * (2 * r + 1) + 2 * (q * 3840) =
      ap (λ y. 960 / n * (2 * y + 1)) (sym split) ∙ further r (q * (4 * n)) (q * 3840) turns in
      ap cos_at (omega arith)

  -- half the circle on
  pub step-half : (i : ℕ) → step_cos n (i + 2 * n) ≡ neg (step_cos n i)
  unfolding step_cos
  step-half i =
      let a = 960 / n * (2 * i + 1) in
      let e : 960 / n * (2 * (i + 2 * n) + 1) ≡ a + 3840 = further i (2 * n) 1920 (quarters 2) in
      cos_half (a % 7680) (λ h. odd-parts n i z (omega arith)) (omega arith) _ (omega arith)

  -- where output t reads its cosine for input k
  pub step-angle : (t k : ℕ) → step_cos n (place n t k) ≡ cos_at (angle n t k)
  unfolding step_cos angle
  step-angle t k = ap cos_at (ap (λ y. y % 7680) (on_circle n t k z) ∙ omega arith)

  module _ (t k : ℕ) where
    -- output t + n reads a quarter on for an even input, and three quarters on for an odd one
    across : place n (t + n) k ≡ (place n t k + n * (2 * k + 1)) % (4 * n)
    unfolding place half_steps
    across =
        let h = (2 * t + 1 + n) * (2 * k + 1) in
        let f : 2 * (t + n) + 1 + n ≡ 2 * t + 1 + n + 2 * n = omega arith in
        let e : (2 * (t + n) + 1 + n) * (2 * k + 1) ≡ h + 2 * (n * (2 * k + 1)) =
        ap (λ y. y * (2 * k + 1)) f ∙ mul_comm _ (2 * k + 1) ∙ mul-add (2 * k + 1) (2 * t + 1 + n) (2 * n)
        ∙ ap₂ ◌+◌ (mul_comm (2 * k + 1) (2 * t + 1 + n)) (mul_comm (2 * k + 1) (2 * n) ∙ mul_assoc 2 n (2 * k + 1)) in
        let d : (2 * (t + n) + 1 + n) * (2 * k + 1) / 2 ≡ h / 2 + n * (2 * k + 1) = omega arith in
        ap (λ y. y % (4 * n)) d ∙ sym (mod-add-mod (h / 2) (4 * n) (n * (2 * k + 1)))

    module _ (p : ℕ) (e : p % (4 * n) ≡ place n t k) where
      moved : (c h : ℕ) → n * (2 * k + 1) ≡ c + 4 * n * h → (p + c) % (4 * n) ≡ place n (t + n) k
      moved c h f =
          sym (mod-add-mod p (4 * n) c) ∙ ap (λ y. (y + c) % (4 * n)) e ∙ sym (add-mul-mod_self_left (place n t k + c) (4 * n) h)
          ∙ ap (λ y. y % (4 * n)) (omega arith) ∙ sym across

      whole-turns : (c h : ℕ) → 2 * k + 1 ≡ c + 4 * h → n * (2 * k + 1) ≡ n * c + 4 * n * h
      whole-turns c h f =
          ap (λ y. n * y) f ∙ mul-add n c (4 * h) ∙ ap (λ y. n * c + y) (sym (mul_assoc n 4 h) ∙ ap (λ y. y * h) (mul_comm n 4))

      near : step_cos n p ≡ cos_at (angle n t k)
      near = sym (step-around p) ∙ ap (step_cos n) e ∙ step-angle t k

      far : (c : ℕ) → (p + c) % (4 * n) ≡ place n (t + n) k → step_cos n (p + c) ≡ cos_at (angle n (t + n) k)
      far c f = sym (step-around (p + c)) ∙ ap (step_cos n) f ∙ step-angle (t + n) k

      far-even : k % 2 ≡ 0 → step_cos n (p + n) ≡ cos_at (angle n (t + n) k)
      far-even h = far n (moved n (k / 2) (whole-turns 1 (k / 2) (omega arith) ∙ omega arith))

      far-odd : k % 2 ≡ 1 → neg (step_cos n (p + n)) ≡ cos_at (angle n (t + n) k)
      far-odd h =
          let f : p + n + 2 * n ≡ p + 3 * n = omega arith in
          sym (step-half (p + n)) ∙ ap (step_cos n) f ∙ far (3 * n) (moved (3 * n) (k / 2) (whole-turns 3 (k / 2) (omega arith) ∙ omega arith))

      placed : (i b c : ℕ) → i ≡ p → b ≡ c → i + b * n ≡ p + c * n
      placed i b c f g = ap₂ ◌+◌ f (ap (λ y. y * n) g)

      -- what a place of the pairs adds to the sum of its output
      module _ (xs : List Float) where
        pub near-term : (i j : ℕ) → i ≡ 2 * k → j ≡ 2 * p → mul binary64 (input_at xs i) (pair_at n j) ≡ imdct_term n xs t k
        unfolding input_at pair_at imdct_term
        near-term i j f g =
            let s : j / 2 + j % 2 * n ≡ p = placed (j / 2) (j % 2) 0 (omega arith) (omega arith) ∙ omega arith in
            ap₂ (mul binary64) (plain xs i k (omega arith) (omega arith)) (ap (step_cos n) s ∙ near)

        pub far-term : (i j : ℕ) → i ≡ 2 * k + 1 → j ≡ 2 * p + 1 → mul binary64 (input_at xs i) (pair_at n j) ≡ imdct_term n xs (t + n) k
        unfolding pair_at imdct_term
        far-term i j f g =
            let s : j / 2 + j % 2 * n ≡ p + n = placed (j / 2) (j % 2) 1 (omega arith) (omega arith) ∙ omega arith in
            ap (λ y. mul binary64 (input_at xs i) (step_cos n y)) s
            ∙ elim (cases_lt 0 (k % 2)) [
              | inr h ↦
                  let q : i ≡ 1 + 4 * (k / 2) = omega arith in
                  ap₂ (mul binary64) (plain xs i k (omega arith) (omega arith)) (far-even (omega arith))
              | inl h ↦
                  let q : i ≡ 3 + 4 * (k / 2) = omega arith in
                  ap (λ y. mul binary64 y (step_cos n (p + n))) (signed xs i k (omega arith) (omega arith))
                  ∙ mul-both binary64 (get_or xs k nan) (step_cos n (p + n))
                  ∙ ap (mul binary64 (get_or xs k nan)) (far-odd (omega arith))
            ]
