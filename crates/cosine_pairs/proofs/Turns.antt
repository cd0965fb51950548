-- The circle of cosines turned by half of it, and turned over: the same entries of the table, with the sign turned or kept.
-- No quarter of the circle is asked for, since a zero cosine's sign is not turned there.
use mathlib.Core.Path.{◌≡◌, refl, ap, ◌∙◌, sym}
use mathlib.Core.Bool.{true, false}
use mathlib.Core.Logic.{inl, inr}
use Prim.Native.Nat.{ℕ, ◌+◌, ◌-◌, ◌%◌, ◌<◌}
use native.Mathlib.Omega.{arith}
use lib.ListN.{get_or}
use lib.Ieee.{Float, nan, inf, fin, neg}
use Rattle.std.proofs.lemmas.Bool.{cases_lt}
use Rattle.cosine_table.specs.Cosines.{cosines}
use Rattle.cosine_circle.specs.Circle.{cos_at}
use Rattle.cosine_circle.proofs.Quadrants.{first, second, third, fourth}

pub neg-neg : (x : Float) → neg (neg x) ≡ x
unfolding neg
neg-neg nan = refl
neg-neg (inf false) = refl
neg-neg (inf true) = refl
neg-neg (fin false m e) = refl
neg-neg (fin true m e) = refl

entry : (i j : ℕ) → i ≡ j → get_or cosines i nan ≡ get_or cosines j nan
entry i j e = ap (λ z. get_or cosines z nan) e

module _ (a : ℕ) (q : a % 16 ≡ 0 → ⊥) (l : a < 7680) where
  -- half a circle on
  pub cos_half : (b : ℕ) → b ≡ (a + 3840) % 7680 → cos_at b ≡ neg (cos_at a)
  cos_half b e = elim (cases_lt 1920 a) [
    | inr h ↦ third b (omega arith) (omega arith) ∙ ap neg (entry (b - 3840) a (omega arith)) ∙ ap neg (sym (first a h))
    | inl g ↦ elim (cases_lt 3840 a) [
      | inr h ↦ fourth b (omega (arith, q)) ∙ entry (7680 - b) (3840 - a) (omega (arith, q)) ∙ sym (neg-neg _) ∙ ap neg (sym (second a g h))
      | inl g ↦ elim (cases_lt 5760 a) [
        | inr h ↦ first b (omega (arith, q)) ∙ entry b (a - 3840) (omega (arith, q)) ∙ sym (neg-neg _) ∙ ap neg (sym (third a g h))
        | inl g ↦ second b (omega arith) (omega arith) ∙ ap neg (entry (3840 - b) (7680 - a) (omega arith)) ∙ ap neg (sym (fourth a g))
      ]
    ]
  ]

  -- turned over
  pub cos_even : (b : ℕ) → b ≡ 7680 - a → cos_at b ≡ cos_at a
  cos_even b e = elim (cases_lt 1920 a) [
    | inr h ↦ fourth b (omega (arith, q)) ∙ entry (7680 - b) a (omega arith) ∙ sym (first a h)
    | inl g ↦ elim (cases_lt 3840 a) [
      | inr h ↦ third b (omega (arith, q)) (omega (arith, q)) ∙ ap neg (entry (b - 3840) (3840 - a) (omega arith)) ∙ sym (second a g h)
      | inl g ↦ elim (cases_lt 5760 a) [
        | inr h ↦ second b (omega (arith, q)) (omega (arith, q)) ∙ ap neg (entry (3840 - b) (a - 3840) (omega arith)) ∙ sym (third a g h)
        | inl g ↦ first b (omega arith) ∙ entry b (7680 - a) (omega arith) ∙ sym (fourth a g)
      ]
    ]
  ]
