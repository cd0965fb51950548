-- Of the two numbers that bracket a value, the one that is delivered: what the code asks of it, and that it is `closest`.
-- Assumes nothing.
use mathlib.Core.Path.{◌≡◌, refl, sym, ap, ◌∙◌, subst}
use mathlib.Core.Logic.{inl, inr}
use Prim.Native.Nat.{ℕ, zero, suc, ◌+◌, ◌-◌, ◌*◌, ◌/◌, ◌%◌, ◌≤◌, ◌<◌, compare, Ordering}
use native.Mathlib.Nat.{le_antisymm, suc-mul, mod-lt, div-add-mod'}
use native.Mathlib.Numerals.{add-one}
use native.Mathlib.Omega.{arith}
use mathlib.Core.Bool.{cond}
use lib.Dec.{eqb, lit<}
use lib.Ieee.Nearest.{closest}
use Rattle.float_bits.proofs.Laws.{here_or_on, compare-lt, compare-eq, compare-gt, nearest-lt, nearest-eq, nearest-gt}
use Rattle.float_narrow.specs.Clause.{lower, upper, nearer, delivered}

-- ---- by the distances: the remainder, and what it lacks of u
pub under-is : (q u : ℕ) → q - q / u * u ≡ q % u
under-is q u = rest q (q / u * u) (q % u) (div-add-mod' q u)
  where
    rest : (q x r : ℕ) → x + r ≡ q → q - x ≡ r
    rest q x r h = omega arith

over-is : (q u : ℕ) → suc (q / u) * u - q ≡ u - q % u
over-is q u = ap (λ (z : ℕ). z - q) (suc-mul (q / u) u) ∙ rest q (q / u * u) (q % u) u (div-add-mod' q u)
  where
    rest : (q x r u : ℕ) → x + r ≡ q → x + u - q ≡ u - r
    rest q x r u h = omega arith

chosen : (q u : ℕ) (o : Ordering) → compare (q % u) (u - q % u) ≡ o → delivered q u ≡ nearer o (q / u) (suc (q / u))
unfolding delivered lower upper
chosen q u o e =
    ap (λ (z : ℕ). nearer (compare z (suc (q / u) * u - q)) (q / u) (suc (q / u))) (under-is q u)
    ∙ ap (λ (z : ℕ). nearer (compare (q % u) z) (q / u) (suc (q / u))) (over-is q u)
    ∙ ap (λ (z : Ordering). nearer z (q / u) (suc (q / u))) e

-- ---- what the code asks, of r under the value
pub lower-nearer : (q u r : ℕ) → r ≡ q % u → r < u - r → q / u ≡ delivered q u
unfolding nearer
lower-nearer q u r e h = sym (chosen q u Ordering.lt (compare-lt (q % u) (u - q % u) (subst (λ (z : ℕ). z < u - z) e h)))

pub upper-nearer : (q u r : ℕ) → r ≡ q % u → u - r < r → q / u + 1 ≡ delivered q u
unfolding nearer
upper-nearer q u r e h = add-one (q / u) ∙ sym (chosen q u Ordering.gt (compare-gt (q % u) (u - q % u) (subst (λ (z : ℕ). u - z < z) e h)))

even : (w x : ℕ) → x < 2 → cond (eqb x 0) w (suc w) ≡ w + x
even w zero h = omega arith
even w (suc zero) h = omega arith
even w (suc (suc x)) h = absurd (no h)
  where
    no : suc (suc x) < 2 → ⊥
    no h = omega arith

equally_near : (q u r : ℕ) → r ≡ q % u → u - r ≤ r → r ≤ u - r → delivered q u ≡ q / u + q / u % 2
unfolding nearer
equally_near q u r e h l =
    chosen q u Ordering.eq (compare-eq (q % u) (u - q % u) (subst (λ (z : ℕ). z ≡ u - z) e (le_antisymm l h)))
    ∙ even (q / u) (q / u % 2) (mod-lt (q / u) (lit< tt))

pub even-near : (q u r : ℕ) → r ≡ q % u → u - r ≤ r → r ≤ u - r → q / u % 2 ≡ 0 → q / u ≡ delivered q u
even-near q u r e h l m = let same : q / u ≡ q / u + q / u % 2 = omega arith in same ∙ sym (equally_near q u r e h l)

pub odd-near : (q u r : ℕ) → r ≡ q % u → u - r ≤ r → r ≤ u - r → (q / u % 2 ≡ 0 → ⊥) → q / u + 1 ≡ delivered q u
odd-near q u r e h l m = one (q / u) m ∙ sym (equally_near q u r e h l)
  where
    one : (w : ℕ) → (w % 2 ≡ 0 → ⊥) → w + 1 ≡ w + w % 2
    one w n = omega arith

-- ---- the kit's, by twice the remainder
pub delivered-is : (q u : ℕ) → 0 < u → delivered q u ≡ closest q u
delivered-is q u U = elim (here_or_on r (u - r)) [
  | inl l ↦ sym (lower-nearer q u r refl l) ∙ sym (nearest-lt (q / u) (r * 2) u (less r u l))
  | inr g ↦ elim (here_or_on (u - r) r) [
    | inl l ↦ sym (upper-nearer q u r refl l) ∙ sym (nearest-gt (q / u) (r * 2) u (more r u (mod-lt q U) l))
    | inr k ↦ equally_near q u r refl g k ∙ sym (nearest-eq (q / u) (r * 2) u (half r u (mod-lt q U) g k))
  ]
]
  where
    r : ℕ
    r = q % u

    less : (r u : ℕ) → r < u - r → r * 2 < u
    less r u h = omega arith

    more : (r u : ℕ) → r < u → u - r < r → u < r * 2
    more r u h l = omega arith

    half : (r u : ℕ) → r < u → u - r ≤ r → r ≤ u - r → r * 2 ≡ u
    half r u h g k = omega arith
