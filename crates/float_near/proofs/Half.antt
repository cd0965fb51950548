-- Rounding is within half a step of its exact value; in the normal range that is a part of one in 2 ^ prec of it.
-- Everything is in units of the format's smallest value, over whole numbers: a / c is a * 2 ^ low / c units,
-- and `grid` of them is what it is rounded to. Assumes nothing.
use mathlib.Core.Path.{◌≡◌, refl, sym, ap, ◌∙◌, subst}
use mathlib.Core.Logic.{◌⊎◌, inl, inr}
use Prim.Native.Nat.{ℕ, ◌+◌, ◌-◌, ◌*◌, ◌/◌, ◌%◌, ◌^◌, ◌≤◌, ◌<◌, compare}
use native.Mathlib.Nat.{le_trans, le_of_eq, lt_of_le_of_lt, lt_of_lt_of_le, eq-or-lt_of_le, mul_assoc, mul_comm, mul-pos}
use native.Mathlib.Nat.{mul-le-mul_left, mul-le-mul_right, mul-lt-mul_of_pos_right, mod-lt, div-add-mod', le-div_iff_mul-le, lt_irrefl}
use native.Mathlib.Omega.{arith}
use lib.Pow.{pow-add, pow_pos, pow_mono}
use lib.Ieee.{Format, binary32, binary64, prec, low, size, nearest}
use lib.Ieee.Digits.{size_reaches}
use lib.Ieee.Fits.{two, two-le_pos}
use lib.Ieee.Nearest.{closest}
use lib.Ieee.Order.{drop}
use lib.Ieee.Scale.{grid}
use Rattle.float_bits.proofs.Laws.{here_or_on, parity, nearest-lt, nearest-eq, nearest-gt}
use Rattle.float_near.specs.Near.{Near}

-- ---- a whole number nearest to a / u is within a half of it
abbrev Half : ℕ → ℕ → ℕ → Type 0
Half k a u = (2 * a ≤ 2 * (k * u) + u) × (2 * (k * u) ≤ 2 * a + u)

at-tie : (w d u a p : ℕ) → w * u + d ≡ a → d * 2 ≡ u → p ≡ 0 ⊎ p ≡ 1 → Half (w + p) a u
at-tie w d u a p e t (inl z) = rw z (omega arith, omega arith)
at-tie w d u a p e t (inr z) = rw z (omega arith, omega arith)

pub closest-half : (a u : ℕ) → 0 < u → Half (closest a u) a u
closest-half a u p = go (a / u) (a % u) (div-add-mod' a u) (mod-lt a p) (here_or_on (a % u * 2) u)
  where
    go : (w d : ℕ) → w * u + d ≡ a → d < u → (d * 2 < u) ⊎ (u ≤ d * 2) → Half (nearest w (compare (d * 2) u)) a u
    go w d e l (inl c) = rw (nearest-lt w (d * 2) u c) (omega arith, omega arith)
    go w d e l (inr c) = elim (eq-or-lt_of_le c) [
      | inl t ↦ rw (nearest-eq w (d * 2) u (sym t)) (at-tie w d u a (w % 2) e (sym t) (parity w))
      | inr t ↦ rw (nearest-gt w (d * 2) u t) (omega arith, omega arith)
    ]

-- so it is on the same side of a whole number
at_least : (w k u a : ℕ) → 0 < u → Half k a u → w * u ≤ a → w ≤ k
at_least w k u a p h l = elim (here_or_on k w) [
  | inl g ↦ let z : ⊥ = omega (arith, mul-le-mul_right u g, h.0) in absurd z
  | inr g ↦ g
]

at_most : (w k u a : ℕ) → 0 < u → Half k a u → a ≤ w * u → k ≤ w
at_most w k u a p h l = elim (here_or_on w k) [
  | inl g ↦ let z : ⊥ = omega (arith, mul-le-mul_right u g, h.1) in absurd z
  | inr g ↦ g
]

-- ---- a / c rounded is within half a step of it, a step being 2 ^ drop units
module _ (f : Format) (a c : ℕ) (C : 0 < c) where
  -- a / c in units is n / c
  abbrev n : ℕ
  n = a * 2 ^ low f

  abbrev step : ℕ
  step = c * 2 ^ drop (prec f) n c

  step-pos : 0 < step
  step-pos = mul-pos C (pow_pos (drop (prec f) n c))

  as-steps : grid f a c * c ≡ closest n step * step
  as-steps = mul_assoc (closest n step) (2 ^ drop (prec f) n c) c ∙ ap (λ (z : ℕ). closest n step * z) (mul_comm (2 ^ drop (prec f) n c) c)

  pub grid-half : (2 * n ≤ 2 * (grid f a c * c) + step) × (2 * (grid f a c * c) ≤ 2 * n + step)
  grid-half = rw as-steps (closest-half n step step-pos)

  -- in the normal range 2 ^ (prec - 1) steps are no more than the value
  steps-in : prec f ≤ size (n / c) → 2 ^ (prec f - 1) * step ≤ n
  steps-in h =
      let p = prec f - 1 in
      let k = drop (prec f) n c in
      let P = two-le_pos (prec f) (two f) in
      let r : 2 ^ (p + k) * c ≤ n = (le-div_iff_mul-le C).0 (size_reaches (n / c) (p + k) (omega arith)) in
      le_trans (le_of_eq (ap (λ (z : ℕ). 2 ^ p * z) (mul_comm c (2 ^ k)) ∙ sym (mul_assoc (2 ^ p) (2 ^ k) c) ∙ ap (λ (z : ℕ). z * c) (sym (pow-add 2 p k)))) r

  pub grid-near : prec f ≤ size (n / c) → Near (2 ^ prec f) (grid f a c * c) n
  grid-near h = subst (λ (d : ℕ). Near d (grid f a c * c) n) (sym (twice f)) (near (2 ^ (prec f - 1)) (grid f a c * c) n step grid-half (steps-in h))
    where
      twice : (f : Format) → 2 ^ prec f ≡ 2 * 2 ^ (prec f - 1)
      twice binary32 = refl
      twice binary64 = refl

      near : (d g v u : ℕ) → (2 * v ≤ 2 * g + u) × (2 * g ≤ 2 * v + u) → d * u ≤ v → Near (2 * d) g v
      near d g v u h k = record {
        low = omega (arith, mul-le-mul_left d h.0);
        high = omega (arith, mul-le-mul_left d h.1);
      }

  -- ---- a value q * 2 ^ j that the format holds stays on its side of what is rounded

  -- where no more digits than j are dropped it is a whole number of steps
  whole-steps : (q j : ℕ) → drop (prec f) n c ≤ j → (q * 2 ^ (j - drop (prec f) n c) * 2 ^ drop (prec f) n c ≡ q * 2 ^ j)
  whole-steps q j h =
      let k = drop (prec f) n c in
      let e : j - k + k ≡ j = omega arith in
      mul_assoc q (2 ^ (j - k)) (2 ^ k) ∙ ap (λ (z : ℕ). q * z) (sym (pow-add 2 (j - k) k) ∙ ap (λ (z : ℕ). 2 ^ z) e)

  steps_of : (w : ℕ) → w * step ≡ w * 2 ^ drop (prec f) n c * c
  steps_of w = ap (λ (z : ℕ). w * z) (mul_comm c (2 ^ drop (prec f) n c)) ∙ sym (mul_assoc w (2 ^ drop (prec f) n c) c)

  pub holds-below : (q j : ℕ) → q ≤ 2 ^ prec f → q * 2 ^ j * c ≤ n → q * 2 ^ j ≤ grid f a c
  holds-below q j Q h = go (here_or_on j (drop (prec f) n c))
    where
      go : (j < drop (prec f) n c) ⊎ (drop (prec f) n c ≤ j) → q * 2 ^ j ≤ grid f a c
      go (inl l) =
          let p = prec f - 1 in
          let P = two-le_pos (prec f) (two f) in
          let w : 2 ^ p ≤ closest n step = at_least (2 ^ p) (closest n step) step n step-pos (closest-half n step step-pos) (steps-in (omega arith)) in
          le_trans (mul-le-mul_right (2 ^ j) Q)
          (le_trans (le_of_eq (sym (pow-add 2 (prec f) j)))
          (le_trans (pow_mono (omega arith)) (le_trans (le_of_eq (pow-add 2 p (drop (prec f) n c))) (mul-le-mul_right (2 ^ drop (prec f) n c) w))))
      go (inr l) =
          let w = q * 2 ^ (j - drop (prec f) n c) in
          let e = whole-steps q j l in
          le_trans (le_of_eq (sym e))
          (mul-le-mul_right (2 ^ drop (prec f) n c)
          (at_least w (closest n step) step n step-pos (closest-half n step step-pos) (le_trans (le_of_eq (steps_of w ∙ ap (λ (z : ℕ). z * c) e)) h)))

  pub holds-above : (q j : ℕ) → q < 2 ^ prec f → n ≤ q * 2 ^ j * c → grid f a c ≤ q * 2 ^ j
  holds-above q j Q h = go (here_or_on j (drop (prec f) n c))
    where
      go : (j < drop (prec f) n c) ⊎ (drop (prec f) n c ≤ j) → grid f a c ≤ q * 2 ^ j
      go (inl l) =
          let r : 2 ^ (prec f + j) * c ≤ n = (le-div_iff_mul-le C).0 (size_reaches (n / c) (prec f + j) (omega arith)) in
          absurd (lt_irrefl n
          (lt_of_le_of_lt h
          (lt_of_lt_of_le (mul-lt-mul_of_pos_right (mul-lt-mul_of_pos_right Q (pow_pos j)) C)
          (le_trans (le_of_eq (ap (λ (z : ℕ). z * c) (sym (pow-add 2 (prec f) j)))) r))))
      go (inr l) =
          let w = q * 2 ^ (j - drop (prec f) n c) in
          let e = whole-steps q j l in
          le_trans
          (mul-le-mul_right (2 ^ drop (prec f) n c)
          (at_most w (closest n step) step n step-pos (closest-half n step step-pos) (le_trans h (le_of_eq (sym (steps_of w ∙ ap (λ (z : ℕ). z * c) e))))))
          (le_of_eq e)
