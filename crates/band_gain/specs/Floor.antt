-- `floor_from` is the greatest whole number not above the fraction: it is not above, and one more is.
use Rattle.std.specs.Prelude.{◌≡◌, ℕ, ◌+◌, ◌-◌, ◌*◌, ◌/◌, ◌%◌, ◌<◌, ◌≤◌, Bool, true, false, cond, ◌==◌, refl}
use Rattle.std.proofs.Common.{ap, ◌∙◌, div-add-mod', mod-lt, add-mul, one-mul, div-lt_iff_lt-mul, arith, eqb-true}
use Rattle.std.proofs.lemmas.Bool.{eqb-false}
use Rattle.band_gain.specs.Gain.{floor_from}

-- k <= a / b < k + 1
pub floor-above : (a b k : ℕ) → 0 < b → floor_from false a b ≡ 38_400 + k → (k * b ≤ a) × (a < (k + 1) * b)
unfolding floor_from
floor-above a b k B e =
    let q : k ≡ a / b = omega arith in
    let p : k * b ≡ a / b * b = ap (λ z. z * b) q in (
      omega (arith, div-add-mod' a b),
      omega (arith, div-add-mod' a b, mod-lt a B, add-mul k 1 b, one-mul b),
    )

-- -k <= -a / b < -k + 1
pub floor-below : (a b k : ℕ) → 0 < b → a < 38_400 * b → floor_from true a b + k ≡ 38_400 → (a ≤ k * b) × (k * b < a + b)
unfolding floor_from
floor-below a b k B h e = go (a % b == 0) refl e
  where
    less : a / b < 38_400
    less = (div-lt_iff_lt-mul B).1 h

    go : (t : Bool) → (a % b == 0) ≡ t → 38_400 - (a / b + cond t 0 1) + k ≡ 38_400 → (a ≤ k * b) × (k * b < a + b)
    go true z f =
        let q : k ≡ a / b = omega (arith, less) in
        let p : k * b ≡ a / b * b = ap (λ y. y * b) q in
        (omega (arith, div-add-mod' a b, eqb-true (a % b) 0 z), omega (arith, div-add-mod' a b))
    go false z f =
        let q : k ≡ a / b + 1 = omega (arith, less) in
        let p : k * b ≡ a / b * b + b = ap (λ y. y * b) q ∙ add-mul (a / b) 1 b ∙ ap (λ y. a / b * b + y) (one-mul b) in
        (omega (arith, div-add-mod' a b, mod-lt a B), omega (arith, div-add-mod' a b, eqb-false (a % b) 0 z))
