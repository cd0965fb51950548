-- From the single steps' bounds to the sum's, over whole numbers alone. With c for 1, a band has
-- E, the sum of its values' squares; X / c, near E; R / c, near the root of X / c; G / c, near c / R;
-- and T, the sum of squares of samples near v * G. Of D a rounding may add or take 1: M is one less and P one more.
-- Of the root's square it is H, and H' one more or one less; of the f64 sum B, and B' one more. Assumes nothing.
use Prim.Native.Nat.{ℕ, ◌+◌, ◌-◌, ◌*◌, ◌^◌, ◌≤◌, ◌<◌}
use native.Mathlib.Nat.{mul-pos, mul-le-mul, mul-le-mul_left, mul-le-mul_right, le_of_mul-le-mul_right}
use native.Mathlib.Omega.{arith}
use lib.Dec.{lit<, lit≤}
use Rattle.float_near.specs.Near.{Near}
use Rattle.loudness.specs.Loudness.{reached}

-- ---- T is at most (P/D)⁴ * (H'/H) * (D/M) of 1, if each step goes up by so much at the most
up_by : (A B Q S T r e v : ℕ) → 0 < e → A * e ≤ B * r → Q * (T * r) ≤ S * (e * v) → A * Q * T ≤ B * S * v
up_by A B Q S T r e v p h k = le_of_mul-le-mul_right {k = e} (omega (arith, mul-le-mul_left (Q * T) h, mul-le-mul_left B k)) p

at_most : (D M P H H' c E X R G T : ℕ) → 0 < E → 0 < c
    → D * D * T ≤ P * P * (E * (G * G)) → D * (G * R) ≤ P * (c * c) → H * (X * c) ≤ H' * (R * R) → M * (E * c) ≤ D * X
    → H * M * (D * D * D * D) * T ≤ D * H' * (P * P * P * P) * (c * c)
at_most D M P H H' c E X R G T e p sum quotient root narrowed =
    let samples : D * D * D * D * (T * (R * R)) ≤ P * P * P * P * (E * (c * c) * (c * c)) =
    omega (arith, mul-le-mul_right (D * D * (R * R)) sum, mul-le-mul_left (P * P * E) (mul-le-mul quotient quotient)) in
    let square : H * M * (E * (c * c)) ≤ D * H' * (R * R) = omega (arith, mul-le-mul_left (H * c) narrowed, mul-le-mul_left D root) in
    up_by (H * M) (D * H') (D * D * D * D) (P * P * P * P) T (R * R) (E * (c * c)) (c * c) (mul-pos e (mul-pos p p)) square samples

-- ---- and at least (M/D)⁴ * (H'/H) * (D/P) * (B/B') of it, if each goes down by so much
down_by : (A B Q S T r e v : ℕ) → 0 < e → A * r ≤ B * e → S * (e * v) ≤ Q * (T * r) → A * S * v ≤ B * Q * T
down_by A B Q S T r e v p h k = le_of_mul-le-mul_right {k = e} (omega (arith, mul-le-mul_left (Q * T) h, mul-le-mul_left A k)) p

at_least : (D M P H H' B B' c E X R G T : ℕ) → 0 < E → 0 < c
    → M * M * (E * (G * G)) ≤ D * D * T → M * (c * c) ≤ D * (G * R) → H' * (R * R) ≤ H * (X * c) → B * (D * X) ≤ B' * (P * (E * c))
    → B * (D * H') * (M * M * M * M) * (c * c) ≤ B' * H * P * (D * D * D * D) * T
at_least D M P H H' B B' c E X R G T e p sum quotient root narrowed =
    let samples : M * M * M * M * (E * (c * c) * (c * c)) ≤ D * D * D * D * (T * (R * R)) =
    omega (arith, mul-le-mul_right (D * D * (R * R)) sum, mul-le-mul_left (M * M * E) (mul-le-mul quotient quotient)) in
    let square : B * (D * H') * (R * R) ≤ B' * H * P * (E * (c * c)) = omega (arith, mul-le-mul_left (H * c) narrowed, mul-le-mul_left (B * D) root) in
    down_by (B * (D * H')) (B' * H * P) (D * D * D * D) (M * M * M * M) T (R * R) (E * (c * c)) (c * c) (mul-pos e (mul-pos p p)) square samples

-- ---- the two as one part of w
within : (w T U K L K' L' : ℕ) → 0 < K → 0 < K' → K * T ≤ L * U → L * w ≤ K * w + K → L' * U ≤ K' * T → K' * w ≤ L' * w + K' → Near w T U
within w T U K L K' L' k k' above tops below bottoms = record {
  low = le_of_mul-le-mul_right {k = K'} (omega (arith, mul-le-mul_right U bottoms, mul-le-mul_left w below)) k';
  high = le_of_mul-le-mul_right {k = K} (omega (arith, mul-le-mul_right U tops, mul-le-mul_left w above)) k;
}

-- ---- with the roundings' own numbers: 2 ^ -24 each for the step to f32, the quotient and the products,
-- 2 ^ -23 for the root's square, 2 ^ -47 for the f64 sum
-- the most and the least that T is of 1, as fractions
abbrev most-num : ℕ
most-num = 2 ^ 24 * (2 ^ 23 + 1) * ((2 ^ 24 + 1) * (2 ^ 24 + 1) * (2 ^ 24 + 1) * (2 ^ 24 + 1))

abbrev most-den : ℕ
most-den = 2 ^ 23 * (2 ^ 24 - 1) * (2 ^ 24 * 2 ^ 24 * 2 ^ 24 * 2 ^ 24)

abbrev least-num : ℕ
least-num = 2 ^ 47 * (2 ^ 24 * (2 ^ 23 - 1)) * ((2 ^ 24 - 1) * (2 ^ 24 - 1) * (2 ^ 24 - 1) * (2 ^ 24 - 1))

abbrev least-den : ℕ
least-den = (2 ^ 47 + 1) * 2 ^ 23 * (2 ^ 24 + 1) * (2 ^ 24 * 2 ^ 24 * 2 ^ 24 * 2 ^ 24)

-- X / c is near E: the f64 sum is E or a little more, and rounded to f32 it goes either way
pub record Narrowed (c E X : ℕ) : Type 0 where
  pub low : (2 ^ 24 - 1) * (E * c) ≤ 2 ^ 24 * X
  pub high : 2 ^ 47 * (2 ^ 24 * X) ≤ (2 ^ 47 + 1) * ((2 ^ 24 + 1) * (E * c))

pub sums-to : (c E X R G T : ℕ) → 0 < c → 1 ≤ E → Narrowed c E X → Near (2 ^ 23) (X * c) (R * R) → Near (2 ^ 24) (G * R) (c * c)
    → (2 ^ 24 - 1) * (2 ^ 24 - 1) * (E * (G * G)) ≤ 2 ^ 24 * 2 ^ 24 * T → 2 ^ 24 * 2 ^ 24 * T ≤ (2 ^ 24 + 1) * (2 ^ 24 + 1) * (E * (G * G))
    → Near reached T (c * c)
sums-to c E X R G T p e narrowed root quotient sum_low sum-high =
    within reached T (c * c) most-den most-num least-den least-num (lit< tt) (lit< tt)
    (at_most (2 ^ 24) (2 ^ 24 - 1) (2 ^ 24 + 1) (2 ^ 23) (2 ^ 23 + 1) c E X R G T e p
    sum-high (up (G * R) (c * c) quotient.high) (over (R * R) (X * c) root.high) narrowed.low)
    (lit≤ tt)
    (at_least (2 ^ 24) (2 ^ 24 - 1) (2 ^ 24 + 1) (2 ^ 23) (2 ^ 23 - 1) (2 ^ 47) (2 ^ 47 + 1) c E X R G T e p
    sum_low (down (G * R) (c * c) quotient.low) (under (R * R) (X * c) root.low) narrowed.high)
    (lit≤ tt)
  where
    up : (x y : ℕ) → 2 ^ 24 * x ≤ 2 ^ 24 * y + y → 2 ^ 24 * x ≤ (2 ^ 24 + 1) * y
    up x y h = omega arith

    down : (x y : ℕ) → 2 ^ 24 * y ≤ 2 ^ 24 * x + y → (2 ^ 24 - 1) * y ≤ 2 ^ 24 * x
    down x y h = omega arith

    over : (x y : ℕ) → 2 ^ 23 * y ≤ 2 ^ 23 * x + x → 2 ^ 23 * y ≤ (2 ^ 23 + 1) * x
    over x y h = omega arith

    under : (x y : ℕ) → 2 ^ 23 * x ≤ 2 ^ 23 * y + x → (2 ^ 23 - 1) * x ≤ 2 ^ 23 * y
    under x y h = omega arith
