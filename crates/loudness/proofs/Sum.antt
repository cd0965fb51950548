-- The f64 sum of a band's squares is exact but for the 1e-15 that it starts from:
-- it lies between the squares' sum A and A + 2 ^ (size A - 48). Assumes nothing.
use mathlib.Core.Path.{◌≡◌, refl, sym, ap, ◌∙◌, subst}
use mathlib.Core.Bool.{Bool, true, false}
use Prim.Native.Nat.{ℕ, zero, suc, ◌+◌, ◌-◌, ◌*◌, ◌^◌, ◌≤◌, ◌<◌, zero-le}
use native.Mathlib.Nat.{le_trans, le_of_eq, lt_of_le_of_lt, lt_of_lt_of_le, mul-le-mul, mul-le-mul_right, add-le-add, mul_assoc, add-mul, one-mul}
use native.Mathlib.Omega.{arith}
use native.Mathlib.Numerals.{add-one}
use lib.Dec.{lit<, lit≤}
use lib.Pow.{pow-add, pow_pos, pow_mono, shl_lt}
use lib.Ieee.{Float, binary64, size, round, add, mul, unlike}
use lib.Ieee.Digits.{size-lt, size-le}
use lib.Ieee.Back.{round_whole}
use lib.Ieee.Exact.{HasValue}
use lib.Ieee.Scale.{grid}
use Rattle.loops.specs.Sum.{sum_to, sum-none, sum_more}
use Rattle.band_quant.specs.Renormalise.{floor64}
use Rattle.band_quant.specs.Floor.{floor_units, floor-is, floor_faint}
use Rattle.float_near.proofs.Half.{holds-below, holds-above}
use Rattle.float_near.proofs.Operations.{round-grid, mul_at, add_at}
use Rattle.loudness.specs.Loudness.{widest}

-- 1 in 2 ^ -1074
abbrev pub one64 : ℕ
one64 = 2 ^ 1074

-- x is A or a little more
pub record Summed (x : Float) (A : ℕ) : Type 0 where
  pub w : ℕ
  pub is : HasValue x false w one64
  pub low : A * one64 ≤ w
  pub high : w ≤ A * one64 + 2 ^ (size A + 1026)

-- ---- the start
pub start : Summed floor64 0
unfolding size
start = record { w = floor_units; is = floor-is; low = zero-le; high = le_trans floor_faint (lit≤ tt) }

-- ---- one square more
-- of the sum's exact value, with z = 2 ^ (size A + 1026)
below_it : (w A b L : ℕ) → A * L ≤ w → (A + b) * L * (L * 1) ≤ (w * 1 + b * L) * L
below_it w A b L h = omega (arith, mul-le-mul_right L h)

above_it : (w A b L z q : ℕ) → w ≤ A * L + z → (A + b) * L + z ≤ q → (w * 1 + b * L) * L ≤ q * (L * 1)
above_it w A b L z q h k = omega (arith, mul-le-mul_right L h, mul-le-mul_right L k)

size_mono : (a b : ℕ) → a ≤ b → size a ≤ size b
size_mono a b h = size-le a (size b) (lt_of_le_of_lt h (size-lt b))

module _ (A : ℕ) (h : A < 2 ^ 30) where
  -- A + 2 ^ (size A - 48) in units is q * 2 ^ j, with few enough digits
  abbrev q : ℕ
  q = A * 2 ^ (48 - size A) + 1

  abbrev j : ℕ
  j = size A + 1026

  small : size A ≤ 30
  small = size-le A 30 h

  top-is : q * 2 ^ j ≡ A * one64 + 2 ^ j
  top-is =
      let s = small in
      let e : 48 - size A + j ≡ 1074 = omega arith in
      add-mul (A * 2 ^ (48 - size A)) 1 (2 ^ j)
      ∙ ap (λ (v : ℕ). v + 1 * 2 ^ j) (mul_assoc A (2 ^ (48 - size A)) (2 ^ j)
      ∙ ap (λ (v : ℕ). A * v) (sym (pow-add 2 (48 - size A) j) ∙ ap (λ (v : ℕ). 2 ^ v) e))
      ∙ ap (λ (v : ℕ). A * one64 + v) (one-mul (2 ^ j))

  few : q < 2 ^ 53
  few =
      let s = small in
      let e : size A + (48 - size A) ≡ 48 = omega arith in
      let l : A * 2 ^ (48 - size A) < 2 ^ 48 = subst (λ (v : ℕ). A * 2 ^ (48 - size A) < 2 ^ v) e (shl_lt (size A) (48 - size A) (size-lt A)) in
      omega arith

  in-range : q * 2 ^ j < 2 ^ 2098
  in-range =
      let s = small in
      let e : 53 + j ≤ 2098 = omega arith in
      lt_of_lt_of_le (shl_lt 53 j few) (pow_mono e)

pub add-square : (x y : Float) (A b : ℕ) → A + b < 2 ^ 30 → Summed x A → HasValue y false b 1 → Summed (add binary64 x y) (A + b)
add-square x y A b h s v =
    let num = s.w * 1 + b * one64 in
    let den = one64 * 1 in
    let g = grid binary64 num den in
    let C : 0 < den = lit< tt in
    let z : size A + 1026 ≤ j (A + b) h = grown (size_mono A (A + b) (more A b)) in
    let t = top-is (A + b) h in
    let lo : (A + b) * one64 ≤ g = holds-below binary64 num den C (A + b) 1074 (less (A + b) h) (below_it s.w A b one64 s.low) in
    let hi : g ≤ q (A + b) h * 2 ^ j (A + b) h =
    holds-above binary64 num den C (q (A + b) h) (j (A + b) h) (few (A + b) h)
    (above_it s.w A b one64 (2 ^ (size A + 1026)) (q (A + b) h * 2 ^ j (A + b) h) s.high
    (le_trans (add-le-add (le_of_eq refl) (pow_mono z)) (le_of_eq (sym t)))) in
    record {
      w = g;
      is = subst (λ (u : Float). HasValue u false g one64) (sym (add_at binary64 x y s.w one64 b 1 (pow_pos 1074) (lit< tt) s.is v))
          (round-grid binary64 false num den (lt_of_le_of_lt hi (in-range (A + b) h)));
      low = lo;
      high = le_trans hi (le_of_eq t);
    }
  where
    more : (A b : ℕ) → A ≤ A + b
    more A b = omega arith

    grown : {a b : ℕ} → a ≤ b → a + 1026 ≤ b + 1026
    grown h = omega arith

    less : (A : ℕ) → A < 2 ^ 30 → A ≤ 2 ^ 53
    less A h = omega arith

-- ---- all of them
-- the sum of the first n squares
unfoldable pub squares : (ℕ → ℕ) → ℕ → ℕ
squares a zero = 0
squares a (suc n) = squares a n + a n * a n

-- a value's f64 square is exact
square-value : (v : Float) (s : Bool) (a : ℕ) → a ≤ 2048 → HasValue v s a 1 → HasValue (mul binary64 v v) false (a * a) 1
square-value v s a l h =
    subst (λ (u : Float). HasValue u false (a * a) 1) (sym (mul_at binary64 v v s s a 1 a 1 (lit< tt) (lit< tt) h h
    ∙ ap (λ (t : Bool). round binary64 t (a * a) 1) (alike s)))
    (round_whole binary64 false (a * a) (le_trans (mul-le-mul l l) (lit≤ tt)))
  where
    alike : (s : Bool) → unlike s s ≡ false
    alike true = refl
    alike false = refl

pub squares-in : (a : ℕ → ℕ) → ((i : ℕ) → a i ≤ 2048) → (n : ℕ) → squares a n ≤ n * 2 ^ 22
unfolding squares
squares-in a few zero = lit≤ tt
squares-in a few (suc n) = omega (arith, squares-in a few n, mul-le-mul (few n) (few n))

-- the f64 sum of the squares of n values, for at most 176 of them
module _ (v : ℕ → Float) (s : ℕ → Bool) (a : ℕ → ℕ) (is : (i : ℕ) → HasValue (v i) (s i) (a i) 1) (few : (i : ℕ) → a i ≤ 2048) where
  abbrev term : ℕ → Float
  term j = mul binary64 (v j) (v j)

  pub sum_near : (n : ℕ) → n ≤ widest → Summed (sum_to binary64 term floor64 n) (squares a n)
  unfolding squares
  sum_near zero h = subst (λ (x : Float). Summed x 0) (sym (sum-none binary64 term floor64)) start
  sum_near (suc n) h =
      let e : add binary64 (sum_to binary64 term floor64 n) (term n) ≡ sum_to binary64 term floor64 (suc n) =
      sum_more binary64 term floor64 (sum_to binary64 term floor64 n) n refl ∙ ap (sum_to binary64 term floor64) (add-one n) in
      subst (λ (x : Float). Summed x (squares a n + a n * a n)) e
      (add-square (sum_to binary64 term floor64 n) (term n) (squares a n) (a n * a n) (omega (arith, squares-in a few n, mul-le-mul (few n) (few n)))
      (sum_near n (omega arith)) (square-value (v n) (s n) (a n) (few n) (is n)))
