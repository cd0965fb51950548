-- Rounding as IEEE 754 tells it is `narrow`, on every f64: `clause-narrow`. Assumes nothing.
use mathlib.Core.Path.{◌≡◌, refl, sym, ap, ◌∙◌, subst}
use mathlib.Core.Logic.{inl, inr}
use Prim.Native.Nat.{ℕ, zero, suc, ◌+◌, ◌-◌, ◌*◌, ◌/◌, ◌%◌, ◌^◌, ◌≤◌, ◌<◌, compare}
use native.Mathlib.Nat.{add_assoc, mul_assoc, mul-one, zero-mul, mul-le-mul, mul-le-mul_right, le_of_mul-le-mul_right, lt_of_mul-lt-mul_right}
use native.Mathlib.Nat.{le_trans, lt_of_lt_of_le, lt_of_le_of_lt, eq-or-lt_of_le, le-div_iff_mul-le, sub-add-eq-max}
use native.Mathlib.Omega.{arith}
use mathlib.Core.Bool.{Bool, true, false, not, cond}
use lib.Dec.{T, leb, leb→le, nleb→lt, le→leb, lit≤, lit<}
use lib.Pow.{pow-add, pow_pos, pow_mono, shl_lt, shr_lt, shl-shr}
use lib.IntN.{ℤ, pos, negsuc}
use lib.Count.{count_trailing_zeros}
use lib.Ieee.{Float, nan, inf, fin, binary32, binary64, up, down, minus, size, odd, units, round, fits, of_bits, to_bits}
use lib.Ieee.Bits.{of_bits-fits}
use lib.Ieee.Digits.{size-lt, size_reaches, size-le}
use lib.Ieee.Nearest.{closest, closest_mono, nearest-ge}
use lib.Ieee.Fits.{nearest-le}
use lib.Ieee.Exact.{HasValue}
use Rattle.float_bits.proofs.Laws.{here_or_on, pow_lt_back, pow_le_back}
use Rattle.float_bits.proofs.Values.{parts}
use Rattle.float_narrow.specs.Narrow.{narrow}
use Rattle.float_narrow.specs.Clause.{exact, overflows, last_digit, delivered, round_ties_to_even, clause}
use Rattle.float_narrow.proofs.Laws.{narrow_at, regroup-two, size-at, round-at, units-inf, units-fin}
use Rattle.float_narrow.proofs.Nearer.{delivered-is}

-- ---- the last digit
-- how many digits more than the format's 24 a value has, counted from its least exponent: those that `round` drops
abbrev Dropped : ℕ → ℕ
Dropped v = size v - 949

abbrev Unit : ℕ → ℕ
Unit v = 2 ^ (925 + Dropped v)

last-digit : (v : ℕ) → last_digit v ≡ 925 + Dropped v
unfolding last_digit
last-digit v = sym (sub-add-eq-max 925 (size v - 24)) ∙ both (size v)
  where
    both : (z : ℕ) → 925 - (z - 24) + (z - 24) ≡ 925 + (z - 949)
    both z = omega arith

before_last : (z b : ℕ) → b < z → z - 1 < z
before_last z b h = omega arith

dropped : (v : ℕ) → size (v * 2 ^ 149 / 2 ^ 1074) - 24 ≡ Dropped v
dropped v = elim (here_or_on (size v) 950) [
  | inl a ↦ none (size (v * 2 ^ 149 / 2 ^ 1074)) (size v)
      (size-le (v * 2 ^ 149 / 2 ^ 1074) 24 (shr_lt 24 1074 (shl_lt 949 149 (lt_of_lt_of_le (size-lt v) (pow_mono (most (size v) a)))))) a
  | inr a ↦ some (size (v * 2 ^ 149 / 2 ^ 1074)) (size v) a
      (subst (λ (z : ℕ). size (z / 2 ^ 1074) ≡ suc (size v - 1 - 925)) (mul-one (v * 2 ^ 149))
      (size-at v 149 0 1074 (size v - 1) (size v - 1 - 925)
      (size_reaches v (size v - 1) (before_last (size v) 949 a))
      (subst (λ (z : ℕ). v < 2 ^ z) (sym (again (size v) a)) (size-lt v))
      (fall (size v) a) (fall' (size v) a)))
]
  where
    most : (z : ℕ) → z < 950 → z ≤ 949
    most z h = omega arith

    none : (w z : ℕ) → w ≤ 24 → z < 950 → w - 24 ≡ z - 949
    none w z h l = omega arith

    some : (w z : ℕ) → 950 ≤ z → w ≡ suc (z - 1 - 925) → w - 24 ≡ z - 949
    some w z h e = omega arith

    again : (z : ℕ) → 950 ≤ z → suc (z - 1) ≡ z
    again z h = omega arith

    fall : (z : ℕ) → 950 ≤ z → z - 1 + 149 + 0 ≡ z - 1 - 925 + 1074
    fall z h = omega arith

    fall' : (z : ℕ) → 950 ≤ z → suc (z - 1) + 149 + 0 ≡ suc (z - 1 - 925) + 1074
    fall' z h = omega arith

-- ---- overflow
-- the threshold in 2 ^ -1074
abbrev pub Threshold : ℕ
Threshold = (2 ^ 25 - 1) * 2 ^ 1177

at_least : (v : ℕ) → T (overflows v) → Threshold ≤ v
unfolding overflows
at_least v h = le_of_mul-le-mul_right (leb→le (Threshold * 2 ^ 24) (v * 2 ^ 24) h) (pow_pos 24)

less_than : (v : ℕ) → T (not (overflows v)) → v < Threshold
unfolding overflows
less_than v h = lt_of_mul-lt-mul_right (2 ^ 24) (nleb→lt (Threshold * 2 ^ 24) (v * 2 ^ 24) h)

from_threshold : (v : ℕ) → Threshold ≤ v → T (overflows v)
unfolding overflows
from_threshold v h = le→leb (Threshold * 2 ^ 24) (v * 2 ^ 24) (mul-le-mul_right (2 ^ 24) h)

past : (v : ℕ) → Threshold ≤ v → 2 ^ 277 ≤ closest v (Unit v) * 2 ^ Dropped v
past v h = elim (here_or_on (size v) 1203) [
  | inl a ↦ subst (λ (k : ℕ). 2 ^ 277 ≤ closest v (2 ^ (925 + k)) * 2 ^ k)
      (sym (only (size v) a (pow_lt_back 1201 (size v) (lt_of_le_of_lt (le_trans (lit≤ tt) h) (size-lt v)))))
      (mul-le-mul_right (2 ^ 253) (closest_mono Threshold (2 ^ 1178) v (2 ^ 1178) (pow_pos 1178) (pow_pos 1178) (mul-le-mul_right (2 ^ 1178) h)))
  | inr a ↦ mul-le-mul
      (le_trans
      ((le-div_iff_mul-le (pow_pos (925 + Dropped v))).1
      (subst (λ (z : ℕ). z ≤ v) (ap (λ (z : ℕ). 2 ^ z) (lead (size v) a) ∙ pow-add 2 23 (925 + Dropped v))
      (size_reaches v (size v - 1) (before_last (size v) 1202 a))))
      (nearest-ge (v / Unit v) (compare (v % Unit v * 2) (Unit v))))
      (pow_mono (many (size v) a))
]
  where
    only : (z : ℕ) → z < 1203 → 1201 < z → z - 949 ≡ 253
    only z h l = omega arith

    lead : (z : ℕ) → 1203 ≤ z → z - 1 ≡ 23 + (925 + (z - 949))
    lead z h = omega arith

    many : (z : ℕ) → 1203 ≤ z → 254 ≤ z - 949
    many z h = omega arith

short : (v : ℕ) → v < Threshold → closest v (Unit v) * 2 ^ Dropped v < 2 ^ 277
short v h = elim (eq-or-lt_of_le (most (size v) (size-le v 1202 (lt_of_lt_of_le h (lit≤ tt))))) [
  | inl e ↦ subst (λ (k : ℕ). closest v (2 ^ (925 + k)) * 2 ^ k < 2 ^ 277) (sym e)
      (shl_lt 24 253 (lt_of_le_of_lt
      (closest_mono v (2 ^ 1178) (Threshold - 1) (2 ^ 1178) (pow_pos 1178) (pow_pos 1178) (mul-le-mul_right (2 ^ 1178) (before v Threshold h)))
      (lit< tt)))
  | inr l ↦ lt_of_le_of_lt
      (mul-le-mul
      (le_trans (nearest-le (v / Unit v) (compare (v % Unit v * 2) (Unit v)))
      (shr_lt 24 (925 + Dropped v) (lt_of_lt_of_le (size-lt v) (pow_mono (room (size v))))))
      (pow_mono (less (Dropped v) l)))
      (lit< tt)
]
  where
    most : (z : ℕ) → z ≤ 1202 → z - 949 ≤ 253
    most z h = omega arith

    before : (v t : ℕ) → v < t → v ≤ t - 1
    before v t h = omega arith

    room : (z : ℕ) → z ≤ 24 + (925 + (z - 949))
    room z = omega arith

    less : (k : ℕ) → k < 253 → k ≤ 252
    less k h = omega arith

-- ---- a number of 2 ^ -1074 written as one of 2 ^ -149
minus-ge : (a b : ℕ) → b ≤ a → minus a b ≡ pos (a - b)
minus-ge a b h = go (leb b a) (nleb→lt b a)
  where
    clash : a < b → ⊥
    clash l = omega arith

    go : (t : Bool) → (T (not t) → a < b) → cond t (pos (a - b)) (negsuc (b - suc a)) ≡ pos (a - b)
    go true p = refl
    go false p = absurd (clash (p tt))

minus-lt : (a b : ℕ) → a < b → minus a b ≡ negsuc (b - suc a)
minus-lt a b h = go (leb b a) (leb→le b a)
  where
    clash : b ≤ a → ⊥
    clash l = omega arith

    go : (t : Bool) → (T t → b ≤ a) → cond t (pos (a - b)) (negsuc (b - suc a)) ≡ negsuc (b - suc a)
    go true p = absurd (clash (p tt))
    go false p = refl

minus-shift : (a : ℕ) → minus (925 + a) 1074 ≡ minus a 149
minus-shift a = elim (here_or_on a 149) [
  | inl l ↦ minus-lt (925 + a) 1074 (low l) ∙ ap negsuc same_low ∙ sym (minus-lt a 149 l)
  | inr g ↦ minus-ge (925 + a) 1074 (high g) ∙ ap pos same-high ∙ sym (minus-ge a 149 g)
]
  where
    low : a < 149 → 925 + a < 1074
    low h = omega arith

    high : 149 ≤ a → 1074 ≤ 925 + a
    high h = omega arith

    same_low : 1074 - suc (925 + a) ≡ 149 - suc a
    same_low = omega arith

    same-high : 925 + a - 1074 ≡ a - 149
    same-high = omega arith

odd_shift : (s : Bool) (q k : ℕ) → odd 25 s q (925 + k) 1074 ≡ odd 25 s q k 149
unfolding odd
odd_shift s zero k = refl
odd_shift s (suc q) k =
    let t = count_trailing_zeros 25 (suc q) in
    ap (λ (e : ℤ). fin s (suc q / 2 ^ t) e) (ap (λ (a : ℕ). minus a 1074) (add_assoc 925 k t) ∙ minus-shift (k + t))

-- ---- the whole of it
pub ties-to-even-is : (s : Bool) (v : ℕ) → round_ties_to_even s v ≡ round binary32 s v (2 ^ 1074)
unfolding round_ties_to_even
ties-to-even-is s v =
    let k = Dropped v in
    let u = Unit v in
    ap (λ (d : ℕ). cond (overflows v) (inf s) (odd 25 s (delivered v (2 ^ d)) d 1074)) (last-digit v)
    ∙ ap (λ (q : ℕ). cond (overflows v) (inf s) (odd 25 s q (925 + k) 1074)) (delivered-is v u (pow_pos (925 + k)))
    ∙ go (overflows v) (at_least v) (less_than v)
    ∙ sym (round-at s v k v u (pow_pos (925 + k)) (dropped v) (regroup-two v 149 1074 k (925 + k) (sym (add_assoc 149 925 k))))
  where
    go : (b : Bool) → (T b → Threshold ≤ v) → (T (not b) → v < Threshold)
        → cond b (inf s) (odd 25 s (closest v (Unit v)) (925 + Dropped v) 1074) ≡ units binary32 s (closest v (Unit v)) (Dropped v)
    go true p q = sym (units-inf s (closest v (Unit v)) (Dropped v) (past v (p tt)))
    go false p q = odd_shift s (closest v (Unit v)) (Dropped v) ∙ sym (units-fin s (closest v (Unit v)) (Dropped v) (short v (q tt)))

pub ties-to-even-inf : (s : Bool) (v : ℕ) → Threshold ≤ v → round_ties_to_even s v ≡ inf s
unfolding round_ties_to_even
ties-to-even-inf s v h = go (overflows v) (from_threshold v h)
  where
    go : (b : Bool) → T b → cond b (inf s) (odd 25 s (delivered v (2 ^ last_digit v)) (last_digit v) 1074) ≡ inf s
    go true t = refl
    go false t = absurd t

-- ---- the exact value of an f64
whole : (k : ℕ) → suc k ≤ 1074 → 2 ^ 1074 / 2 ^ suc k * 2 ^ suc k ≡ 2 ^ 1074
whole k h =
    let j = 1074 - suc k in
    let split : 2 ^ 1074 ≡ 2 ^ j * 2 ^ suc k = ap (λ (z : ℕ). 2 ^ z) (parts k h) ∙ pow-add 2 j (suc k) in
    ap (λ (z : ℕ). z / 2 ^ suc k * 2 ^ suc k) split ∙ ap (λ (z : ℕ). z * 2 ^ suc k) (shl-shr (2 ^ j) (suc k)) ∙ sym split
  where
    parts : (k : ℕ) → suc k ≤ 1074 → 1074 ≡ 1074 - suc k + suc k
    parts k h = omega arith

exact-down : (m : ℕ) (e : ℤ) → 2 ^ 1074 / down e * down e ≡ 2 ^ 1074 → m * up e * 2 ^ 1074 ≡ exact m e * down e
unfolding exact
exact-down m e h = sym (mul_assoc (m * up e) (2 ^ 1074 / down e) (down e) ∙ ap (λ (z : ℕ). m * up e * z) h)

exact-val : (s : Bool) (m : ℕ) (e : ℤ) → T (fits binary64 (fin s m e)) → HasValue (fin s m e) s (exact m e) (2 ^ 1074)
unfolding fits exact
exact-val s zero e h = (refl, nothing)
  where
    nothing : 0 * up e * 2 ^ 1074 ≡ 0 * up e * (2 ^ 1074 / down e) * down e
    nothing =
        ap (λ (z : ℕ). z * 2 ^ 1074) (zero-mul (up e)) ∙ zero-mul (2 ^ 1074)
        ∙ sym (ap (λ (z : ℕ). z * (2 ^ 1074 / down e) * down e) (zero-mul (up e))
        ∙ ap (λ (z : ℕ). z * down e) (zero-mul (2 ^ 1074 / down e)) ∙ zero-mul (down e))
exact-val s (suc m) (pos k) h = (refl, exact-down (suc m) (pos k) refl)
exact-val s (suc m) (negsuc k) h =
    (refl, exact-down (suc m) (negsuc k) (whole k (pow_le_back (suc k) 1074 (parts binary64 s (suc m) (negsuc k) h).fine)))

-- ---- the theorem
-- For every f64: what IEEE 754 tells is `narrow`, so its bits are too.
pub clause-narrow : (x : Float) → T (fits binary64 x) → clause x ≡ narrow x
unfolding clause narrow
clause-narrow nan h = refl
clause-narrow (inf s) h = refl
clause-narrow (fin s m e) h = ties-to-even-is s (exact m e) ∙ sym (narrow_at (fin s m e) s (exact m e) (2 ^ 1074) (pow_pos 1074) (exact-val s m e h))

-- the same of every 64-bit word, a NaN's too
pub clause-word : (b : ℕ) → to_bits binary32 (clause (of_bits binary64 b)) ≡ to_bits binary32 (narrow (of_bits binary64 b))
clause-word b = ap (to_bits binary32) (clause-narrow (of_bits binary64 b) (of_bits-fits binary64 b))

-- ---- the clause by the value
pub clause-val : (x : Float) (s : Bool) (a : ℕ) → T (fits binary64 x) → HasValue x s a (2 ^ 1074) → clause x ≡ round_ties_to_even s a
clause-val x s a h v = clause-narrow x h ∙ narrow_at x s a (2 ^ 1074) (pow_pos 1074) v ∙ sym (ties-to-even-is s a)

pub clause-inf : (s : Bool) → clause (inf s) ≡ inf s
unfolding clause
clause-inf s = refl
