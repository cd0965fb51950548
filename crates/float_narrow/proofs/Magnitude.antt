-- The bits of the number nearest to what an f64's fields stand for. Assumes nothing.
use mathlib.Core.Path.{◌≡◌, refl, sym, ap, ◌∙◌, subst}
use mathlib.Core.Logic.{inl, inr}
use Prim.Native.Nat.{ℕ, zero, suc, ◌+◌, ◌-◌, ◌*◌, ◌/◌, ◌%◌, ◌^◌, ◌≤◌, ◌<◌, compare, zero-le}
use native.Mathlib.Nat.{zero-add, le-add_right, one-mul, le_of_lt, not-le_of_lt, mul-lt-mul_of_pos_right, le_trans}
use native.Mathlib.Nat.{lt_of_lt_of_le, lt_of_le_of_lt, eq-or-lt_of_le}
use native.Mathlib.Nat.{mul-le-mul_right, mul-le-mul, div-eq_of_lt, mod-eq_of_lt}
use native.Mathlib.Omega.{arith}
use mathlib.Core.Bool.{Bool, cond}
use lib.Dec.{lit<, lit≤}
use lib.Pow.{pow_pos, pow_mono, shl_lt, shr_lt}
use lib.Ieee.{binary32, binary64, size, nearest, units, round, to_bits}
use lib.Ieee.Digits.{size-le}
use lib.Ieee.Fits.{nearest-le}
use lib.Ieee.Nearest.{closest, closest_mono, nearest-ge}
use Rattle.float_bits.specs.Steps.{significand}
use Rattle.float_bits.proofs.Laws.{finite-bits, nearest-lt}
use Rattle.float_narrow.specs.Steps.{Magnitude}
use Rattle.float_narrow.proofs.Laws.{regroup, size-at, round-at}
use Rattle.float_narrow.proofs.Clause.{ties-to-even-is, Threshold}

-- ---- below the threshold
under : (r k : ℕ) → 2 ^ 23 ≤ r → r ≤ 2 ^ 24 → k * 2 ^ 23 + r < 0x7f80_0000 → r * 2 ^ k < 2 ^ 277
under r k lo hi l =
    let deep : k ≤ 253 = omega arith in
    elim (eq-or-lt_of_le deep) [
      | inl e ↦ let few : r < 2 ^ 24 = omega arith in subst (λ (x : ℕ). r * 2 ^ x < 2 ^ 277) (sym e) (shl_lt 24 253 few)
      | inr g ↦ let less : k ≤ 252 = omega arith in lt_of_le_of_lt (mul-le-mul hi (pow_mono less)) (lit< tt)
    ]

-- ---- the significand
lead-hi : (t : ℕ) → t < 2 ^ 52 → 2 ^ 52 + t < 2 ^ 53
lead-hi t h = omega arith

few-digits : (z : ℕ) → z ≤ 24 → z - 24 ≡ 0
few-digits z h = omega arith

closest-zero : (n u : ℕ) → n * 2 < u → closest n u ≡ 0
closest-zero n u h =
    let half : n < u = omega arith in
    ap (λ (z : ℕ). nearest z (compare (n % u * 2) u)) (div-eq_of_lt half)
    ∙ ap (λ (z : ℕ). nearest 0 (compare (z * 2) u)) (mod-eq_of_lt half)
    ∙ nearest-lt 0 (n * 2) u h

-- ---- the three cases of the exponent's field
-- so far below the least exponent that no digit is left
pub mag-zero : (e t : ℕ) → e < 872 → t < 2 ^ 52 → Magnitude e t 0
mag-zero e t h l = record { small = zero-le; bits = λ s. ap (to_bits binary32) (ties-to-even-is s (significand binary64 e t)) ∙ at s (tiny e h) }
  where
    tiny : (e : ℕ) → e < 872 → significand binary64 e t < 2 ^ 923
    tiny zero a = lt_of_lt_of_le l (lit≤ tt)
    tiny (suc x) a = let le923 : 53 + x ≤ 923 = omega arith in lt_of_lt_of_le (shl_lt 53 x (lead-hi t l)) (pow_mono le923)

    at : (s : Bool) → significand binary64 e t < 2 ^ 923 → to_bits binary32 (round binary32 s (significand binary64 e t) (2 ^ 1074)) ≡ cond s (2 ^ 31) 0 + 0
    at s a =
        let v = significand binary64 e t in
        let b : v * 2 ^ 149 < 2 ^ 1072 = shl_lt 923 149 a in
        let n = v * 2 ^ 149 / 2 ^ 1074 in
        let k : size n - 24 ≡ 0 = few-digits (size n) (size-le n 24 (shr_lt 24 1074 (lt_of_lt_of_le b (lit≤ tt)))) in
        ap (to_bits binary32)
        (round-at s v 0 (v * 2 ^ 149) (2 ^ 1074) (pow_pos 1074) k refl
        ∙ ap (λ (z : ℕ). units binary32 s z 0) (closest-zero (v * 2 ^ 149) (2 ^ 1074) (lt_of_lt_of_le (mul-lt-mul_of_pos_right b (lit< tt)) (lit≤ tt))))
        ∙ finite-bits s 0 0 zero-le (λ _. refl) (lit< tt)

-- the last digit at the least exponent
abbrev Least : ℕ → ℕ → ℕ
Least e t = closest (2 ^ 52 + t) (2 ^ (926 - e))

pub mag-sub : (e t : ℕ) → 872 ≤ e → e < 897 → t < 2 ^ 52 → Magnitude e t (Least e t)
mag-sub zero t a h l = let no : ⊥ = omega arith in absurd no
mag-sub (suc x) t a h l = record { small = le_trans low (lit≤ tt); bits = λ s. ap (to_bits binary32) (ties-to-even-is s ((2 ^ 52 + t) * 2 ^ x)) ∙ at s }
  where
    low : Least (suc x) t ≤ 2 ^ 23
    low =
        let fits : 53 ≤ 23 + (926 - suc x) = omega arith in
        le_trans (nearest-le ((2 ^ 52 + t) / 2 ^ (926 - suc x)) (compare ((2 ^ 52 + t) % 2 ^ (926 - suc x) * 2) (2 ^ (926 - suc x))))
        (shr_lt 23 (926 - suc x) (lt_of_lt_of_le (lead-hi t l) (pow_mono fits)))

    k : size ((2 ^ 52 + t) * 2 ^ x * 2 ^ 149 / 2 ^ 1074) - 24 ≡ 0
    k =
        let n = (2 ^ 52 + t) * 2 ^ x * 2 ^ 149 / 2 ^ 1074 in
        let few : 53 + x + 149 ≤ 24 + 1074 = omega arith in
        few-digits (size n) (size-le n 24 (shr_lt 24 1074 (lt_of_lt_of_le (shl_lt (53 + x) 149 (shl_lt 53 x (lead-hi t l))) (pow_mono few))))

    small277 : (r : ℕ) → r ≤ 2 ^ 23 → r * 2 ^ 0 < 2 ^ 277
    small277 r h = lt_of_le_of_lt (mul-le-mul_right 1 h) (lit< tt)

    at : (s : Bool) → to_bits binary32 (round binary32 s ((2 ^ 52 + t) * 2 ^ x) (2 ^ 1074)) ≡ cond s (2 ^ 31) 0 + Least (suc x) t
    at s =
        let n = 2 ^ 52 + t in
        let u = 926 - suc x in
        let r = Least (suc x) t in
        let sum : x + 149 + u ≡ 1074 + 0 = omega arith in
        ap (to_bits binary32) (round-at s (n * 2 ^ x) 0 n (2 ^ u) (pow_pos u) k (regroup n x 149 1074 0 u sum))
        ∙ finite-bits s r 0 (le_trans low (lit≤ tt)) (λ _. refl) (small277 r low)
        ∙ ap (λ (z : ℕ). cond s (2 ^ 31) 0 + z) (zero-add r)

-- 24 digits
abbrev Top : ℕ → ℕ
Top t = closest (2 ^ 52 + t) (2 ^ 29)

top-lo : (t : ℕ) → 2 ^ 23 ≤ Top t
top-lo t = let lo : 2 ^ 23 ≤ (2 ^ 52 + t) / 2 ^ 29 = omega arith in le_trans lo (nearest-ge ((2 ^ 52 + t) / 2 ^ 29) (compare ((2 ^ 52 + t) % 2 ^ 29 * 2) (2 ^ 29)))

pub top-hi : (t : ℕ) → t < 2 ^ 52 → Top t ≤ 2 ^ 24
top-hi t h =
    let hi : suc ((2 ^ 52 + t) / 2 ^ 29) ≤ 2 ^ 24 = omega arith in
    le_trans (nearest-le ((2 ^ 52 + t) / 2 ^ 29) (compare ((2 ^ 52 + t) % 2 ^ 29 * 2) (2 ^ 29))) hi

normal-round : (s : Bool) (x t : ℕ) → 897 ≤ suc x → t < 2 ^ 52
    → round binary32 s ((2 ^ 52 + t) * 2 ^ x) (2 ^ 1074) ≡ units binary32 s (Top t) (suc x - 897)
normal-round s x t h l =
    let q = 2 ^ 52 + t in
    let sum : 52 + x + 149 ≡ (x - 873) + 1074 = omega arith in
    let sum' : 53 + x + 149 ≡ suc (x - 873) + 1074 = omega arith in
    let sized : size (q * 2 ^ x * 2 ^ 149 / 2 ^ 1074) ≡ suc (x - 873) =
    size-at q x 149 1074 52 (x - 873) (le-add_right (2 ^ 52) t) (lead-hi t l) sum sum' in
    let kept : suc (x - 873) - 24 ≡ suc x - 897 = omega arith in
    let all : x + 149 + 29 ≡ 1074 + (suc x - 897) = omega arith in
    round-at s (q * 2 ^ x) (suc x - 897) q (2 ^ 29) (pow_pos 29) (ap (λ (z : ℕ). z - 24) sized ∙ kept) (regroup q x 149 1074 (suc x - 897) 29 all)

-- ---- the threshold, in an f64's bits
fin-below : (e t : ℕ) → t < 2 ^ 52 → e * 2 ^ 52 + t < 0x47ef_ffff_f000_0000 → (e - 897) * 2 ^ 23 + Top t < 0x7f80_0000
fin-below e t l h =
    let last : e ≤ 1150 = omega arith in
    elim (eq-or-lt_of_le last) [
      | inl a ↦
          let short : 2 ^ 52 + t ≤ 2 ^ 53 - 2 ^ 28 - 1 = omega arith in
          let r : Top t ≤ 2 ^ 24 - 1 = closest_mono (2 ^ 52 + t) (2 ^ 29) (2 ^ 53 - 2 ^ 28 - 1) (2 ^ 29) (pow_pos 29) (pow_pos 29) (mul-le-mul_right (2 ^ 29) short) in
          omega arith
      | inr a ↦ omega (arith, top-hi t l)
    ]

pub past_threshold : (e t : ℕ) → t < 2 ^ 52 → 0x47ef_ffff_f000_0000 ≤ e * 2 ^ 52 + t → Threshold ≤ significand binary64 e t
past_threshold zero t l h = let no : ⊥ = omega arith in absurd no
past_threshold (suc x) t l h =
    let first : 1149 ≤ x = omega arith in
    elim (eq-or-lt_of_le first) [
      | inl a ↦
          let full : (2 ^ 25 - 1) * 2 ^ 28 ≤ 2 ^ 52 + t = omega arith in
          subst (λ (z : ℕ). Threshold ≤ (2 ^ 52 + t) * 2 ^ z) a (mul-le-mul_right (2 ^ 1149) full)
      | inr a ↦ le_trans (lit≤ tt) (mul-le-mul (le-add_right (2 ^ 52) t) (pow_mono a))
    ]

pub mag-fin : (e t : ℕ) → 897 ≤ e → t < 2 ^ 52 → e * 2 ^ 52 + t < 0x47ef_ffff_f000_0000 → Magnitude e t ((e - 897) * 2 ^ 23 + Top t)
mag-fin zero t a l m = let no : ⊥ = omega arith in absurd no
mag-fin (suc x) t a l m = record {
  small = le_of_lt (fin-below (suc x) t l m);
  bits = λ s. ap (to_bits binary32) (ties-to-even-is s ((2 ^ 52 + t) * 2 ^ x) ∙ normal-round s x t a l)
      ∙ finite-bits s (Top t) (suc x - 897) (top-hi t l) (λ g. absurd (not-le_of_lt g (top-lo t)))
      (under (Top t) (suc x - 897) (top-lo t) (top-hi t l) (fin-below (suc x) t l m));
}

-- ---- what the code's needs ask
sh-small : (e : ℕ) → 872 ≤ e → 926 - e ≤ 54
sh-small e h = omega arith

pub unit-is : (e : ℕ) → 872 ≤ e → 1 * 2 ^ (926 - e) % 2 ^ 64 ≡ 2 ^ (926 - e)
unit-is e h = ap (λ (z : ℕ). z % 2 ^ 64) (one-mul (2 ^ (926 - e))) ∙ mod-eq_of_lt (lt_of_le_of_lt (pow_mono (sh-small e h)) (lit< tt))

pub unit-pos : (e : ℕ) → 872 ≤ e → 0 < 1 * 2 ^ (926 - e) % 2 ^ 64
unit-pos e h = subst (λ (z : ℕ). 0 < z) (sym (unit-is e h)) (pow_pos (926 - e))

pub unit-le : (e : ℕ) → 872 ≤ e → 1 * 2 ^ (926 - e) % 2 ^ 64 ≤ 2 ^ 62
unit-le e h = subst (λ (z : ℕ). z ≤ 2 ^ 62) (sym (unit-is e h)) (le_trans (pow_mono (sh-small e h)) (lit≤ tt))
