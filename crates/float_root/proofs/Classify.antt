-- Which f32 a bit pattern is, for `sqrt_f32`. Assumes nothing.
use mathlib.Core.Path.{◌≡◌, refl, sym, ap, ◌∙◌, subst}
use mathlib.Core.Logic.{inl, inr}
use Prim.Native.Nat.{ℕ, zero, suc, ◌+◌, ◌*◌, ◌/◌, ◌%◌, ◌^◌, ◌≤◌, ◌<◌}
use native.Mathlib.Nat.{mul-pos, zero-mul, lt_irrefl, mod-eq_of_lt, eq-or-lt_of_le, lt_of_lt_of_le, mod-lt}
use native.Mathlib.Omega.{arith}
use mathlib.Core.Bool.{Bool, true, false, not, false≢true}
use lib.Dec.{T, leb, leb→le, le→leb, nltb→le, not_T, lit<, lit≤}
use lib.Pow.{pow_pos, pow_mono, shl_lt}
use lib.Ieee.{Float, nan, inf, fin, binary32, up, down, is_nan, nan_bits, of_fields, of_bits}
use lib.Ieee.Fits.{down_pos}
use lib.Ieee.Bits.{is_true, is_false, nan_bits_is, nan_bits_above}
use lib.Ieee.Exact.{HasValue}
use lib.Ieee.Positive.{positive_of_value}
use Rattle.float_root.specs.Root.{sqrt_of}
use Rattle.float_bits.specs.Steps.{significand}
use Rattle.float_root.specs.Steps.{RootBits}
use Rattle.float_bits.proofs.Fields.{fields-val, fields-inf, of_bits_is}
use Rattle.float_root.proofs.Roots.{of_bits-units}
use Rattle.float_root.proofs.Sqrt.{root-value}
use Rattle.float_bits.proofs.Laws.{units-real}

-- ---- the values that give themselves
pub self-nan : (x : Float) → x ≡ nan → x ≡ sqrt_of x
unfolding sqrt_of
self-nan x e = subst (λ (v : Float). v ≡ sqrt_of v) (sym e) refl

abbrev Self : ℕ → Type 0
Self b = of_bits binary32 b ≡ sqrt_of (of_bits binary32 b)

pub self-zero : (b : ℕ) → b ≡ 0 → Self b
unfolding sqrt_of of_bits
self-zero b e = subst Self (sym e) refl

pub self-minus : (b : ℕ) → b ≡ 0x8000_0000 → Self b
unfolding sqrt_of of_bits
self-minus b e = subst Self (sym e) refl

pub self-inf : (b : ℕ) → b ≡ 0x7f80_0000 → Self b
unfolding sqrt_of of_bits
self-inf b e = subst Self (sym e) refl

-- ---- below zero
no_zero : (a d : ℕ) (u : ℕ) → 0 < a → 0 < d → 0 * u * 2 ^ 149 ≡ a * d → ⊥
no_zero a d u p q e = lt_irrefl 0 (subst (λ (z : ℕ). 0 < z) (sym e ∙ ap (λ (z : ℕ). z * 2 ^ 149) (zero-mul u) ∙ zero-mul (2 ^ 149)) (mul-pos p q))

neg-val : (v : Float) (a : ℕ) → HasValue v true a (2 ^ 149) → 0 < a → nan ≡ sqrt_of v
unfolding sqrt_of
neg-val nan a h p = absurd h
neg-val (inf t) a h p = absurd h
neg-val (fin false m e) a h p = absurd (false≢true h.0)
neg-val (fin true zero e) a h p = absurd (no_zero a (down e) (up e) p (down_pos e) h.1)
neg-val (fin true (suc m) e) a h p = refl

-- ---- the fields
minus-inf : nan ≡ sqrt_of (inf true)
unfolding sqrt_of
minus-inf = refl

sig_pos : (e t : ℕ) → (e ≡ 0 → 0 < t) → 0 < significand binary32 e t
sig_pos zero t h = h refl
sig_pos (suc x) t h = mul-pos (lead t) (pow_pos x)
  where
    lead : (t : ℕ) → 0 < 2 ^ 23 + t
    lead t = omega arith

-- ---- the bits
pub real-bits : (b : ℕ) → b < 2 ^ 31 → T (not (is_nan (of_bits binary32 b))) → b ≤ 0x7f80_0000
real-bits b h n =
    subst (λ (z : ℕ). z ≤ 0x7f80_0000) (mod-eq_of_lt h)
    (nltb→le 0x7f80_0000 (b % 2 ^ 31) (subst (λ (t : Bool). T (not t)) (sym (nan_bits_is binary32 b) ∙ nan_bits_above binary32 b) n))

-- below -0
neg-fields : (e t : ℕ) → e ≤ 255 → (e ≡ 0 → 0 < t) → T (not (is_nan (of_fields binary32 true e t))) → nan ≡ sqrt_of (of_fields binary32 true e t)
neg-fields e t h z n = elim (eq-or-lt_of_le h) [
  | inl i ↦ minus-inf ∙ ap sqrt_of (sym (fields-inf binary32 true e t i n))
  | inr l ↦ neg-val (of_fields binary32 true e t) (significand binary32 e t) (fields-val binary32 true e t l) (sig_pos e t z)
]

field-le : (b : ℕ) → b % 2 ^ 31 / 2 ^ 23 ≤ 255
field-le b = omega arith

some-digit : (b : ℕ) → 2 ^ 31 < b → b < 2 ^ 32 → b % 2 ^ 31 / 2 ^ 23 ≡ 0 → 0 < b % 2 ^ 23
some-digit b h l e = omega arith

pub neg_bits : (b : ℕ) → 2 ^ 31 < b → b < 2 ^ 32 → T (not (is_nan (of_bits binary32 b))) → nan ≡ sqrt_of (of_bits binary32 b)
neg_bits b h l n =
    let e = b % 2 ^ 31 / 2 ^ 23 in
    let t = b % 2 ^ 23 in
    let i : of_bits binary32 b ≡ of_fields binary32 true e t =
    of_bits_is binary32 b ∙ ap (λ (s : Bool). of_fields binary32 s e t) (is_true (leb (2 ^ 31) b) (le→leb (2 ^ 31) b (low b h))) in
    subst (λ (v : Float). nan ≡ sqrt_of v) (sym i) (neg-fields e t (field-le b) (some-digit b h l) (subst (λ (v : Float). T (not (is_nan v))) i n))
  where
    low : (b : ℕ) → 2 ^ 31 < b → 2 ^ 31 ≤ b
    low b h = omega arith

-- above 0
field_is : (b : ℕ) → b < 0x7f80_0000 → b % 2 ^ 31 / 2 ^ 23 ≡ b / 2 ^ 23
field_is b h = omega arith

field_lt : (b : ℕ) → b < 0x7f80_0000 → b / 2 ^ 23 < 255
field_lt b h = omega arith

some-low : (b : ℕ) → 0 < b → b / 2 ^ 23 ≡ 0 → 0 < b % 2 ^ 23
some-low b h e = omega arith

clear : (b : ℕ) → b < 0x7f80_0000 → 2 ^ 31 ≤ b → ⊥
clear b h l = omega arith

bits-val : (b : ℕ) → b < 0x7f80_0000 → HasValue (of_bits binary32 b) false (significand binary32 (b / 2 ^ 23) (b % 2 ^ 23)) (2 ^ 149)
bits-val b h =
    subst (λ (v : Float). HasValue v false (significand binary32 (b / 2 ^ 23) (b % 2 ^ 23)) (2 ^ 149))
    (sym (of_bits_is binary32 b
    ∙ ap (λ (s : Bool). of_fields binary32 s (b % 2 ^ 31 / 2 ^ 23) (b % 2 ^ 23)) (is_false (leb (2 ^ 31) b)
    (not_T (leb (2 ^ 31) b) (λ (u : T (leb (2 ^ 31) b)). clear b h (leb→le (2 ^ 31) b u))))
    ∙ ap (λ (e : ℕ). of_fields binary32 false e (b % 2 ^ 23)) (field_is b h)))
    (fields-val binary32 false (b / 2 ^ 23) (b % 2 ^ 23) (field_lt b h))

sig_lt : (e t : ℕ) → e < 255 → t < 2 ^ 23 → significand binary32 e t < 2 ^ 277
sig_lt zero t h l = lt_of_lt_of_le l (lit≤ tt)
sig_lt (suc x) t h l = lt_of_lt_of_le (shl_lt 24 x (lead t l)) (pow_mono (top x h))
  where
    lead : (t : ℕ) → t < 2 ^ 23 → 2 ^ 23 + t < 2 ^ 24
    lead t l = omega arith

    top : (x : ℕ) → suc x < 255 → 24 + x ≤ 277
    top x h = omega arith

pub root_is : (b r : ℕ) → 0 < b → b < 0x7f80_0000 → RootBits (significand binary32 (b / 2 ^ 23) (b % 2 ^ 23) * 2 ^ 149) r
    → of_bits binary32 r ≡ sqrt_of (of_bits binary32 b)
root_is b r p h w =
    let x = b / 2 ^ 23 in
    let t = b % 2 ^ 23 in
    let v = bits-val b h in
    sym (root-value (of_bits binary32 b) (significand binary32 x t) r v
    (positive_of_value (of_bits binary32 b) (significand binary32 x t) (2 ^ 149) v (sig_pos x t (some-low b p)))
    (sig_lt x t (field_lt b h) (mod-lt b (lit< tt))) w)

pub root-real : (n r : ℕ) → RootBits n r → T (not (nan_bits binary32 r))
root-real n r w =
    subst (λ (b : ℕ). T (not (nan_bits binary32 b))) w.is
    (subst (λ (t : Bool). T (not t)) (sym (nan_bits_is binary32 (w.k * 2 ^ 23 + w.q)))
    (subst (λ (v : Float). T (not (is_nan v))) (sym (of_bits-units w.q w.k w.low w.high w.scaled.few)) (units-real false w.q w.k)))
