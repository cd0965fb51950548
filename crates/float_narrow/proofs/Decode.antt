-- What an f64's bits stand for, and the clause of it. Assumes nothing.
use mathlib.Core.Path.{◌≡◌, sym, ap, ◌∙◌, subst}
use mathlib.Core.Logic.{inl, inr}
use Prim.Native.Nat.{ℕ, ◌+◌, ◌-◌, ◌*◌, ◌/◌, ◌%◌, ◌^◌, ◌≤◌, ◌<◌}
use native.Mathlib.Nat.{mod-lt}
use native.Mathlib.Omega.{arith}
use mathlib.Core.Bool.{Bool, true, false, not, cond}
use lib.Dec.{T, leb, leb→le, nleb→lt}
use lib.Pow.{pow_pos, split, mod-mod-pow}
use lib.Ieee.{Float, nan, inf, fin, binary32, binary64, up, down, fits, is_nan, of_bits, to_bits, size}
use lib.Ieee.Bits.{of_bits-fits}
use lib.Ieee.Fits.{round_is, round-fits, inf-fits, nan-fits}
use lib.Ieee.Exact.{HasValue}
use lib.Ieee.Nearest.{closest}
use Rattle.float_bits.specs.Steps.{significand}
use Rattle.float_bits.proofs.Fields.{fields-val, fields-inf, of_bits_is}
use Rattle.float_bits.proofs.Laws.{here_or_on, to_bits_inf, units-real}
use Rattle.float_narrow.specs.Narrow.{narrow}
use Rattle.float_narrow.specs.Clause.{clause, round_ties_to_even}
use Rattle.float_narrow.specs.Steps.{Magnitude}
use Rattle.float_narrow.proofs.Clause.{clause-val, clause-inf, ties-to-even-inf}
use Rattle.float_narrow.proofs.Magnitude.{past_threshold}

-- ---- narrow
pub narrow-fits : (x : Float) → T (fits binary32 (narrow x))
unfolding narrow
narrow-fits nan = nan-fits binary32
narrow-fits (inf s) = inf-fits binary32 s
narrow-fits (fin s m e) = round-fits binary32 s (m * up e) (down e)

pub narrow-real : (x : Float) → T (not (is_nan x)) → T (not (is_nan (narrow x)))
unfolding narrow is_nan
narrow-real nan h = absurd h
narrow-real (inf s) h = tt
narrow-real (fin s m e) h =
    let n = m * up e * 2 ^ 149 in
    let k = size (n / down e) - 24 in
    subst (λ (v : Float). T (not (is_nan v))) (sym (round_is binary32 s (m * up e) (down e))) (units-real s (closest n (down e * 2 ^ k)) k)

-- ---- the bits
sign_bit : (b : ℕ) → b < 2 ^ 64 → cond (leb (2 ^ 63) b) (2 ^ 31) 0 ≡ b / 2 ^ 63 * 2 ^ 31
sign_bit b h = go (leb (2 ^ 63) b) (leb→le (2 ^ 63) b) (nleb→lt (2 ^ 63) b)
  where
    set : 2 ^ 63 ≤ b → 2 ^ 31 ≡ b / 2 ^ 63 * 2 ^ 31
    set l = omega arith

    clear : b < 2 ^ 63 → 0 ≡ b / 2 ^ 63 * 2 ^ 31
    clear l = omega arith

    go : (t : Bool) → (T t → 2 ^ 63 ≤ b) → (T (not t) → b < 2 ^ 63) → cond t (2 ^ 31) 0 ≡ b / 2 ^ 63 * 2 ^ 31
    go true p q = set (p tt)
    go false p q = clear (q tt)

-- the two fields of the bits without the sign's
fields : (b : ℕ) → b % 2 ^ 63 ≡ b % 2 ^ 63 / 2 ^ 52 * 2 ^ 52 + b % 2 ^ 52
fields b = sym (ap (λ (z : ℕ). b % 2 ^ 63 / 2 ^ 52 * 2 ^ 52 + z) (sym (mod-mod-pow b 11 52)) ∙ split (b % 2 ^ 63) 52)

by-fields : (b : ℕ) → b % 2 ^ 63 / 2 ^ 52 < 2047
    → clause (of_bits binary64 b) ≡ round_ties_to_even (leb (2 ^ 63) b) (significand binary64 (b % 2 ^ 63 / 2 ^ 52) (b % 2 ^ 52))
by-fields b h =
    let s = leb (2 ^ 63) b in
    let e = b % 2 ^ 63 / 2 ^ 52 in
    let t = b % 2 ^ 52 in
    clause-val (of_bits binary64 b) s (significand binary64 e t) (of_bits-fits binary64 b)
    (subst (λ (v : Float). HasValue v s (significand binary64 e t) (2 ^ 1074)) (sym (of_bits_is binary64 b)) (fields-val binary64 s e t h))

pub bits-fin : (b r : ℕ) → b < 2 ^ 64 → b % 2 ^ 63 / 2 ^ 52 < 2047 → Magnitude (b % 2 ^ 63 / 2 ^ 52) (b % 2 ^ 52) r
    → b / 2 ^ 63 * 2 ^ 31 + r ≡ to_bits binary32 (clause (of_bits binary64 b))
bits-fin b r w h m =
    sym (ap (to_bits binary32) (by-fields b h)
    ∙ m.bits (leb (2 ^ 63) b)
    ∙ ap (λ (z : ℕ). z + r) (sign_bit b w))

infinite : (b : ℕ) → b < 2 ^ 64 → clause (of_bits binary64 b) ≡ inf (leb (2 ^ 63) b)
    → b / 2 ^ 63 * 2 ^ 31 + 0x7f80_0000 ≡ to_bits binary32 (clause (of_bits binary64 b))
infinite b w h = sym (ap (to_bits binary32) h ∙ to_bits_inf (leb (2 ^ 63) b) ∙ ap (λ (z : ℕ). z + 0x7f80_0000) (sign_bit b w))

-- at the threshold or past it, an infinity too
pub bits-inf : (b : ℕ) → b < 2 ^ 64 → 0x47ef_ffff_f000_0000 ≤ b % 2 ^ 63 → T (not (is_nan (of_bits binary64 b)))
    → b / 2 ^ 63 * 2 ^ 31 + 0x7f80_0000 ≡ to_bits binary32 (clause (of_bits binary64 b))
bits-inf b w h n = elim (here_or_on (b % 2 ^ 63 / 2 ^ 52) 2047) [
  | inl a ↦ infinite b w (by-fields b a ∙ ties-to-even-inf s (significand binary64 e t)
      (past_threshold e t (mod-lt b (pow_pos 52)) (subst (λ (z : ℕ). 0x47ef_ffff_f000_0000 ≤ z) (fields b) h)))
  | inr a ↦ infinite b w
      (ap clause (of_bits_is binary64 b ∙ fields-inf binary64 s e t (ones b a) (subst (λ (v : Float). T (not (is_nan v))) (of_bits_is binary64 b) n))
      ∙ clause-inf s)
]
  where
    s : Bool
    s = leb (2 ^ 63) b

    e : ℕ
    e = b % 2 ^ 63 / 2 ^ 52

    t : ℕ
    t = b % 2 ^ 52

    ones : (b : ℕ) → 2047 ≤ b % 2 ^ 63 / 2 ^ 52 → b % 2 ^ 63 / 2 ^ 52 ≡ 2047
    ones b h = omega arith

-- ---- what the code's needs ask
pub digits_are : (b : ℕ) → b % 2 ^ 63 % 2 ^ 52 ≡ b % 2 ^ 52
digits_are b = mod-mod-pow b 11 52

pub below-ones : (p : ℕ) → p < 0x47ef_ffff_f000_0000 → p / 2 ^ 52 < 2047
below-ones p h = omega arith
