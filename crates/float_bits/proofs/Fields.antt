-- What the fields of a bit pattern stand for, in either format. Assumes nothing.
use Rattle.std.proofs.Common.{◌≡◌, ℕ, zero, suc, ◌+◌, ◌*◌, ◌/◌, ◌%◌, ◌^◌, ◌<◌, Bool, cond, not, T, eqb, leb}
use Rattle.std.proofs.Common.{sym, refl, subst, lt_irrefl, mul-one, eqb→eq}
use lib.Dec.{not_T, eqb-suc-zero}
use lib.Ieee.{Float, nan, inf, Format, binary32, binary64, prec, low, hid, ones, top, odd, is_nan, of_fields, of_bits}
use lib.Ieee.Bits.{cond_no}
use lib.Ieee.Exact.{HasValue, odd_sign}
use Rattle.float_bits.specs.Steps.{significand}

pub of_bits_is : (f : Format) (b : ℕ) → of_bits f b ≡ of_fields f (leb (top f) b) (b % top f / hid f) (b % hid f)
unfolding of_bits
of_bits_is f b = refl

pub fields-val : (f : Format) (s : Bool) (e t : ℕ) → e < ones f → HasValue (of_fields f s e t) s (significand f e t) (2 ^ low f)
unfolding of_fields
fields-val f s zero t h = subst (λ (a : ℕ). HasValue (odd (prec f) s t 0 (low f)) s a (2 ^ low f)) (mul-one t) (odd_sign (prec f) s t 0 (low f))
fields-val f s (suc x) t h =
    subst (λ (v : Float). HasValue v s ((hid f + t) * 2 ^ x) (2 ^ low f))
    (sym (cond_no (eqb (suc x) (ones f)) (cond (eqb t 0) (inf s) nan) (odd (prec f) s (hid f + t) x (low f))
    (not_T (eqb (suc x) (ones f)) (λ (u : T (eqb (suc x) (ones f))). lt_irrefl (ones f) (subst (λ (z : ℕ). z < ones f) (eqb→eq (suc x) (ones f) u) h)))))
    (odd_sign (prec f) s (hid f + t) x (low f))

at_ones : (f : Format) (s : Bool) (t : ℕ) → T (not (is_nan (of_fields f s (ones f) t))) → of_fields f s (ones f) t ≡ inf s
unfolding of_fields is_nan
at_ones binary32 s zero n = refl
at_ones binary64 s zero n = refl
at_ones binary32 s (suc t) n = absurd (subst (λ (b : Bool). T (not (is_nan (cond b (inf s) nan)))) (eqb-suc-zero t) n)
at_ones binary64 s (suc t) n = absurd (subst (λ (b : Bool). T (not (is_nan (cond b (inf s) nan)))) (eqb-suc-zero t) n)

pub fields-inf : (f : Format) (s : Bool) (e t : ℕ) → e ≡ ones f → T (not (is_nan (of_fields f s e t))) → of_fields f s e t ≡ inf s
fields-inf f s e t h n =
    subst (λ (x : ℕ). of_fields f s x t ≡ inf s) (sym h) (at_ones f s t (subst (λ (x : ℕ). T (not (is_nan (of_fields f s x t)))) h n))
