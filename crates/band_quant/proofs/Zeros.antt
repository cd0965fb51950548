-- A band whose values are all zero, of either sign, stays as it is at gain 1, whatever its width.
use Rattle.std.specs.Prelude.{◌≡◌, refl, List, [], ◌∷◌, map, ℕ, zero, suc, ◌<◌, length, get_or, Float}
use Rattle.std.proofs.Common.{ap, ap₂, ◌∙◌, sym, inl, inr, add-one, arith}
use Rattle.std.specs.Float.{nan, binary32, binary64}
use Rattle.std.specs.Float.Ieee.{add, mul, div, of_bits}
use Rattle.loops.specs.Sum.{sum_to, sum-none, sum_more}
use Rattle.buffers.specs.Buffers.{times, one32}
use Rattle.float_narrow.specs.Narrow.{narrow}
use Rattle.float_root.specs.Root.{sqrt_of}
use Rattle.band_quant.specs.Renormalise.{square64_at, floor64, energy64, factor_of, renormalise_vector}
use Rattle.band_quant.proofs.Factor.{factor, factor-is}
use Rattle.band_quant.specs.Zeros.{Zero, AllZero}

square-none : (v : Float) → Zero v → add binary64 floor64 (mul binary64 v v) ≡ floor64
unfolding add mul of_bits
square-none v (inl e) = ap (λ z. add binary64 floor64 (mul binary64 z z)) e
square-none v (inr e) = ap (λ z. add binary64 floor64 (mul binary64 z z)) e

times_none : (v : Float) → Zero v → times factor v ≡ v
unfolding mul of_bits
times_none v (inl e) = ap (times factor) e ∙ sym e
times_none v (inr e) = ap (times factor) e ∙ sym e

sum-floor : (xs : List Float) (n : ℕ) → ((i : ℕ) → i < n → Zero (get_or xs i nan)) → sum_to binary64 (square64_at xs) floor64 n ≡ floor64
sum-floor xs zero z = sum-none binary64 (square64_at xs) floor64
sum-floor xs (suc n) z =
    ap (sum_to binary64 (square64_at xs) floor64) (sym (add-one n))
    ∙ sym (sum_more binary64 (square64_at xs) floor64 (sum_to binary64 (square64_at xs) floor64 n) n refl)
    ∙ ap (λ e. add binary64 e (square64_at xs n)) (sum-floor xs n (λ i h. z i (omega arith)))
    ∙ square-none (get_or xs n nan) (z n (omega arith))

each : (xs : List Float) → AllZero xs → map (times factor) xs ≡ xs
each [] z = refl
each (x ∷ xs) z = ap₂ (λ y ys. y ∷ ys) (times_none x (z 0 (omega arith))) (each xs (λ i h. z (suc i) (omega arith)))

pub zeros-stay : (xs : List Float) → AllZero xs → renormalise_vector xs one32 ≡ xs
unfolding renormalise_vector factor_of energy64
zeros-stay xs z =
    ap (λ e. map (times (div binary32 one32 (sqrt_of (narrow e)))) xs) (sum-floor xs (length xs) z)
    ∙ ap (λ g. map (times g) xs) factor-is ∙ each xs z
