-- One turn of the sum of squares, and a band's steps put together.
use mathlib.Core.Path.{◌≡◌, ap, ◌∙◌}
use mathlib.Core.List.{List, map}
use Prim.Native.Nat.{ℕ, ◌+◌}
use lib.ListN.{get_or}
use lib.Ieee.{Float, nan, binary32, binary64, add, mul, div}
use Rattle.loops.specs.Sum.{sum_to, sum_more}
use Rattle.buffers.specs.Buffers.{times}
use Rattle.float_narrow.specs.Narrow.{narrow}
use Rattle.float_root.specs.Root.{sqrt_of}
use Rattle.band_quant.specs.Renormalise.{square64_at, floor64, energy64, factor_of, renormalise_vector}

pub energy-more : (xs : List Float) (e v : Float) (i : ℕ) → e ≡ sum_to binary64 (square64_at xs) floor64 i → v ≡ get_or xs i nan
    → add binary64 e (mul binary64 v v) ≡ sum_to binary64 (square64_at xs) floor64 (i + 1)
energy-more xs e v i h f = ap (λ z. add binary64 e (mul binary64 z z)) f ∙ sum_more binary64 (square64_at xs) floor64 e i h

pub renormalised : (xs ys : List Float) (gain e d q : Float) → e ≡ energy64 xs → d ≡ narrow e → q ≡ sqrt_of d → ys ≡ map (times (div binary32 gain q)) xs
    → ys ≡ renormalise_vector xs gain
unfolding renormalise_vector factor_of
renormalised xs ys gain e d q h f k m = m ∙ ap (λ z. map (times (div binary32 gain z)) xs) (k ∙ ap sqrt_of (f ∙ ap narrow h))
