-- `renormalise_vector`: a band brought to unit energy, times a gain.
use Rattle.std.specs.Prelude.{◌≡◌, List, map, ℕ, length, get_or, Float}
use Rattle.std.proofs.lemmas.List.{length-map}
use Rattle.std.specs.Float.{nan, binary32, binary64}
use Rattle.std.specs.Float.Ieee.{mul, div, of_bits}
use Rattle.loops.specs.Sum.{sum_to}
use Rattle.buffers.specs.Buffers.{times}
use Rattle.float_narrow.specs.Narrow.{narrow}
use Rattle.float_root.specs.Root.{sqrt_of}

-- the square of what stands at j, in f64
abbrev pub square64_at : List Float → ℕ → Float
square64_at xs j = mul binary64 (get_or xs j nan) (get_or xs j nan)

-- 1e-15
abbrev pub floor64 : Float
floor64 = of_bits binary64 0x3cd2_03af_9ee7_5616

-- 1e-15 and the squares of all values, summed in order in f64
unfoldable pub energy64 : List Float → Float
energy64 xs = sum_to binary64 (square64_at xs) floor64 (length xs)

-- the gain over the square root of the energy, in f32
unfoldable pub factor_of : List Float → Float → Float
factor_of xs gain = div binary32 gain (sqrt_of (narrow (energy64 xs)))

unfoldable pub renormalise_vector : List Float → Float → List Float
renormalise_vector xs gain = map (times (factor_of xs gain)) xs

pub length-renormalise_vector : (xs : List Float) (gain : Float) → length (renormalise_vector xs gain) ≡ length xs
unfolding renormalise_vector
length-renormalise_vector xs gain = length-map xs (times (factor_of xs gain))
