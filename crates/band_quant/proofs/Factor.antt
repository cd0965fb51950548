-- What a band of zeros is scaled by: the least that the energy can be, narrowed, has a root, and this is 1 over it.
use Rattle.std.specs.Prelude.{◌≡◌, refl, Float}
use Rattle.std.specs.Float.{binary32}
use Rattle.std.specs.Float.Ieee.{div, of_bits}
use Rattle.buffers.specs.Buffers.{one32}
use Rattle.float_narrow.specs.Narrow.{narrow}
use Rattle.float_root.specs.Root.{sqrt_of, twice_root, root_to}
use Rattle.band_quant.specs.Renormalise.{floor64}

-- 1 over the square root of 1e-15
abbrev pub factor : Float
factor = of_bits binary32 0x4bf1_433d

pub factor-is : div binary32 one32 (sqrt_of (narrow floor64)) ≡ factor
unfolding div narrow sqrt_of twice_root root_to of_bits
factor-is = refl
