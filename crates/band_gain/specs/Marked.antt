-- The marked gains.
use Rattle.std.specs.Prelude.{◌≡◌, refl}
use Rattle.std.specs.Float.{nan, binary32}
use Rattle.std.specs.Float.Ieee.{of_bits, neg, add, sub, mul, div, le, lt, eq, is_nan, of_int}
use Rattle.float_extremes.specs.Extremes.{min_of}
use Rattle.float_narrow.specs.Narrow.{narrow}
use Rattle.powers.specs.Powers.{power_bits, power}
use Rattle.band_gain.specs.Gain.{floor_from, steps, series, gain_at, band_gain, gain_of}

-- 0 gives 1; 32 and NaN give 2 ^ 32; -150 gives +0
pub gains :
    (gain_of (of_bits binary32 0) ≡ of_bits binary32 0x3f80_0000)
    × (gain_of (of_bits binary32 0x4200_0000) ≡ of_bits binary32 0x4f80_0000)
    × (gain_of nan ≡ of_bits binary32 0x4f80_0000)
    × (gain_of (neg (of_bits binary32 0x4316_0000)) ≡ of_bits binary32 0)
unfolding min_of band_gain gain_at series power power_bits steps floor_from narrow of_bits of_int neg add sub mul div le lt eq is_nan
gains = (refl, refl, refl, refl)
