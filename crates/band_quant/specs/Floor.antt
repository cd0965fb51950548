-- What a band's energy starts from is too little to count beside a value other than zero.
use Rattle.std.specs.Prelude.{refl, false, ℕ, ◌*◌, ◌^◌, ◌≤◌}
use Rattle.std.proofs.Common.{lit≤}
use Rattle.std.specs.Float.Ieee.{of_bits}
use Rattle.std.specs.Float.Ieee.Exact.{HasValue}
use Rattle.band_quant.specs.Renormalise.{floor64}

-- 1e-15, which no f64 is, is rounded to so many of 2 ^ -1074
abbrev pub floor_units : ℕ
floor_units = 0x9_01d7_cf73_ab0b * 2 ^ 973

pub floor-is : HasValue floor64 false floor_units (2 ^ 1074)
unfolding of_bits
floor-is = (refl, refl)

-- it is less than 2 ^ -49
pub floor_faint : floor_units ≤ 2 ^ 1025
floor_faint = lit≤ tt
