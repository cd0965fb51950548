-- the float constants of plc.rs
use Rattle.std.specs.Prelude.{Float}
use Rattle.std.specs.Float.{binary32}
use Rattle.std.specs.Float.Ieee.{of_bits}

-- 10.0, the noise floor of the first correlation
abbrev pub floor32 : Float
floor32 = of_bits binary32 0x4120_0000
