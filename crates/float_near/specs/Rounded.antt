-- A rounded result in the normal range, as a whole number of the format's smallest value.
use Rattle.std.specs.Prelude.{ℕ, ◌*◌, ◌^◌, Bool, Float}
use Rattle.std.specs.Float.{Format}
use Rattle.std.specs.Float.Ieee.{prec, low}
use Rattle.std.specs.Float.Ieee.Exact.{HasValue}
use Rattle.float_near.specs.Near.{Near}

-- x is what a / c with the sign s is rounded to: so many times 2 ^ -low,
-- a number that differs from a / c by at most one part in 2 ^ prec of it
pub record Rounded (f : Format) (x : Float) (s : Bool) (a c : ℕ) : Type 0 where
  pub units : ℕ
  pub is : HasValue x s units (2 ^ low f)
  pub near : Near (2 ^ prec f) (units * c) (a * 2 ^ low f)
