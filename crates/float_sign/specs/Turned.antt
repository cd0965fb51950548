-- A float with its sign turned.
use Rattle.std.specs.Prelude.{Float}
use Rattle.std.specs.Float.{binary64}
use Rattle.std.specs.Float.Ieee.{of_bits, sub}

-- 0 - x: the sign turned, and +0 for a zero
unfoldable pub turned : Float → Float
turned x = sub binary64 (of_bits binary64 0) x
