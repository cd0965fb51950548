-- Sample buffers: scaled, and their energy.
use Rattle.std.specs.Prelude.{List, ℕ, length, get_or, Float}
use Rattle.std.specs.Float.{nan, binary32}
use Rattle.std.specs.Float.Ieee.{mul, of_bits}
use Rattle.loops.specs.Sum.{sum_to}

-- +0
abbrev pub zero32 : Float
zero32 = of_bits binary32 0

-- 1
abbrev pub one32 : Float
one32 = of_bits binary32 0x3f80_0000

-- v times g
abbrev pub times : Float → Float → Float
times g v = mul binary32 v g

-- the square of what stands at i
abbrev pub square_at : List Float → ℕ → Float
square_at xs i = mul binary32 (get_or xs i nan) (get_or xs i nan)

-- the squares of all samples, added to a in order
unfoldable pub energy : Float → List Float → Float
energy a xs = sum_to binary32 (square_at xs) a (length xs)
