-- A stretch of samples against another from each place on, as `pitch_search` sums it.
use Rattle.std.specs.Prelude.{ℕ, ◌+◌, Bool, List, leb, get_or, Float}
use Rattle.std.specs.Float.{nan, binary32}
use Rattle.std.specs.Float.Ieee.{mul}
use Rattle.loops.specs.Sum.{sum_to}
use Rattle.buffers.specs.Buffers.{zero32}
use Rattle.float_extremes.specs.Extremes.{max_of}
use Rattle.plc_best.specs.Best.{minus_one}

-- the first n samples of x against y from i on, in order from +0
unfoldable pub cross_sum : List Float → List Float → ℕ → ℕ → Float
cross_sum x y i n = sum_to binary32 (λ (j : ℕ). mul binary32 (get_or x j nan) (get_or y (i + j) nan)) zero32 n

-- the same raised to at least -1; NaN becomes -1
unfoldable pub correlation : List Float → List Float → ℕ → ℕ → Float
correlation x y n i = max_of (cross_sum x y i n) minus_one

-- the lengths of x, y and the row of correlations that are taken
abbrev pub correlate_takes : ℕ → ℕ → ℕ → Bool
correlate_takes x y n = leb (x + n) (y + 1)
