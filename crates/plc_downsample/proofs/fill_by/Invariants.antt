-- The samples before the index are what `at` gives there.
use Rattle.std.proofs.Common.{ℕ, ◌<◌, get_or}
use lib.Ieee.{nan}
use Rattle.plc_downsample.proofs.fill_by.Given as goal

abbrev pub invariant-loop-i : goal.invariant-loop-i
invariant-loop-i g l = (k : ℕ) → k < l.i → goal.F-post g l.at k (get_or l.x_lp k nan)
