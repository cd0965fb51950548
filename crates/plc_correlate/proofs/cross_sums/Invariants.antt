-- After j turns every sum has its first j terms.
use mathlib.Core.Path.{◌≡◌}
use lib.ListN.{length}
use Rattle.plc_correlate.proofs.Rows.{row}
use Rattle.plc_correlate.proofs.cross_sums.Given as goal

abbrev pub invariant-loop-j : goal.invariant-loop-j
invariant-loop-j l = l.sums ≡ row l.x l.y (length l.initial.sums) l.j
