-- The sums before the index are raised.
use Rattle.loops.specs.Front.{front, tab}
use Rattle.plc_correlate.specs.Correlation.{correlation}
use mathlib.Core.Path.{◌≡◌}
use lib.ListN.{length}
use Rattle.plc_correlate.proofs.correlate.Given as goal

abbrev pub invariant-loop-c : goal.invariant-loop-c
invariant-loop-c l = l.xcorr ≡ front (tab (correlation l.x l.y (length l.x)) l.c-index) l.initial.xcorr l.c-index
