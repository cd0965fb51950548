-- After as many turns as were yielded, so many places are swept.
use Rattle.std.proofs.Common.{◌≡◌, length}
use Rattle.plc_best.specs.Best.{sweep_to}
use Rattle.plc_best.proofs.Turn.{sweep}
use Rattle.plc_best.proofs.two_best.Given as goal

abbrev pub invariant-loop-i : goal.invariant-loop-i
invariant-loop-i l = sweep_to l.xcorr l.y l.len (length l.yielded) ≡ sweep l.best l.syy
