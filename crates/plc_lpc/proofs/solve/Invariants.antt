-- The coefficients and the error after i turns, none of which stopped; at a stop nothing later changes.
use mathlib.Core.Path.{◌≡◌}
use Rattle.loops.specs.Fold.{fold_to}
use mathlib.Core.Bool.{false}
use Rattle.plc_lpc.specs.Lpc.{back_to, crossed, lpc_to}
use Rattle.plc_lpc.proofs.Turn.{state}
use Rattle.plc_lpc.proofs.solve.Given as goal

abbrev pub invariant-loop-j : goal.invariant-loop-j
invariant-loop-j l = l.rr ≡ back_to l.lpc l.ac l.i l.j

abbrev pub invariant-loop-j-2 : goal.invariant-loop-j-2
invariant-loop-j-2 l = l.lpc ≡ fold_to (crossed l.r l.i) l.initial.lpc l.j

abbrev pub invariant-loop-i : goal.invariant-loop-i
invariant-loop-i l = lpc_to l.ac l.p l.i ≡ state l.lpc l.error false
