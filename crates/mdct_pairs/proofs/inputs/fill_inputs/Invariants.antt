-- The places before i are filled.
use mathlib.Core.Path.{◌≡◌}
use Rattle.loops.specs.Front.{front, tab}
use Rattle.mdct_pairs.specs.Inputs.{input_at}
use Rattle.mdct_pairs.proofs.inputs.fill_inputs.Given as goal

abbrev pub invariant-loop-i : goal.invariant-loop-i
invariant-loop-i l = l.inputs ≡ front (tab (input_at l.x) l.i) l.initial.inputs l.i
