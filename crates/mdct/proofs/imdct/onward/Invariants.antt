-- The places before j are a step on, the others stand as they were.
use mathlib.Core.Path.{◌≡◌}
use Rattle.loops.specs.Front.{front, tab}
use Rattle.mdct.proofs.Lanes.{moved}
use Rattle.mdct.proofs.imdct.onward.Given as goal

abbrev pub invariant-loop-j : goal.invariant-loop-j
invariant-loop-j l = l.at ≡ front (tab (moved l.step l.w l.initial.at) l.j) l.initial.at l.j
