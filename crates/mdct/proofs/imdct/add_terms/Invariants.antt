-- The sums before j have their term, the others stand as they were.
use mathlib.Core.Path.{◌≡◌}
use Rattle.loops.specs.Front.{front, tab}
use Rattle.mdct.proofs.Lanes.{termed}
use Rattle.mdct.proofs.imdct.add_terms.Given as goal

abbrev pub invariant-loop-j : goal.invariant-loop-j
invariant-loop-j l = l.acc ≡ front (tab (termed l.circle l.v l.at l.initial.acc) l.j) l.initial.acc l.j
