-- The sums before e have their term, the others stand as they were.
use mathlib.Core.Path.{◌≡◌}
use Rattle.loops.specs.Front.{front, tab}
use Rattle.mdct_pairs.proofs.Two.{term_of}
use Rattle.mdct_pairs.proofs.lanes.add_terms.Given as goal

abbrev pub invariant-loop-e : goal.invariant-loop-e
invariant-loop-e l = l.acc ≡ front (tab (term_of l.pairs l.inputs l.at l.initial.acc) l.e) l.initial.acc l.e
