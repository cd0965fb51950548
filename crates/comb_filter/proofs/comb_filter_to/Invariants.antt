-- After i turns the first i places are filtered.
use Rattle.std.proofs.Common.{◌≡◌}
use Rattle.loops.specs.Front.{front, tab}
use Rattle.comb_filter.proofs.Laws.{sample}
use Rattle.comb_filter.proofs.comb_filter_to.Given as goal

abbrev pub invariant-loop-i : goal.invariant-loop-i
invariant-loop-i l = l.dst ≡ front (tab (sample l.x l.period l.g) l.i) l.initial.dst l.i
