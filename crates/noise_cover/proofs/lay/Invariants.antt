-- The first j samples are added to the old overlap.
use mathlib.Core.Path.{◌≡◌}
use Rattle.loops.specs.Front.{front, tab}
use Rattle.noise_cover.proofs.Laws.{sum_at}
use Rattle.noise_cover.proofs.lay.Given as goal

abbrev pub invariant-loop-j : goal.invariant-loop-j
invariant-loop-j l = l.first ≡ front (tab (sum_at l.block l.over) l.j) l.initial.first l.j
