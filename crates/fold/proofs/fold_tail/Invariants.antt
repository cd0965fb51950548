-- After k turns the first k places are folded.
use Rattle.std.proofs.Common.{◌≡◌}
use Rattle.loops.specs.Front.{front, tab}
use Rattle.fold.specs.Fold.{fold_at}
use Rattle.fold.proofs.fold_tail.Given as goal

abbrev pub invariant-loop-k : goal.invariant-loop-k
invariant-loop-k l = l.over ≡ front (tab (fold_at l.w l.x) l.k) l.initial.over l.k
