-- `take_frame` meets its contract: one sample after the other.
use Rattle.std.proofs.Common.{◌≡◌, ℕ, get_or}
use Rattle.std.specs.Float.{nan}
use Rattle.loops.specs.Front.{front, tab}
use Rattle.roll.proofs.take_frame.Given as goal

abbrev pub invariant-loop-i : goal.invariant-loop-i
invariant-loop-i l = l.place ≡ front (tab (λ (j : ℕ). get_or l.frame j nan) l.i) l.initial.place l.i
