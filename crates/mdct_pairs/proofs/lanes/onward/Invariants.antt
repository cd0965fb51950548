-- The places before j are a step on, the others stand as they were.
use mathlib.Core.Path.{◌≡◌}
use Prim.Native.Nat.{ℕ, ◌+◌, ◌*◌}
use lib.ListN.{get_or}
use Rattle.loops.specs.Front.{front, tab}
use Rattle.mdct_pairs.proofs.lanes.onward.Given as goal

abbrev pub invariant-loop-j : goal.invariant-loop-j
invariant-loop-j l = l.at ≡ front (tab (λ (k : ℕ). get_or l.initial.at k 0 + (l.step + 4 * k)) l.j) l.initial.at l.j
