-- The first i cosines are in place.
use mathlib.Core.Path.{◌≡◌}
use Prim.Native.Nat.{ℕ, ◌+◌, ◌*◌}
use Rattle.loops.specs.Front.{front, tab}
use Rattle.cosine_circle.specs.Circle.{cos_at}
use Rattle.cosine_circle.proofs.circle.Given as goal

abbrev pub invariant-loop-i : goal.invariant-loop-i
invariant-loop-i l = l.v-items ≡ front (tab (λ (k : ℕ). cos_at (l.s * (2 * k + 1))) l.i) l.initial.v-items l.i
