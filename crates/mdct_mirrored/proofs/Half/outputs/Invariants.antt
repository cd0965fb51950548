-- The outputs before t are written.
use mathlib.Core.Path.{◌≡◌}
use Prim.Native.Nat.{ℕ}
use lib.ListN.{length, get_or}
use lib.Ieee.{nan}
use Rattle.loops.specs.Front.{front, tab}
use Rattle.mdct_mirrored.specs.Mirrored.{mirrored_outputs}
use Rattle.mdct_mirrored.proofs.Half.outputs.Given as goal

abbrev pub invariant-loop-t : goal.invariant-loop-t
invariant-loop-t l = l.out ≡ front (tab (λ (i : ℕ). get_or (mirrored_outputs (length l.self.sums.now) l.self.sums.now) i nan) l.t) l.initial.out l.t
