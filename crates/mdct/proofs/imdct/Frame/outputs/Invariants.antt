-- The first 8 k outputs are written.
use mathlib.Core.Path.{◌≡◌}
use Prim.Native.Nat.{◌*◌}
use lib.ListN.{length}
use Rattle.loops.specs.Front.{front, tab}
use Rattle.mdct.specs.Imdct.{imdct_at}
use Rattle.mdct.proofs.imdct.Frame.outputs.Given as goal

abbrev pub invariant-loop-k : goal.invariant-loop-k
invariant-loop-k l = l.out ≡ front (tab (imdct_at (length l.self.x.now) l.self.x.now) (8 * l.k)) l.initial.out (8 * l.k)
