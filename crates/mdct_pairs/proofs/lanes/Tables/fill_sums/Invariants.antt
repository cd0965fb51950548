-- The first 8 k sums are in place, and 8 k times n products were made for them.
use mathlib.Core.Path.{◌≡◌}
use Prim.Native.Nat.{◌*◌}
use lib.ListN.{length}
use Rattle.loops.specs.Front.{front, tab}
use Rattle.mdct_pairs.proofs.Two.{pair_sum}
use Rattle.mdct_pairs.proofs.lanes.Tables.fill_sums.Given as goal

abbrev pub invariant-loop-k : goal.invariant-loop-k
invariant-loop-k l =
    (l.sums ≡ front (tab (pair_sum (length l.self.x.now) l.self.x.now) (8 * l.k)) l.initial.sums (8 * l.k))
    × (l.products ≡ 8 * l.k * length l.self.x.now)
