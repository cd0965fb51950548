-- With two inputs every lane goes two steps on and is taken back into the circle, and each sum gets two terms more.
use mathlib.Core.Path.{◌≡◌}
use Prim.Native.Nat.{ℕ, ◌*◌}
use Rattle.loops.specs.Front.{tab}
use Rattle.mdct.proofs.Lanes.{places}
use Rattle.mdct_pairs.proofs.PairLanes.{sums}
use Rattle.mdct_pairs.proofs.lanes.Tables.four.Given as goal

abbrev pub invariant-loop-four : goal.invariant-loop-four
invariant-loop-four l =
    let k = 2 * l.four-index in
    (l.at ≡ tab (λ (j : ℕ). 2 * places l.n l.t k j) 4) × (l.acc ≡ tab (sums l.n l.self.x.now l.t k) 8) × (l.products ≡ 16 * l.four-index)
