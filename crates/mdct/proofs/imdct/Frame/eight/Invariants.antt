-- With each input every output moves to its next place on the circle, and its sum gets one more term.
use mathlib.Core.Path.{◌≡◌}
use lib.ListN.{length}
use Rattle.loops.specs.Front.{tab}
use Rattle.mdct.proofs.Lanes.{places, sums}
use Rattle.mdct.proofs.imdct.Frame.eight.Given as goal

abbrev pub invariant-loop-value : goal.invariant-loop-value
invariant-loop-value l =
    let x = l.self.x.now in
    (l.at ≡ tab (places (length x) l.t l.value-index) 8) × (l.acc ≡ tab (sums (length x) x l.t l.value-index) 8)
