use Rattle.std.proofs.Common.{◌≡◌, ℕ, ◌+◌, get_or}
use lib.Ieee.{nan, binary32, mul}
use Rattle.loops.specs.Front.{front, tab}
use Rattle.plc_whiten.specs.Whiten.{damping_to}
use Rattle.plc_whiten.proofs.damp.Given as goal

abbrev pub invariant-loop-v : goal.invariant-loop-v
invariant-loop-v l =
    (l.factor ≡ damping_to l.v-index)
    × (l.lpc ≡ front (tab (λ (j : ℕ). mul binary32 (get_or l.initial.lpc j nan) (damping_to (j + 1))) l.v-index) l.initial.lpc l.v-index)
