-- After i turns the first i values are drawn.
use Rattle.std.proofs.Common.{◌≡◌}
use Rattle.loops.specs.Front.{front, tab}
use Rattle.draw.specs.Draw.{draws}
use Rattle.draw.specs.Noise.{noise_at}
use Rattle.draw.proofs.noise_fill.Given as goal

abbrev pub invariant-loop-v : goal.invariant-loop-v
invariant-loop-v l =
    (l.s ≡ draws l.v-index l.seed) × (l.x ≡ front (tab (noise_at l.seed) l.v-index) l.initial.x l.v-index)
