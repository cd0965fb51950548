-- The squares of the samples before the index are added.
use Rattle.std.proofs.Common.{◌≡◌}
use lib.Ieee.{binary32}
use Rattle.loops.specs.Sum.{sum_to}
use Rattle.buffers.specs.Buffers.{square_at}
use Rattle.buffers.proofs.energy.Given as goal

abbrev pub invariant-loop-v : goal.invariant-loop-v
invariant-loop-v l = l.s ≡ sum_to binary32 (square_at l.x) l.from l.v-index
