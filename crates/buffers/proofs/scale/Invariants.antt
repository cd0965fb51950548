-- The samples before the index are scaled.
use Rattle.std.proofs.Common.{◌≡◌, map, take}
use Rattle.loops.specs.Front.{front}
use Rattle.buffers.specs.Buffers.{times}
use Rattle.buffers.proofs.scale.Given as goal

abbrev pub invariant-loop-v : goal.invariant-loop-v
invariant-loop-v l = l.x ≡ front (map (times l.g) (take l.v-index l.initial.x)) l.initial.x l.v-index
