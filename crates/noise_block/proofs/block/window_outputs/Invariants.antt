-- The samples before j are written.
use mathlib.Core.Path.{◌≡◌}
use Rattle.loops.specs.Front.{front, tab}
use Rattle.noise_block.specs.Block.{windowed}
use Rattle.noise_block.proofs.block.window_outputs.Given as goal

abbrev pub invariant-loop-j : goal.invariant-loop-j
invariant-loop-j l = l.block ≡ front (tab (windowed l.n l.u) l.j) l.initial.block l.j
