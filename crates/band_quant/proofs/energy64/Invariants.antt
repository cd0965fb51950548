-- After i turns the first i squares are added.
use mathlib.Core.Path.{◌≡◌}
use lib.Ieee.{binary64}
use Rattle.loops.specs.Sum.{sum_to}
use Rattle.band_quant.specs.Renormalise.{square64_at, floor64}
use Rattle.band_quant.proofs.energy64.Given as goal

abbrev pub invariant-loop-value : goal.invariant-loop-value
invariant-loop-value l = l.e ≡ sum_to binary64 (square64_at l.x) floor64 l.value-index
