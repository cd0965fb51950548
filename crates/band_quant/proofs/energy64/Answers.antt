-- After i turns the first i squares are added.
use mathlib.Core.Path.{ap, ◌∙◌, sym}
use lib.Ieee.{binary64}
use borrow.Author.Rules.{rules}
use Rattle.loops.specs.Sum.{sum_to, sum-none}
use Rattle.band_quant.specs.Renormalise.{square64_at, floor64, energy64}
use Rattle.band_quant.proofs.Turn.{energy-more}
use Rattle.band_quant.proofs.energy64.Goals as goal

pub loop-value-init : goal.loop-value-init
loop-value-init c = sym (sum-none _ _ _)

pub loop-value-preserved : goal.loop-value-preserved
loop-value-preserved c = energy-more _ _ _ _ c.loop-value.invariant c.f32_to_f64-v.ensures

pub returns : goal.returns
unfolding energy64
returns c = c.loop-value.invariant ∙ ap (sum_to binary64 (square64_at c.args.x.now) floor64) (search rules)
