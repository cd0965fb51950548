-- `sizes::block_factor` meets its contract.
use Rattle.sizes.proofs.Shift.{factor-shift}
use Rattle.sizes.proofs.block_factor.Goals as goal

pub returns : goal.returns
returns c = factor-shift c.args.lm _ c.min.ensures
