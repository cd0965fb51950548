-- `sizes::frame_size` meets its contract.
use native.Mathlib.Omega.{arith}
use Rattle.settings.proofs.Passed.{factor-most}
use Rattle.sizes.proofs.frame_size.Goals as goal

pub overflow_mul-result : goal.overflow_mul-result
overflow_mul-result c = omega (arith, factor-most c.args.lm)
