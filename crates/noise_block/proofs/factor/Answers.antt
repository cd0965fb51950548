use mathlib.Core.Path.{◌∙◌}
use Prim.Native.Nat.{◌^◌}
use native.Mathlib.Omega.{arith}
use native.Mathlib.Nat.{one-mul}
use lib.Dec.{lit<}
use lib.Pow.{shl_exact}
use Rattle.noise_block.proofs.Calls.{factor-in}
use Rattle.noise_block.proofs.factor.Goals as goal

pub returns : goal.returns
returns c = factor-in c.args.lm _ c.requires (shl_exact {a = 1} 1 c.args.lm 64 (lit< tt) (omega arith) ∙ one-mul (2 ^ c.args.lm))
