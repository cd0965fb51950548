use Prim.Native.Nat.{◌%◌}
use borrow.Author.Rules.{rules}
use Rattle.std.proofs.lemmas.List.{get_or-map}
use lib.Ieee.{nan, of_bits, binary64}
use Rattle.powers.specs.Powers.{power_bits, power}
use Rattle.powers.proofs.power_at.Goals as goal

pub returns : goal.returns
unfolding power power_bits
returns c = get_or-map (of_bits binary64) power_bits (c.args.i % 256) 0 nan (search rules)
