use Rattle.std.proofs.Common.{rules}
use Rattle.band_gain.proofs.Wholes.{two-to-is, two-to-real}
use Rattle.band_gain.proofs.two_to.Goals as goal

pub float_from_bits-result : goal.float_from_bits-result
float_from_bits-result c = two-to-real c.args.n (search rules)

pub returns : goal.returns
returns c = two-to-is _ (search rules)
