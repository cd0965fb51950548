use Rattle.std.proofs.Common.{refl}
use Rattle.extrapolate.proofs.Steps.{recent_is}
use Rattle.extrapolate.proofs.most_recent.Goals as goal

pub returns : goal.returns
returns c = recent_is c.args.newest.now _ _ _ c.requires refl c.copy_from_slice.ensures.after c.reverse.ensures.after
