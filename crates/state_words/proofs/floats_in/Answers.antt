-- `floats_in` meets its contract: one float after the other.
use Rattle.std.proofs.Common.{rules}
use lib.Ieee.{nan}
use Rattle.state_words.specs.Words.{floats_by}
use Rattle.loops.specs.Made.{made}
use Rattle.state_words.proofs.floats_in.Goals as goal

pub returns : goal.returns
unfolding floats_by
returns g c = made _ _ _ g.row.N (λ i y q l k. search rules) nan _ c.from_fn.ensures.items
