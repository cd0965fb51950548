use Rattle.std.proofs.Common.{rules}
use lib.Ieee.{nan}
use Rattle.plc_search.specs.Search.{every_second}
use Rattle.loops.specs.Made.{made}
use Rattle.plc_search.proofs.every_second.Goals as goal

pub returns : goal.returns
unfolding every_second
returns g c = made _ _ _ g.row.N (λ i y q l k. search rules) nan _ c.from_fn.ensures.items
