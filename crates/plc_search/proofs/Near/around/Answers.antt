use Rattle.buffers.specs.Buffers.{zero32}
use Rattle.plc_search.proofs.Finer.{near-row, near-taken}
use mathlib.Core.Path.{refl}
use lib.ListN.{replicate}
use borrow.Author.Rules.{rules}
use Rattle.plc_search.proofs.Near.around.Goals as goal

pub unwrap-requires : goal.unwrap-requires
unwrap-requires c =
    let a = c.args in
    near-taken a.y.now (search rules) (replicate 5 zero32) a.place.at _ c.first_near-lo.ensures (search rules) refl c.correlate.ensures

pub returns-clause-values : goal.returns-clause-values
returns-clause-values c =
    let a = c.args in
    near-row a.y.now (search rules) (replicate 5 zero32) a.place.at _ c.first_near-lo.ensures (search rules) refl c.correlate.ensures
