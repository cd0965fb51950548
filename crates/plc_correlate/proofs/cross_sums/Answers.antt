-- After j turns every sum has its first j terms.
use lib.ListN.{length}
use borrow.Author.Rules.{rules}
use Rattle.plc_correlate.proofs.Rows.{row-none, row_more}
use Rattle.plc_correlate.proofs.cross_sums.Goals as goal

pub loop-j-init : goal.loop-j-init
loop-j-init c = row-none _ _ _ (length c.args.sums.now) (search rules)

pub loop-j-preserved : goal.loop-j-preserved
loop-j-preserved c = row_more _ _ _ _ _ _ c.loop-j.invariant (search rules) c.add_products.ensures
