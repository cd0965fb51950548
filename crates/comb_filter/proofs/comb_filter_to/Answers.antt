use Rattle.std.proofs.Common.{sym, arith}
use Rattle.std.specs.Float.{nan}
use Rattle.loops.specs.Front.{tab-none, tab-more}
use Rattle.reply.specs.Reply.{reply-yes}
use Rattle.comb_filter.proofs.Laws.{comb-yes, within, filtered-all}
use Rattle.comb_filter.proofs.comb_filter_to.Goals as goal

pub loop-i-init : goal.loop-i-init
loop-i-init c = tab-none _ _

pub comb_at-requires : goal.comb_at-requires
comb_at-requires c = within _ _ c.args.f (sym c.if-not-filter_fits.ensures) c.if-x-ne-TAIL.false (omega arith)

pub loop-i-preserved : goal.loop-i-preserved
loop-i-preserved c = tab-more _ nan _ _ _ c.loop-i.invariant _ c.comb_at.ensures (omega arith)

pub returns : goal.returns
returns c =
    reply-yes _ _ _ (comb-yes _ _ _ c.if-dst-ne-OVERLAP.false c.if-x-ne-TAIL.false (sym c.if-not-filter_fits.ensures))
    (filtered-all _ _ _ _ _ _ c.tap_gains-g.ensures c.loop-i.invariant (omega arith) c.if-dst-ne-OVERLAP.false)
