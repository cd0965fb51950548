use Rattle.std.proofs.Common.{◌≡◌, ap, ◌∙◌, arith, rules}
use Rattle.std.specs.Float.{nan}
use Rattle.loops.specs.Front.{tab-none, tab-more}
use Rattle.reply.specs.Reply.{reply-yes}
use Rattle.std.proofs.lemmas.Result.{MatchResult-at_ok}
use Rattle.celt_window.specs.Window.{window}
use Rattle.fold.specs.Fold.{folded}
use Rattle.fold.proofs.Laws.{fold-yes, folded-all}
use Rattle.fold.proofs.fold_tail.Goals as goal

pub loop-k-init : goal.loop-k-init
loop-k-init c = tab-none _ _

pub loop-k-preserved : goal.loop-k-preserved
loop-k-preserved c = tab-more _ nan _ _ _ c.loop-k.invariant _ c.fold_at.ensures (omega arith)

pub returns : goal.returns
returns c =
    let x = MatchResult-at_ok _ _ _ c.in_ok-x.was c.try_from.ensures.1 in
    reply-yes _ _ _ (fold-yes _ _ c.if-over-ne-OVERLAP.false x.long)
    (folded-all _ _ _ _ _ _ c.loop-k.invariant (omega arith) c.if-over-ne-OVERLAP.false c.window-w.ensures ∙ ap (folded window) x.same)
