use Rattle.std.proofs.Common.{◌≡◌, refl, sym, ◌∙◌, true, false}
use Rattle.reply.specs.Reply.{reply-yes, reply-lent, reply-taken}
use Rattle.comb_filter.proofs.Laws.{comb-yes}
use Rattle.prefilter.specs.Prefilter.{skips}
use Rattle.prefilter.proofs.Laws.{prefilter-yes, pre_skip, pre-put}
use Rattle.prefilter.proofs.prefilter.Goals as goal

pub returns-then-f : goal.returns-then-f
unfolding skips
returns-then-f c =
    reply-yes _ _ _ (prefilter-yes _ c.args.f c.if-t-ne-TAIL.false (sym c.if-not-filter_fits.ensures)) (pre_skip _ _ c.if-f.true)

pub returns-in_err-comb_filter_to : goal.returns-in_err-comb_filter_to
returns-in_err-comb_filter_to c =
    let no : false ≡ true = reply-taken _ _ _ c.in_err-comb_filter_to.ensures ∙ comb-yes _ _ c.args.f refl c.if-t-ne-TAIL.false (sym c.if-not-filter_fits.ensures) in
    cc

pub returns : goal.returns
unfolding skips
returns c =
    reply-yes _ _ _ (prefilter-yes _ c.args.f c.if-t-ne-TAIL.false (sym c.if-not-filter_fits.ensures))
    (pre-put _ _ _ _ _ c.if-f.false refl
    (reply-lent _ _ _ c.in_ok-comb_filter_to.ensures
    (comb-yes _ _ c.args.f refl c.if-t-ne-TAIL.false (sym c.if-not-filter_fits.ensures)))
    c.copy_from_slice.ensures.after)
