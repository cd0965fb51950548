use Rattle.std.proofs.Common.{◌≡◌, ◌<◌, refl, ap, ◌∙◌, length, rules}
use lib.Ieee.{nan}
use borrow.Author.Tests.{le-leb, lt-leb}
use Rattle.reply.specs.Reply.{reply-yes, reply-no}
use Rattle.loops.specs.Front.{tab-none, tab-more, tab-read, tab-all}
use Rattle.plc_lag_window.specs.LagWindow.{lag_value, lag_window}
use Rattle.plc_lag_window.proofs.lag_window.Goals as goal

pub returns-then-ac-gt-MOST_LAGS : goal.returns-then-ac-gt-MOST_LAGS
returns-then-ac-gt-MOST_LAGS c = reply-no _ _ _ (lt-leb _ 65536 c.if-ac-gt-MOST_LAGS.true) refl

pub loop-i-init : goal.loop-i-init
loop-i-init c = tab-none _ _

pub loop-i-preserved : goal.loop-i-preserved
loop-i-preserved c =
    let l = c.loop-i in
    let h : l.i < length c.args.ac.now = search rules in
    tab-more _ nan _ _ _ l.invariant _ (c.lag_value.ensures ∙ ap (λ z. lag_value z l.i) (tab-read _ nan _ _ _ l.invariant h)) h

pub returns : goal.returns
unfolding lag_window
returns c =
    let l = c.loop-i in
    let e : length c.args.ac.now ≡ l.i = search rules in
    reply-yes _ _ _ (le-leb _ 65536 c.if-ac-gt-MOST_LAGS.false) (tab-all _ nan _ _ _ l.invariant e)
