use Rattle.plc_correlate.proofs.Rows.{raised}
use Rattle.loops.specs.Front.{tab, tab-none, tab-more, tab-all}
use lib.Ieee.{nan}
use mathlib.Core.Path.{◌≡◌, refl, ap, ◌∙◌}
use Prim.Native.Nat.{◌+◌}
use lib.ListN.{length}
use borrow.Author.Rules.{rules}
use borrow.Author.Tests.{le-leb, lt-leb}
use Rattle.reply.specs.Reply.{reply-yes, reply-no}
use Rattle.plc_correlate.proofs.correlate.Goals as goal

pub returns-then-y-x : goal.returns-then-y-x
returns-then-y-x c = let a = c.args in
    reply-no _ _ _ (lt-leb (length a.x.now + length a.xcorr.now) (length a.y.now + 1) (search rules)) refl

pub loop-c-init : goal.loop-c-init
loop-c-init c = tab-none _ _

pub loop-c-preserved : goal.loop-c-preserved
loop-c-preserved c =
    let l = c.loop-c in
    tab-more _ nan _ _ _ l.invariant _ (raised _ _ _ _ _ _ _ _ l.invariant c.cross_sums.ensures (search rules) c.max_f32.ensures) (search rules)

pub returns : goal.returns
returns c =
    let a = c.args in
    let q : length c.cross_sums.new.sums ≡ length a.xcorr.now = search rules in
    reply-yes _ _ _ (le-leb (length a.x.now + length a.xcorr.now) (length a.y.now + 1) (search rules))
    (tab-all _ nan _ _ _ c.loop-c.invariant (search rules) ∙ ap (tab _) q)
