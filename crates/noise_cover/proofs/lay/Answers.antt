-- Each refusal by its test, and the first samples added to the old overlap.
use mathlib.Core.Path.{◌≡◌, refl, ap, ◌∙◌}
use mathlib.Core.Logic.{inl, inr}
use Prim.Native.Nat.{◌-◌}
use native.Mathlib.Omega.{arith}
use lib.ListN.{length, take, drop, length-drop}
use lib.Seq.{take_all}
use lib.Ieee.{nan}
use borrow.Author.Rules.{rules}
use Rattle.loops.specs.Front.{tab, tab-none, tab-more, tab-all}
use Rattle.reply.specs.Reply.{reply-yes, reply-no}
use Rattle.noise_cover.proofs.Laws.{sum_at, over_is, lay_is, lay-takes, lay-short, lay-other}
use Rattle.noise_cover.proofs.lay.Goals as goal

pub returns-then-size : goal.returns-then-size
returns-then-size c = reply-no _ _ _ (elim c.then-size.either [ inl h ↦ lay-short _ _ h | inr h ↦ lay-other _ _ h.1 ]) refl

pub loop-j-init : goal.loop-j-init
loop-j-init c = tab-none _ _

pub loop-j-preserved : goal.loop-j-preserved
loop-j-preserved c = tab-more _ nan _ _ _ c.loop-j.invariant _ refl (search rules)

pub returns : goal.returns
returns c =
    let l = c.loop-j in
    let b = c.args.block.now in
    let t = c.args.tail.now in
    let s = c.split_at_mut-first in
    let y : take (length b - 120) (drop 120 b) ≡ drop 120 b = take_all (length b - 120) (drop 120 b) (omega (arith, length-drop 120 b)) in
    reply-yes _ _ _ (lay-takes _ _ c.if-size.false c.if-block-size.false)
    (lay_is b (drop (length t - 120) t) l.first c.copy_from_slice.new.self
    (tab-all _ nan _ _ _ l.invariant (search rules)
    ∙ ap (λ z. tab (sum_at b z) (length s.result.0.now)) (over_is t s.result.1.now c.if-size.false s.ensures.back)
    ∙ ap (tab (sum_at b (drop (length t - 120) t))) s.ensures.front_len)
    (c.copy_from_slice.ensures.after ∙ y))
