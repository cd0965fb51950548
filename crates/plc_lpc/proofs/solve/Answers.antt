-- The coefficients and the error after i turns, none of which stopped; at a stop nothing later changes.
use mathlib.Core.Path.{◌≡◌, ap, ◌∙◌, sym}
use Prim.Native.Nat.{◌+◌}
use lib.ListN.{length, get_or}
use borrow.Author.Rules.{rules}
use Rattle.loops.specs.Fold.{fold_more, fold-none}
use mathlib.Core.Bool.{true, false}
use lib.Ieee.{nan}
use Rattle.loops.specs.Pick.{pick_true, pick-false}
use Rattle.plc_lpc.specs.Lpc.{lpc_to, celt_lpc}
use Rattle.loops.specs.Sum.{sum-none, sum_more}
use Rattle.plc_lpc.proofs.Turn.{state, none, turned, stopped}
use Rattle.plc_lpc.proofs.solve.Goals as goal

pub returns-then-ac : goal.returns-then-ac
unfolding celt_lpc
returns-then-ac c = c.fill.ensures.after (λ y e. e) ∙ sym (pick_true _ _ _ c.if-ac.true)

pub loop-i-init : goal.loop-i-init
loop-i-init c = let g = c.args in
    none g.ac.now (length g.lpc.now) ∙ ap (λ z. state z (get_or g.ac.now 0 nan) false) (sym (c.fill.ensures.after (λ y e. e)))

pub loop-j-init : goal.loop-j-init
loop-j-init c = sym (sum-none _ _ _)

pub loop-j-preserved : goal.loop-j-preserved
loop-j-preserved c = sum_more _ _ _ _ _ c.loop-j.invariant

pub loop-j-2-init : goal.loop-j-2-init
loop-j-2-init c = sym (fold-none _ _)

pub loop-j-2-preserved : goal.loop-j-2-preserved
loop-j-2-preserved c = fold_more _ _ _ _ c.loop-j-2.invariant

pub loop-i-preserved : goal.loop-i-preserved
loop-i-preserved c =
    let h = c.loop-i in
    turned c.args.ac.now (length c.args.lpc.now) h.i h.lpc c.loop-j-2.lpc h.error c.loop-j.rr c.loop-j.j c.loop-j-2.j false h.invariant c.loop-j.invariant
    (search rules) c.loop-j-2.invariant (search rules) c.if-error-ac.false

pub returns-after-loop-i : goal.returns-after-loop-i
unfolding celt_lpc
returns-after-loop-i c =
    let h2 = c.loop-i in
    let a = c.args in
    let e : length a.lpc.now ≡ h2.i = search rules in
    sym (pick-false _ _ _ c.if-ac.false ∙ ap (λ z. (lpc_to a.ac.now (length a.lpc.now) z).lpc) e ∙ ap (λ z. z.lpc) h2.invariant)

pub returns-then-error-ac : goal.returns-then-error-ac
unfolding celt_lpc
returns-then-error-ac c =
    let h = c.loop-i in
    let t =
    turned c.args.ac.now (length c.args.lpc.now) h.i h.lpc c.loop-j-2.lpc h.error c.loop-j.rr c.loop-j.j c.loop-j-2.j true h.invariant c.loop-j.invariant
    (search rules) c.loop-j-2.invariant (search rules) c.if-error-ac.true in
    sym (pick-false _ _ _ c.if-ac.false ∙ stopped c.args.ac.now (length c.args.lpc.now) (h.i + 1) c.loop-j-2.lpc _ t (search rules))
