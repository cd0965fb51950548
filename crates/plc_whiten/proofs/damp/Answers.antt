use Rattle.std.proofs.Common.{◌≡◌, ap, ◌∙◌, sym, ◌+◌, ◌<◌, length, get_or, rules}
use lib.Ieee.{nan, binary32, mul}
use Rattle.loops.specs.Fold.{fold-none, fold_more}
use Rattle.loops.specs.Front.{tab-none, tab-more, tab-read, tab-all}
use Rattle.plc_whiten.specs.Whiten.{damping, damping_to, damped}
use Rattle.plc_whiten.proofs.damp.Goals as goal

pub loop-v-init : goal.loop-v-init
unfolding damping_to
loop-v-init c = (sym (fold-none _ _), tab-none _ _)

pub loop-v-preserved : goal.loop-v-preserved
unfolding damping_to
loop-v-preserved c =
    let l = c.loop-v in
    let a = c.args in
    let h : l.v-index < length a.lpc.now = search rules in
    let f : mul binary32 l.factor damping ≡ damping_to (l.v-index + 1) = fold_more _ _ _ _ l.invariant.0 in (
      f,
      tab-more _ nan _ _ _ l.invariant.1 _
          (ap (λ z. mul binary32 z (mul binary32 l.factor damping)) (tab-read _ nan _ _ _ l.invariant.1 h)
          ∙ ap (mul binary32 (get_or a.lpc.now l.v-index nan)) f) h,
    )

pub returns : goal.returns
unfolding damped
returns c =
    let l = c.loop-v in
    let e : length c.args.lpc.now ≡ l.v-index = search rules in
    tab-all _ nan _ _ _ l.invariant.1 e
