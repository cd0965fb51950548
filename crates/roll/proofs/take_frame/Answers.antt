-- `take_frame` meets its contract: one sample after the other.
use Rattle.std.proofs.Common.{◌∙◌, ap, ℕ, arith, rules, get_or}
use Rattle.std.specs.Float.{Float, nan}
use Rattle.loops.specs.Front.{tab, tab-none, tab-more, tab-all, tab-list}
use Rattle.roll.proofs.take_frame.Goals as goal

pub loop-i-init : goal.loop-i-init
loop-i-init c = tab-none _ _

pub loop-i-preserved : goal.loop-i-preserved
loop-i-preserved c = tab-more (λ (j : ℕ). get_or c.args.frame.now j nan) nan _ _ _ c.loop-i.invariant _ (search rules) (omega arith)

pub returns : goal.returns
returns c =
    let h = c.loop-i in
    let f : ℕ → Float = λ (j : ℕ). get_or c.args.frame.now j nan in
    tab-all f nan _ _ h.i h.invariant (omega arith) ∙ ap (tab f) c.requires ∙ tab-list nan c.args.frame.now
