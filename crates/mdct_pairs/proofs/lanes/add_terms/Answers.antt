-- The sums before e have their term, the others stand as they were.
use mathlib.Core.Path.{ap, ◌∙◌}
use Prim.Native.Nat.{◌+◌, ◌/◌, ◌%◌}
use lib.ListN.{get_or}
use lib.Ieee.{nan, binary64, add, mul}
use borrow.Author.Rules.{rules}
use Rattle.loops.specs.Front.{tab, tab-none, tab-read, tab-more, tab-all}
use Rattle.mdct_pairs.proofs.lanes.add_terms.Goals as goal

pub loop-e-init : goal.loop-e-init
loop-e-init c = tab-none _ _

pub loop-e-preserved : goal.loop-e-preserved
loop-e-preserved c =
    let l = c.loop-e in
    let a = c.args in
    let term = mul binary64 (get_or a.inputs (l.e % 2) nan) (get_or a.pairs.now (get_or a.at.now (l.e / 2) 0 + l.e % 2) nan) in
    tab-more _ nan _ _ _ l.invariant _ (ap (λ y. add binary64 y term) (tab-read _ nan _ _ _ l.invariant (search rules))) (search rules)

pub returns : goal.returns
returns c = tab-all _ nan _ _ _ c.loop-e.invariant (search rules) ∙ ap (tab _) (search rules)
