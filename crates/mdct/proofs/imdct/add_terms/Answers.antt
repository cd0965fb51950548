-- The sums before j have their term, the others stand as they were.
use mathlib.Core.Path.{ap, ◌∙◌}
use lib.ListN.{get_or}
use lib.Ieee.{nan, binary64, add, mul}
use borrow.Author.Rules.{rules}
use Rattle.loops.specs.Front.{tab, tab-none, tab-read, tab-more, tab-all}
use Rattle.mdct.proofs.imdct.add_terms.Goals as goal

pub loop-j-init : goal.loop-j-init
loop-j-init c = tab-none _ _

pub loop-j-preserved : goal.loop-j-preserved
loop-j-preserved c =
    let l = c.loop-j in
    let a = c.args in
    tab-more _ nan _ _ _ l.invariant _
    (ap (λ z. add binary64 z (mul binary64 a.v (get_or a.circle.now (get_or a.at.now l.j 0) nan))) (tab-read _ nan _ _ _ l.invariant (search rules)))
    (search rules)

pub returns : goal.returns
returns c = tab-all _ nan _ _ _ c.loop-j.invariant (search rules) ∙ ap (tab _) (search rules)
