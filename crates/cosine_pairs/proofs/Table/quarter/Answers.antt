-- The first p pairs of the quarter are written, and each step lies within a quarter of the circle.
use mathlib.Core.Path.{ap, ◌∙◌}
use native.Mathlib.Omega.{arith}
use lib.Ieee.{nan}
use borrow.Author.Rules.{rules}
use Rattle.loops.specs.Front.{tab, tab-none, tab-all}
use Rattle.cosine_circle.proofs.Sizes.{sized}
use Rattle.cosine_pairs.proofs.Pairs.{in_quarter, quarter-more}
use Rattle.cosine_pairs.proofs.Table.quarter.Goals as goal

pub nonzero_div-s : goal.nonzero_div-s
nonzero_div-s c = omega (arith, in_quarter c.args.self.n c.args.r c.args.self.frame c.requires.0)

pub loop-p-init : goal.loop-p-init
loop-p-init c = tab-none _ _

pub loop-p-preserved : goal.loop-p-preserved
loop-p-preserved c =
    let l = c.loop-p in
    quarter-more _ _ _ _ _ _ _ (sized _ c.args.self.frame) c.loop-p-test.true c.requires.1 l.invariant
    c.corner.ensures c.corner-in-loop-p.ensures

pub returns : goal.returns
returns c =
    let l = c.loop-p in tab-all _ nan _ _ _ l.invariant (search rules) ∙ ap (tab _) c.requires.1
