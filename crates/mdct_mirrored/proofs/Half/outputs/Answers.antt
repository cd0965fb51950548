-- The outputs before t are written.
use lib.Ieee.{nan}
use borrow.Author.Rules.{rules}
use Rattle.loops.specs.Front.{tab-none, tab-more}
use Rattle.mdct_mirrored.proofs.Halves.{filled}
use Rattle.mdct_mirrored.proofs.Half.outputs.Goals as goal

pub loop-t-init : goal.loop-t-init
loop-t-init c = tab-none _ _

pub loop-t-preserved : goal.loop-t-preserved
loop-t-preserved c = tab-more _ nan _ _ _ c.loop-t.invariant _ c.output.ensures (search rules)

pub returns : goal.returns
returns c = filled _ _ _ _ c.loop-t.t c.loop-t.invariant (search rules) (search rules)
