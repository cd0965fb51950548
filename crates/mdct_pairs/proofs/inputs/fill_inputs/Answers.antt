-- The places before i are filled.
use mathlib.Core.Path.{ap, ◌∙◌}
use lib.Ieee.{nan}
use borrow.Author.Rules.{rules}
use Rattle.loops.specs.Front.{tab, tab-none, tab-more, tab-all}
use Rattle.mdct_pairs.specs.Inputs.{inputs_of}
use Rattle.mdct_pairs.proofs.inputs.fill_inputs.Goals as goal

pub loop-i-init : goal.loop-i-init
loop-i-init c = tab-none _ _

pub loop-i-preserved : goal.loop-i-preserved
loop-i-preserved c = tab-more _ nan _ _ _ c.loop-i.invariant _ c.input_at.ensures (search rules)

pub returns : goal.returns
unfolding inputs_of
returns c = tab-all _ nan _ _ _ c.loop-i.invariant (search rules) ∙ ap (tab _) c.requires.1
