-- `inputs::input_at` meets its contract: the sign by i modulo 4.
use mathlib.Core.Path.{ap}
use lib.Ieee.{neg}
use borrow.Author.Tests.{eq-eqb, ne_eqb}
use Rattle.mdct_pairs.specs.Inputs.{input_at}
use Rattle.mdct_pairs.proofs.inputs.input_at.Goals as goal

pub returns-then-i-eq3 : goal.returns-then-i-eq3
unfolding input_at
returns-then-i-eq3 c = simp (eq-eqb _ 3 c.if-i-eq3.true) (ap neg c.f32_to_f64-v.ensures)

pub returns-else-i-eq3 : goal.returns-else-i-eq3
unfolding input_at
returns-else-i-eq3 c = simp (ne_eqb _ 3 c.if-i-eq3.false) c.f32_to_f64-v.ensures
