-- A whole record was filled and answered.
use Rattle.std.proofs.Common.{arith}
use Rattle.conceal.proofs.Turns.{whole-turn}
use Rattle.conceal.proofs.conceal_one.Goals as goal

pub returns : goal.returns
returns g c = whole-turn c.in_ok-got.got c.filled.new.rec _ _ _ _ (omega arith) (omega arith) c.in_ok-got.ensures.bytes c.in_ok-answer_whole.ensures
