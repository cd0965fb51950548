-- Turn by turn.
use Rattle.std.proofs.Common.{◌-◌, ◌^◌}
use Rattle.conceal.proofs.Turns.{no-turn, after-turn, after-last, after-all}
use Rattle.conceal.proofs.conceal_all.Goals as goal

pub loop-whole-init : goal.loop-whole-init
loop-whole-init g c = no-turn _ _ _

pub loop-whole-preserved : goal.loop-whole-preserved
loop-whole-preserved g c =
    after-turn (2 ^ 64 - 1) c.loop-whole.whole _ _ _ _ _ _ _ c.loop-whole.invariant c.in_ok-conceal_one.ensures c.loop-whole-test.true c.if-not-branch.false

pub returns-then-not-branch : goal.returns-then-not-branch
returns-then-not-branch g c =
    after-last (2 ^ 64 - 1) c.loop-whole.whole _ _ _ _ _ _ _ c.loop-whole.invariant c.in_ok-conceal_one.ensures c.loop-whole-test.true c.if-not-branch.true

pub returns-after-loop-whole : goal.returns-after-loop-whole
returns-after-loop-whole g c = after-all (2 ^ 64 - 1) c.loop-whole.whole _ _ _ _ c.loop-whole-test.false c.loop-whole.invariant
