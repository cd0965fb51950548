use Rattle.float_narrow.proofs.Nearer.{under-is, lower-nearer, upper-nearer, even-near, odd-near}
use Rattle.float_narrow.proofs.nearest.Goals as goal

pub returns-then-under-over : goal.returns-then-under-over
returns-then-under-over c = lower-nearer _ _ _ (under-is c.args.q c.args.u) c.if-under-over.true

pub returns-then-over-under : goal.returns-then-over-under
returns-then-over-under c = upper-nearer _ _ _ (under-is c.args.q c.args.u) c.if-over-under.true

pub returns-then-lower-eq0 : goal.returns-then-lower-eq0
returns-then-lower-eq0 c =
    even-near _ _ _ (under-is c.args.q c.args.u) c.if-under-over.false c.if-over-under.false c.if-lower-eq0.true

pub returns-else-lower-eq0 : goal.returns-else-lower-eq0
returns-else-lower-eq0 c =
    odd-near _ _ _ (under-is c.args.q c.args.u) c.if-under-over.false c.if-over-under.false c.if-lower-eq0.false
