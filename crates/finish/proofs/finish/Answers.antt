-- `finish::finish` meets its contract: refused by the first number that applies, else concluded.
use Rattle.std.proofs.Common.{sym}
use Rattle.settings.proofs.Table.{exit_is}
use Rattle.finish.proofs.End.{concluded, finished-refused}
use Rattle.finish.proofs.finish.Goals as goal

pub returns-in_err-first_refusal : goal.returns-in_err-first_refusal
returns-in_err-first_refusal c =
    let x = c.args in
    finished-refused x.s x.made x.history.now x.pcm.now _ _ (exit_is _ _ c.from_residual.ensures.1) c.in_err-first_refusal.ensures

pub returns : goal.returns
returns c =
    let x = c.args in
    concluded x.s x.made x.history.now x.pcm.now _ c.conclude.ensures (sym c.in_ok-first_refusal.ensures)
