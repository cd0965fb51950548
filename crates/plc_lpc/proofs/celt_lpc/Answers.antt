use Rattle.std.proofs.Common.{refl}
use borrow.Author.Tests.{eq-eqb, ne_eqb}
use Rattle.reply.specs.Reply.{reply-yes, reply-no}
use Rattle.plc_lpc.proofs.celt_lpc.Goals as goal

pub returns-then-ac-lpc : goal.returns-then-ac-lpc
returns-then-ac-lpc c = reply-no _ _ _ (ne_eqb _ _ c.if-ac-lpc.true) refl

pub returns : goal.returns
returns c = reply-yes _ _ _ (eq-eqb _ _ c.if-ac-lpc.false) c.solve.ensures
