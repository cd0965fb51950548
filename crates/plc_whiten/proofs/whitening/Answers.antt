use Rattle.std.proofs.Common.{◌∙◌, rules}
use borrow.Author.Tests.{le-leb}
use Rattle.reply.specs.Reply.{reply-taken}
use Rattle.plc_whiten.proofs.Steps.{solved, whitening_done}
use Rattle.plc_whiten.proofs.whitening.Goals as goal

pub unwrap-requires : goal.unwrap-requires
unwrap-requires c = reply-taken _ _ _ c.lag_window.ensures ∙ le-leb _ 65536 (search rules)

pub unwrap-requires-2 : goal.unwrap-requires-2
unwrap-requires-2 c = solved _ _ _ _ _ _ _ c.celt_autocorr-ac.ensures c.lag_window.ensures c.celt_lpc.ensures

pub returns : goal.returns
returns c =
    whitening_done _ _ _ _ _ _ _ c.celt_autocorr-ac.ensures c.lag_window.ensures c.celt_lpc.ensures _ c.damp.ensures
