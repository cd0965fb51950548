use Rattle.std.proofs.Common.{arith, rules}
use Rattle.std.proofs.lemmas.Bool.Decides.{nat_tests}
use Rattle.reply.specs.Reply.{reply-yes}
use Rattle.plc_fir.proofs.Firs.{fir_none}
use Rattle.plc_fir.proofs.celt_fir_from.Goals as goal

pub returns-else-from-buf : goal.returns-else-from-buf
returns-else-from-buf c = let a = c.args in reply-yes _ _ _ (grind (arith, nat_tests)) (fir_none a.num.now a.mem.now a.buf.now a.from (search rules))
