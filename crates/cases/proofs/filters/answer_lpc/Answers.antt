use Rattle.std.proofs.Common.{rules}
use Rattle.cases.proofs.Takes.{lpc_takes}
use Rattle.cases.proofs.filters.answer_lpc.Goals as goal

pub unwrap-requires : goal.unwrap-requires
unwrap-requires g c = lpc_takes _ _ _ _ _ _ c.celt_lpc.ensures (search rules)
