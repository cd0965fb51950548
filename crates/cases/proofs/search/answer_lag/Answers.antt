use Rattle.std.proofs.Common.{rules}
use Rattle.cases.proofs.Takes.{value_of}
use Rattle.cases.proofs.search.answer_lag.Goals as goal

pub unwrap-requires : goal.unwrap-requires
unwrap-requires c = value_of _ _ _ _ c.find_lag.ensures (search rules)
