use Rattle.std.proofs.Common.{rules}
use Rattle.cases.proofs.Takes.{poles_take}
use Rattle.cases.proofs.filters.answer_iir.Goals as goal

pub unwrap-requires : goal.unwrap-requires
unwrap-requires c = poles_take _ _ _ _ _ c.celt_iir_inplace.ensures (search rules)
