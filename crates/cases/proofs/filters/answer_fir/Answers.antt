use Rattle.std.proofs.Common.{rules, length}
use Rattle.cases.proofs.Takes.{filter_takes}
use Rattle.cases.proofs.filters.answer_fir.Goals as goal

pub unwrap-requires : goal.unwrap-requires
unwrap-requires g c =
    filter_takes _ _ _ _ (length c.in_ok-num.num) (length c.in_ok-mem.mem) (length c.in_ok-x.x) c.celt_fir_inplace.ensures (search rules) (search rules) (search rules)
