use Rattle.std.proofs.Common.{rules}
use Rattle.cases.proofs.Takes.{sum_takes}
use Rattle.cases.proofs.transform.answer_sum.Goals as goal

pub unwrap-requires : goal.unwrap-requires
unwrap-requires g c = sum_takes _ _ _ _ g.row.BINS g.row.SAMPLES c.imdct_naive_f32.ensures (search rules) (search rules) c.requires.1 c.requires.2
