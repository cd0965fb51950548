use Rattle.std.proofs.Common.{rules}
use Rattle.cases.proofs.Takes.{mirrored_takes}
use Rattle.cases.proofs.transform.answer_mirrored.Goals as goal

pub unwrap-products-requires : goal.unwrap-products-requires
unwrap-products-requires g c = mirrored_takes _ _ _ _ g.row.BINS g.row.SAMPLES c.imdct_mirrored_f32.ensures (search rules) (search rules) c.requires.1 c.requires.2
