use Rattle.std.proofs.Common.{rules}
use Rattle.cases.proofs.Takes.{value_of}
use Rattle.cases.proofs.pitch.answer_loss.Goals as goal

pub unwrap-pitch-requires : goal.unwrap-pitch-requires
unwrap-pitch-requires c = value_of _ _ _ _ c.fit_predictor.ensures (search rules)
