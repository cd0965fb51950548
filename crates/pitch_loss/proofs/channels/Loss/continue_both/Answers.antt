use Rattle.std.proofs.Common.{◌∙◌, rules}
use Rattle.reply.specs.Reply.{reply-taken}
use Rattle.pitch_loss.proofs.Tails.{both-take, both_follow}
use Rattle.pitch_loss.proofs.channels.Loss.continue_both.Goals as goal

pub unwrap-requires-3 : goal.unwrap-requires-3
unwrap-requires-3 c =
    let a = c.args in
    let s = c.args.self in
    reply-taken _ _ _ c.extrapolate_pair.ensures
    ∙ both-take s.n s.pitch.lag s.pitch.first a.h.now s.pitch.predictor s.frame c.told-h s.lag_low s.lag_high a.e0.now a.e1.now c.told-e0 c.told-e1

pub returns : goal.returns
returns c =
    let a = c.args in
    let s = c.args.self in
    let x = c.extrapolate_pair in
    both_follow s.n s.pitch.lag s.pitch.first a.h.now s.pitch.predictor s.frame c.told-h s.lag_low s.lag_high a.e0.now a.e1.now x.new.e0 x.new.e1
    _ _ _ c.told-e0 c.told-e1
    (search rules)
    (search rules)
    x.ensures
