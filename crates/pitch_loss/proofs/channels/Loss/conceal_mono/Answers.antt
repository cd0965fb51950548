use Rattle.std.proofs.Common.{refl, ◌∙◌, rules}
use Rattle.reply.specs.Reply.{reply-taken}
use Rattle.history.specs.History.{half}
use Rattle.pitch_loss.proofs.Tails.{one-takes, one_follows, part-back, mono-is}
use Rattle.pitch_loss.proofs.channels.Loss.conceal_mono.Goals as goal

pub unwrap-requires-2 : goal.unwrap-requires-2
unwrap-requires-2 c =
    let a = c.args in
    let s = c.args.self in
    reply-taken _ _ _ c.extrapolate.ensures
    ∙ one-takes s.n s.pitch.lag s.pitch.first a.history.now s.pitch.predictor s.frame c.told-history s.lag_low s.lag_high _ refl

pub returns : goal.returns
returns c =
    let a = c.args in
    let s = c.args.self in
    mono-is s.n s.pitch.lag s.pitch.first s.pitch.filter a.history.now s.pitch.predictor c.told-history s.frame _ _
    (one_follows s.n s.pitch.lag s.pitch.first a.history.now s.pitch.predictor s.frame c.told-history s.lag_low s.lag_high _ c.extrapolate.new.e
    _ _ refl (search rules) c.extrapolate.ensures)
    (part-back half 1144 s.n s.pitch.filter a.history.now _ _ refl c.take_front.ensures)
