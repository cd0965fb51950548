use Rattle.std.proofs.Common.{◌∙◌}
use Rattle.reply.specs.Reply.{reply-taken}
use Rattle.pitch_loss.proofs.Tails.{part-takes, taken_in}
use Rattle.pitch_loss.proofs.channels.Loss.take_front.Goals as goal

pub unwrap-requires : goal.unwrap-requires
unwrap-requires c =
    let a = c.args in
    let s = c.args.self in
    reply-taken _ _ _ c.take_in.ensures ∙ part-takes s.n s.pitch.filter a.t.now a.e.now c.requires s.frame c.told-e s.filter

pub returns : goal.returns
returns c =
    let a = c.args in
    let s = c.args.self in
    taken_in s.n s.pitch.filter a.t.now a.e.now c.requires s.frame c.told-e s.filter c.take_in.new.t _ c.take_in.ensures
