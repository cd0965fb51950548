use Rattle.std.proofs.Common.{◌+◌, refl}
use Rattle.history.specs.History.{half, channel}
use Rattle.pitch_loss.proofs.Tails.{part-back, stereo-is}
use Rattle.pitch_loss.proofs.channels.Loss.conceal_stereo.Goals as goal

pub returns : goal.returns
returns c =
    let a = c.args in
    let s = c.args.self in
    let x = c.continue_both in
    stereo-is s.n s.pitch.lag s.pitch.first s.pitch.filter a.history.now s.pitch.predictor c.told-history s.frame x.new.e0 x.new.e1 _ _
    x.ensures.0
    x.ensures.1
    (part-back half 1144 s.n s.pitch.filter a.history.now _ _ refl c.take_front.ensures)
    (part-back (channel + half) 1144 s.n s.pitch.filter _ _ _ refl c.take_front-2.ensures)
