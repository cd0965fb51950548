use Rattle.band_gain.specs.Gain.{series}
use Rattle.band_gain.proofs.Gains.{gain_is}
use Rattle.band_gain.proofs.gain_at.Goals as goal

pub returns : goal.returns
unfolding series
returns c =
    let a = c.args in
    gain_is a.x a.q _ _ _ _ _ c.f32_to_f64.ensures c.whole.ensures
    c.power_at.ensures c.two_to.ensures c.f64_to_f32.ensures
