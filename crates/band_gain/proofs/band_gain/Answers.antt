use Rattle.band_gain.proofs.Gains.{gain_none, gain_some, within, fits-min}
use Rattle.band_gain.proofs.band_gain.Goals as goal

pub returns-then-x : goal.returns-then-x
returns-then-x c = gain_none _ _ c.min_f32-x.ensures c.if-x.true

pub steps_of-requires : goal.steps_of-requires
steps_of-requires c = record { gain_range = within _ _ c.min_f32-x.ensures c.if-x.false; t = fits-min _ _ _ c.min_f32-x.ensures }

pub returns : goal.returns
returns c =
    gain_some _ _ _ _ c.min_f32-x.ensures c.if-x.false c.steps_of.ensures.0 c.gain_at.ensures
