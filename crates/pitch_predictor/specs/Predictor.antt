-- The predictors that a first pitch loss fits.
use Rattle.std.specs.Prelude.{Bool, cond, List, ◌++◌, drop, Float}
use Rattle.history.specs.History.{Tails}
use Rattle.pitch_fit.specs.Fit.{order, pitch_fit}

-- the used channels' coefficients fitted anew, of two or one; an unused channel's are carried
unfoldable pub fitted_to : Bool → List Float → Tails → List Float
fitted_to two predictor t = pitch_fit t.first.new ++ cond two (pitch_fit t.second.new) (drop order predictor)
