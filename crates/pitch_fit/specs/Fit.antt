-- The predictor of one channel that a first pitch loss fits.
use Rattle.std.specs.Prelude.{◌≡◌, ℕ, Bool, ◌&&◌, List, length, eqb, Float}
use Rattle.history.specs.History.{half}
use Rattle.celt_window.specs.Window.{window}
use Rattle.plc.specs.Autocorr.{celt_autocorr}
use Rattle.plc_window.specs.Window.{windowed_ends}
use Rattle.plc_lpc.specs.Lpc.{celt_lpc, length-celt_lpc}
use Rattle.plc_lag_window.specs.LagWindow.{lag_window}
pub use Rattle.plc_pad.specs.Pad.{order}

-- a channel's coefficients, from its newest 1,024 samples
unfoldable pub pitch_fit : List Float → List Float
pitch_fit newest = celt_lpc (lag_window (celt_autocorr (windowed_ends newest window) 25)) order

pub length-pitch_fit : (newest : List Float) → length (pitch_fit newest) ≡ order
unfolding pitch_fit
length-pitch_fit newest = length-celt_lpc _ order

-- how many samples, how many coefficients
unfoldable pub fit_takes : ℕ → ℕ → Bool
fit_takes n m = eqb n half && eqb m order
