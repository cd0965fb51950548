-- Samples whitened by their own predictor of order 4, damped, as `pitch_downsample` has it.
use Rattle.std.specs.Prelude.{ℕ, ◌+◌, ◌≡◌, List, [], ◌∷◌, length, get_or, replicate, Float}
use Rattle.std.proofs.Common.{◌∙◌}
use Rattle.std.specs.Float.{nan, binary32}
use Rattle.std.specs.Float.Ieee.{mul, of_bits}
use Rattle.loops.specs.Fold.{fold_to}
use Rattle.loops.specs.Front.{tab, length-tab}
use Rattle.buffers.specs.Buffers.{zero32, one32}
use Rattle.plc.specs.Autocorr.{celt_autocorr}
use Rattle.plc_lag_window.specs.LagWindow.{lag_window}
use Rattle.plc_lpc.specs.Lpc.{celt_lpc, length-celt_lpc}
use Rattle.plc_fir.specs.Fir.{celt_fir, length-celt_fir}

-- 0.9 and 0.8
abbrev pub damping : Float
damping = of_bits binary32 0x3f66_6666

abbrev pub tilt : Float
tilt = of_bits binary32 0x3f4c_cccd

-- 0.9 multiplied up k times
unfoldable pub damping_to : ℕ → Float
damping_to k = fold_to (λ (t : Float) (j : ℕ). mul binary32 t damping) one32 k

unfoldable pub damped : List Float → List Float
damped lpc = tab (λ (k : ℕ). mul binary32 (get_or lpc k nan) (damping_to (k + 1))) (length lpc)

-- the predictor of the smoothed samples, damped
unfoldable pub whitener : List Float → List Float
whitener lp = damped (celt_lpc (lag_window (celt_autocorr lp 5)) 4)

pub length-whitener : (lp : List Float) → length (whitener lp) ≡ 4
unfolding whitener damped
length-whitener lp = length-tab _ _ ∙ length-celt_lpc (lag_window (celt_autocorr lp 5)) 4

unfoldable pub whiten_lp : List Float → List Float
whiten_lp lp = celt_fir (tilt ∷ []) (zero32 ∷ []) (celt_fir (whitener lp) (replicate 4 zero32) lp)

pub length-whiten_lp : (lp : List Float) → length (whiten_lp lp) ≡ length lp
unfolding whiten_lp
length-whiten_lp lp =
    length-celt_fir (tilt ∷ []) (zero32 ∷ []) (celt_fir (whitener lp) (replicate 4 zero32) lp) ∙ length-celt_fir (whitener lp) (replicate 4 zero32) lp
