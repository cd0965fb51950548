-- What both predictors do to their correlations first: a noise floor 40 dB below lag 0, and a window over the other lags.
use Rattle.std.specs.Prelude.{ℕ, ◌≡◌, cond, List, eqb, pos, length, get_or, Float}
use Rattle.std.specs.Float.{nan, binary32}
use Rattle.std.specs.Float.Ieee.{sub, mul, of_int, of_bits}
use Rattle.loops.specs.Front.{tab, length-tab}

-- 1.0001 and 0.008
abbrev pub floor_factor : Float
floor_factor = of_bits binary32 0x3f80_0347

abbrev pub lag_step : Float
lag_step = of_bits binary32 0x3c03_126f

-- 0.008 × i
unfoldable pub lag_factor : ℕ → Float
lag_factor i = mul binary32 lag_step (of_int binary32 (pos i))

-- a less a × (0.008 × i) × (0.008 × i)
unfoldable pub lag_windowed : Float → ℕ → Float
lag_windowed a i = sub binary32 a (mul binary32 (mul binary32 a (lag_factor i)) (lag_factor i))

-- the correlation a of lag i
unfoldable pub lag_value : Float → ℕ → Float
lag_value a i = cond (eqb i 0) (mul binary32 a floor_factor) (lag_windowed a i)

unfoldable pub lag_window : List Float → List Float
lag_window ac = tab (λ (i : ℕ). lag_value (get_or ac i nan) i) (length ac)

pub length-lag_window : (ac : List Float) → length (lag_window ac) ≡ length ac
unfolding lag_window
length-lag_window ac = length-tab _ (length ac)
