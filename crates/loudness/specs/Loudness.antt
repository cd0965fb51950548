-- How loud a drawn band is once it is brought to unit energy, before its gain.
use Rattle.std.specs.Prelude.{◌⊎◌, List, ℕ, ◌^◌, ◌<◌, length, get_or, Float}
use Rattle.std.specs.Float.{nan}
use Rattle.draw.specs.Noise.{noise_band}
use Rattle.band_quant.specs.Zeros.{Zero, AllZero}
use Rattle.noise_shape.specs.Shape.{band_noise}
use Rattle.loudness.specs.Energy.{UnitEnergy, NoEnergy}

-- the bins of the widest band at the largest block factor
abbrev pub widest : ℕ
widest = 176

-- the sum of the squares is asked to lie within one part in so many of 1
abbrev pub asked : ℕ
asked = 2 ^ 16

-- and it lies within one in so many: the four roundings on its way move it by 7 times 2 ^ -24 at the most,
-- but for what the start of 1e-15 adds
abbrev pub reached : ℕ
reached = 2 ^ 21

-- a value other than zero
abbrev pub Heard : List Float → Type 0
Heard xs = (i : ℕ) × (i < length xs) × ¬ Zero (get_or xs i nan)

-- n values drawn from a seed, and what `noise_shape` puts into the band for them
pub record Loudness (n seed : ℕ) : Type 0 where
  pub heard : Heard (noise_band n seed) → UnitEnergy asked (band_noise n seed)
  pub closer : Heard (noise_band n seed) → UnitEnergy reached (band_noise n seed)
  pub silent : AllZero (noise_band n seed) → NoEnergy (band_noise n seed)
  -- there is no third case
  pub either : Heard (noise_band n seed) ⊎ AllZero (noise_band n seed)
