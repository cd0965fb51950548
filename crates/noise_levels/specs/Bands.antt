-- How loud each band of a block's noise is, before its gain.
use Rattle.std.specs.Prelude.{◌⊎◌, List, ℕ, ◌-◌, ◌≤◌, ◌<◌, take, drop, Float}
use Rattle.draw.specs.Draw.{draws}
use Rattle.draw.specs.Noise.{noise_band}
use Rattle.band_quant.specs.Zeros.{AllZero}
use Rattle.custom_mode.specs.Mode.{bands}
use Rattle.noise_shape.specs.Shape.{lo, width}
use Rattle.loudness.specs.Energy.{UnitEnergy, NoEnergy}
use Rattle.loudness.specs.Loudness.{asked, Heard}

-- band i of a block's bins, at block factor m
abbrev pub band_of : ℕ → ℕ → List Float → List Float
band_of m i bins = take (width m i) (drop (lo m i) bins)

-- what is drawn for band i, the bands from start on being drawn before it
abbrev pub drawn_for : ℕ → ℕ → ℕ → ℕ → List Float
drawn_for m start seed i = noise_band (width m i) (draws (lo m i - lo m start) seed)

pub record BandLevel (m start seed i : ℕ) (bins : List Float) : Type 0 where
  pub heard : Heard (drawn_for m start seed i) → UnitEnergy asked (band_of m i bins)
  pub silent : AllZero (drawn_for m start seed i) → NoEnergy (band_of m i bins)
  pub either : Heard (drawn_for m start seed i) ⊎ AllZero (drawn_for m start seed i)

-- every band from start to 20
abbrev pub EveryBand : ℕ → ℕ → ℕ → List Float → Type 0
EveryBand m start seed bins = (i : ℕ) → start ≤ i → i < bands → BandLevel m start seed i bins
