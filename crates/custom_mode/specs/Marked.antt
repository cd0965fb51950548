-- The rates' factors.
use Rattle.std.specs.Prelude.{◌≡◌, refl}
use Rattle.custom_mode.specs.Rate.{factor_number, resampling_factor}

pub factors :
    (factor_number (resampling_factor 48_000) ≡ 1) × (factor_number (resampling_factor 24_000) ≡ 2) × (factor_number (resampling_factor 16_000) ≡ 3)
    × (factor_number (resampling_factor 12_000) ≡ 4) × (factor_number (resampling_factor 8_000) ≡ 6) × (factor_number (resampling_factor 44_100) ≡ 0)
unfolding resampling_factor
factors = (refl, refl, refl, refl, refl, refl)
