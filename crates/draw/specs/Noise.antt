-- A band of noise: value i is that of the seed i + 1 draws on.
use Rattle.std.specs.Prelude.{◌≡◌, ℕ, ◌+◌, List, length, Float}
use Rattle.loops.specs.Front.{tab, length-tab}
use Rattle.float_bits.specs.Words.{noise_value}
use Rattle.draw.specs.Draw.{draws}

abbrev pub noise_at : ℕ → ℕ → Float
noise_at seed i = noise_value (draws (i + 1) seed)

unfoldable pub noise_band : ℕ → ℕ → List Float
noise_band n seed = tab (noise_at seed) n

pub length-noise_band : (n seed : ℕ) → length (noise_band n seed) ≡ n
unfolding noise_band
length-noise_band n seed = length-tab (noise_at seed) n
