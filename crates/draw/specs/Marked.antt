-- The marked draws from seed 0, and both ends of the noise value.
use Rattle.std.specs.Prelude.{◌≡◌, [], ◌∷◌, ℤ, pos, negsuc, refl, Float}
use Rattle.std.specs.Float.Ieee.{of_int}
use Rattle.std.specs.Float.{binary32}
use Rattle.loops.specs.Front.{tab}
use Rattle.float_bits.specs.Words.{signed, noise_step, noise_value}
use Rattle.draw.specs.Draw.{draw, draws}
use Rattle.draw.specs.Noise.{noise_band}

-- n as an f32
abbrev pub f32_of : ℤ → Float
f32_of n = of_int binary32 n

pub drawn : (draws 1 0 ≡ 0x3c6e_f35f) × (draws 2 0 ≡ 0x4750_2932) × (draws 3 0 ≡ 0xd1cc_f6e9) × (draws 4 0 ≡ 0xaaf9_5334)
unfolding draws draw
drawn = (refl, refl, refl, refl)

pub heard : noise_band 4 0 ≡ f32_of (pos 966) ∷ f32_of (pos 1141) ∷ f32_of (negsuc 739) ∷ f32_of (negsuc 1360) ∷ []
unfolding noise_band tab noise_value noise_step signed draws draw
heard = refl

-- the ends -2,048 and 2,047 are reached
pub ends : (noise_value 0x8000_0000 ≡ f32_of (negsuc 2047)) × (noise_value 0x7fff_ffff ≡ f32_of (pos 2047))
unfolding noise_value noise_step signed
ends = (refl, refl)
