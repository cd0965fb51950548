-- The factors of the taps.
use Rattle.std.specs.Prelude.{List, [], ◌∷◌, ℕ, zero, suc, Float}
use Rattle.std.specs.Float.{binary32}
use Rattle.std.specs.Float.Ieee.{of_bits}

abbrev f32 : ℕ → Float
f32 b = of_bits binary32 b

-- three tap factors by tapset; past the last those of the last
unfoldable pub comb_gains : ℕ → List Float
comb_gains zero = f32 0x3e9d_0000 ∷ f32 0x3e5e_4000 ∷ f32 0x3e04_c000 ∷ []
comb_gains (suc zero) = f32 0x3eed_8000 ∷ f32 0x3e89_4000 ∷ f32 0 ∷ []
comb_gains (suc (suc n)) = f32 0x3f4c_c000 ∷ f32 0x3dcd_0001 ∷ f32 0 ∷ []
