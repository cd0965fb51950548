-- 32-bit words: as noise values, and multiplied.
use Rattle.std.specs.Prelude.{ℕ, ◌-◌, ◌*◌, ◌%◌, ◌^◌, cond, ℤ, pos, neg_ℤ, nat_lt, Float}
use Rattle.std.specs.Int.Signed.{shr_z}
use Rattle.std.specs.Float.{binary32}
use Rattle.std.specs.Float.Ieee.{of_int}

-- a 32-bit word read as a signed number
unfoldable pub signed : ℕ → ℤ
signed w = cond (nat_lt w (2 ^ 31)) (pos w) (neg_ℤ (pos (2 ^ 32 - w)))

-- the signed word shifted right by 20, copying its sign: from -2,048 to 2,047
unfoldable pub noise_step : ℕ → ℤ
noise_step w = shr_z (signed w) (2 ^ 20)

-- the same as an f32
unfoldable pub noise_value : ℕ → Float
noise_value w = of_int binary32 (noise_step w)

-- the low 32 bits of a product
unfoldable pub wrapping_mul : ℕ → ℕ → ℕ
wrapping_mul a b = (a * b) % 2 ^ 32
