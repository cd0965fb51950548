-- Which calls of noise_block are taken.
use Rattle.std.specs.Prelude.{Bool, ◌&&◌, ℕ, ◌+◌, ◌*◌, ◌^◌, leb, ltb, eqb}
use Rattle.custom_mode.specs.Mode.{short_block, overlap, bands, max_bands}

-- lm 0 to 3, end above start and at most 21, and a factor of downsampling
unfoldable pub settings_fit : ℕ → ℕ → ℕ → ℕ → Bool
settings_fit lm start end downsample = leb lm 3 && (ltb start end && (leb end bands && leb 1 downsample))

-- with so many energies and so many samples lent
unfoldable pub block_takes : ℕ → ℕ → ℕ → ℕ → ℕ → ℕ → Bool
block_takes lm start end downsample energies size =
    settings_fit lm start end downsample && (eqb energies max_bands && eqb size (short_block * 2 ^ lm + overlap))
