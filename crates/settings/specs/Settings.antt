-- The settings of a stream: which are refused, and what follows from them.
use Rattle.std.specs.Prelude.{Bool, cond, ◌||◌, ◌&&◌, ℕ, ◌*◌, ◌-◌, ◌/◌, ◌^◌, leb, ltb, eqb}
use Rattle.custom_mode.specs.Mode.{short_block, bands, last_edge, edge}
use Rattle.settings.specs.Number.{or_else, within}
use Rattle.settings.specs.declared.Settings.{Settings}

-- the block factor m
unfoldable pub factor : Settings → ℕ
factor k = 2 ^ k.lm

-- the frame N
unfoldable pub frame : Settings → ℕ
frame k = short_block * factor k

unfoldable pub stereo : Settings → Bool
stereo k = eqb k.channels 2

-- the start band's first bin
unfoldable pub first_bin : Settings → ℕ
first_bin k = edge k.start

-- the draws of one noise loss
unfoldable pub draws_per_loss : Settings → ℕ
draws_per_loss k = k.channels * factor k * (last_edge - first_bin k)

-- ---- document 01's numbers: 0 passes

abbrev pub check_lm : ℕ → ℕ
check_lm lm = cond (leb lm 3) 0 1

abbrev pub check_channels : ℕ → ℕ
check_channels channels = cond (within 1 2 channels) 0 2

abbrev pub check_start : ℕ → ℕ
check_start start = cond (ltb start bands) 0 3

abbrev pub check_end : ℕ → ℕ → ℕ
check_end start end = cond (ltb start end && leb end bands) 0 4

abbrev pub check_downsample : ℕ → ℕ
check_downsample d = cond (eqb d 6 || within 1 4 d) 0 5

unfoldable pub check_settings : Settings → ℕ
check_settings k =
    or_else (check_lm k.lm)
    (or_else (check_channels k.channels)
    (or_else (check_start k.start)
    (or_else (check_end k.start k.end)
    (check_downsample k.downsample))))

-- ---- for settings of any kind

-- the block factor, an lm above 3 counted as 3
unfoldable pub block_factor : ℕ → ℕ
block_factor lm = 2 ^ cond (leb lm 3) lm 3

-- the samples that an accepted call writes; 0 where the settings are refused
unfoldable pub needed : Settings → ℕ
needed k = cond (eqb (check_settings k) 0) (k.channels * (frame k / k.downsample)) 0
