-- 2:1 downsampling ahead of the lag search, as `pitch_downsample` has it: smoothed, and whitened by a predictor of order 4.
use Rattle.std.specs.Prelude.{ℕ, ◌+◌, ◌*◌, ◌-◌, ◌≡◌, Bool, cond, ◌&&◌, List, eqb, get_or, Float}
use Rattle.std.proofs.Common.{ap, ◌∙◌}
use Rattle.std.specs.Float.{nan, binary32}
use Rattle.std.specs.Float.Ieee.{add, mul, of_bits}
use Rattle.loops.specs.Front.{tab}
use Rattle.loops.specs.Nan.{add-nan}
use Rattle.plc_whiten.specs.Whiten.{whiten_lp}

-- 0.5
abbrev pub half32 : Float
half32 = of_bits binary32 0x3f00_0000

-- sample 2i and half of each neighbour, halved; sample 0 has one neighbour
unfoldable pub smoothed_at : List Float → ℕ → Float
smoothed_at x i =
    cond (eqb i 0) (mul binary32 half32 (add binary32 (mul binary32 half32 (get_or x 1 nan)) (get_or x 0 nan)))
    (mul binary32 half32
    (add binary32 (mul binary32 half32 (add binary32 (get_or x (2 * i - 1) nan) (get_or x (2 * i + 1) nan))) (get_or x (2 * i) nan)))

-- one channel, and two summed
unfoldable pub smoothed : List Float → List Float
smoothed x = tab (smoothed_at x) 1024

unfoldable pub summed_at : List Float → List Float → ℕ → Float
summed_at x0 x1 i = add binary32 (smoothed_at x0 i) (smoothed_at x1 i)

unfoldable pub smoothed_pair : List Float → List Float → List Float
smoothed_pair x0 x1 = tab (summed_at x0 x1) 1024

-- a NaN of either channel stays one
pub nan-first : (x0 x1 : List Float) (i : ℕ) → smoothed_at x0 i ≡ nan → summed_at x0 x1 i ≡ nan
unfolding summed_at add
nan-first x0 x1 i e = ap (λ z. add binary32 z (smoothed_at x1 i)) e

pub nan-second : (x0 x1 : List Float) (i : ℕ) → smoothed_at x1 i ≡ nan → summed_at x0 x1 i ≡ nan
unfolding summed_at
nan-second x0 x1 i e = ap (add binary32 (smoothed_at x0 i)) e ∙ add-nan (smoothed_at x0 i)

-- the lengths that are taken: of each channel's history, and of the samples at half rate
abbrev pub downsample_takes : ℕ → ℕ → Bool
downsample_takes x lp = eqb x 2048 && eqb lp 1024

abbrev pub downsample_pair_takes : ℕ → ℕ → ℕ → Bool
downsample_pair_takes x0 x1 lp = eqb x0 2048 && eqb x1 2048 && eqb lp 1024

-- one channel's 2,048 samples, and two channels' summed, as 1,024 samples
unfoldable pub pitch_downsample : List Float → List Float
pitch_downsample x = whiten_lp (smoothed x)

unfoldable pub pitch_downsample_pair : List Float → List Float → List Float
pitch_downsample_pair x0 x1 = whiten_lp (smoothed_pair x0 x1)
