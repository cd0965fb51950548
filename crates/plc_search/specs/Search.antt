-- The lag search over 1,024 samples at half rate, as `pitch_search` has it for 1,328 samples and lags below 620.
use Rattle.std.specs.Prelude.{ℕ, ◌+◌, ◌*◌, ◌-◌, Bool, cond, ◌&&◌, ◌||◌, List, leb, ltb, get_or, drop, Float}
use Rattle.std.specs.Float.{nan, binary32}
use Rattle.std.specs.Float.Ieee.{sub, mul, lt, of_bits}
use Rattle.loops.specs.Front.{tab}
use Rattle.buffers.specs.Buffers.{zero32}
use Rattle.plc_best.specs.declared.Best.{Best}
use Rattle.plc_best.specs.Best.{find_best_pitch}
use Rattle.plc_correlate.specs.Correlation.{correlation}

-- the first n of every second sample
unfoldable pub every_second : List Float → ℕ → List Float
every_second x n = tab (λ (j : ℕ). get_or x (2 * j) nan) n

-- i is at most 2 away from twice b
unfoldable pub near : ℕ → ℕ → Bool
near b i = leb (2 * b) (i + 2) && leb i (2 * b + 2)

-- the finer correlation around the two best, and +0 elsewhere
unfoldable pub fine_at : List Float → ℕ → ℕ → ℕ → Float
fine_at y b0 b1 i = cond (near b0 i || near b1 i) (correlation (drop 360 y) y 664 i) zero32

unfoldable pub coarse : List Float → List Float
coarse y = tab (correlation (every_second (drop 360 y) 332) (every_second y 487) 332) 155

unfoldable pub fine : List Float → Best → List Float
fine y b = tab (fine_at y b.first.at b.second.at) 310

-- 0.7
abbrev pub seven_tenths : Float
seven_tenths = of_bits binary32 0x3f33_3333

-- twice p, less 1 where the correlation c after it comes close to its own b, plus 1 where the one before it, a, does
unfoldable pub interpolated : ℕ → Float → Float → Float → ℕ
interpolated p a b c =
    cond (lt (mul binary32 seven_tenths (sub binary32 b a)) (sub binary32 c a)) (2 * p - 1)
    (cond (lt (mul binary32 seven_tenths (sub binary32 b c)) (sub binary32 a c)) (2 * p + 1) (2 * p))

-- the ends have only one neighbour and stay
unfoldable pub refined : List Float → ℕ → ℕ
refined xcorr p =
    cond (ltb 0 p && ltb p 309) (interpolated p (get_or xcorr (p - 1) nan) (get_or xcorr p nan) (get_or xcorr (p + 1) nan)) (2 * p)

unfoldable pub coarse_best : List Float → Best
coarse_best y = find_best_pitch (coarse y) (every_second y 487) 332 155

unfoldable pub fine_best : List Float → Best
fine_best y = find_best_pitch (fine y (coarse_best y)) y 664 310

-- the offset that is found: the lag is 720 less it
unfoldable pub pitch_search : List Float → ℕ
pitch_search y = refined (fine y (coarse_best y)) (fine_best y).first.at
