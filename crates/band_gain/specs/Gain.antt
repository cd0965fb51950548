-- The gain of a band, which stands for 2 ^ x: x is the f32 sum of a band's energy and its mean, at most 32.
use Rattle.std.specs.Prelude.{ℕ, ◌+◌, ◌-◌, ◌*◌, ◌/◌, ◌%◌, ◌<◌, ◌≤◌, Bool, true, false, cond, ◌==◌, from_bits, Float}
use Rattle.std.specs.Float.{nan, inf, fin, binary32, binary64}
use Rattle.std.specs.Float.Ieee.{up, down, minus, of_int, neg, add, sub, mul, div, le}
use Rattle.float_extremes.specs.Extremes.{min_of}
use Rattle.float_narrow.specs.Narrow.{narrow}
use Rattle.powers.specs.Powers.{power}

-- The greatest whole number not above a / b, or not above -a / b where negative, counted from 38,400 below 0
unfoldable pub floor_from : Bool → ℕ → ℕ → ℕ
floor_from false a b = 38_400 + a / b
floor_from true a b = 38_400 - (a / b + cond (a % b == 0) 0 1)

-- k + 38,400, where k is the greatest whole number not above 256 x, for a finite x above -150
unfoldable pub steps : Float → ℕ
steps nan = 0
steps (inf s) = 0
steps (fin s m e) = floor_from s (256 * (m * up e)) (down e)

-- 1 + y * (1 + y * (0.5 + y * (1 / 6))), the last as the f64 nearest to it
unfoldable pub series : Float → Float
series y =
    let one = from_bits binary64 0x3ff0_0000_0000_0000 in
    let half = from_bits binary64 0x3fe0_0000_0000_0000 in
    let sixth = from_bits binary64 0x3fc5_5555_5555_5555 in
    add binary64 one (mul binary64 y (add binary64 one (mul binary64 y (add binary64 half (mul binary64 y sixth)))))

-- The gain at x where k is q - 38,400.
-- As 38,400 is 150 * 256, the quotient n of k by 256 is q / 256 - 150 and the remainder i is q % 256.
-- A[i] * p is rounded to f64, times 2 ^ n loses nothing there, and the whole is rounded once to f32.
unfoldable pub gain_at : Float → ℕ → Float
gain_at x q =
    let k = of_int binary64 (minus q 38_400) in
    let r = sub binary64 x (div binary64 k (from_bits binary64 0x4070_0000_0000_0000)) in
    let y = mul binary64 r (from_bits binary64 0x3fe6_2e42_fefa_39ef) in
    narrow (mul binary64 (mul binary64 (power (q % 256)) (series y)) (fin false 1 (minus (q / 256) 150)))

-- where `steps` is asked: above -150 and at most 32
abbrev pub GainRange : Float → Type 0
GainRange nan = ⊥
GainRange (inf s) = ⊥
GainRange (fin true m e) = m * up e < 150 * down e
GainRange (fin false m e) = m * up e ≤ 32 * down e

-- +0 for an x of at most -150
unfoldable pub band_gain : Float → Float
band_gain x = cond (le x (neg (from_bits binary32 0x4316_0000))) (from_bits binary32 0) (gain_at x (steps x))

-- the gain of a sum of energy and mean, which counts as 32 where it is above or NaN
abbrev pub gain_of : Float → Float
gain_of sum = band_gain (min_of sum (from_bits binary32 0x4200_0000))
