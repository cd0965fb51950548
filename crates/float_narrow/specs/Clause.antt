-- An f64 to f32 as IEEE 754-2019 tells it, clause 4.3.1, in its order; quotation marks are for its words.
-- Of binary32 b is 2, p is 24 and emax is 127.
-- proofs/Clause.antt shows that on every f64 it is `narrow`, which contracts name.
use Prim.Native.Nat.{ℕ, suc, ◌-◌, ◌*◌, ◌/◌, ◌%◌, ◌^◌, max, compare, Ordering}
use Rattle.std.specs.Prelude.{Bool, cond, leb, eqb, ℤ, Float}
use Rattle.std.specs.Float.{nan, inf, fin}
use Rattle.std.specs.Float.Ieee.{up, down, size, odd}

-- "An infinitely precise result": m * 2 ^ e as so many of 2 ^ -1074, a whole number for every f64.
unfoldable pub exact : ℕ → ℤ → ℕ
exact m e = m * up e * (2 ^ 1074 / down e)

-- "With magnitude at least b ^ emax * (b - 1/2 * b ^ (1 - p))": 2 ^ 127 * (2 - 2 ^ -24), both sides in 2 ^ -24 of 2 ^ -1074.
unfoldable pub overflows : ℕ → Bool
overflows v = leb (2 ^ 127 * (2 * 2 ^ 24 - 1) * 2 ^ 1074) (v * 2 ^ 24)

-- "Floating-point numbers" have p digits, and the last has the format's least exponent, -149, or a greater one.
-- Counted from -1074:
unfoldable pub last_digit : ℕ → ℕ
last_digit v = max (1074 - 149) (size v - 24)

-- "The two nearest floating-point numbers bracketing" it: so many units of the last digit, and one more.
unfoldable pub lower : ℕ → ℕ → ℕ
lower v unit = v / unit

unfoldable pub upper : ℕ → ℕ → ℕ
unfolding lower
upper v unit = suc (lower v unit)

-- "The floating-point number nearest to the infinitely precise result shall be delivered": the distances say which.
-- "If the two ... are equally near, the one with an even least significant digit shall be delivered."
unfoldable pub nearer : Ordering → ℕ → ℕ → ℕ
nearer Ordering.lt a b = a
nearer Ordering.gt a b = b
nearer Ordering.eq a b = cond (eqb (a % 2) 0) a b

unfoldable pub delivered : ℕ → ℕ → ℕ
unfolding lower upper nearer
delivered v unit = nearer (compare (v - lower v unit * unit) (upper v unit * unit - v)) (lower v unit) (upper v unit)

-- "Shall round to infinity with no change in sign", or what is delivered, which has 25 digits at most:
-- `odd` writes a number in the kit's one way. A zero is a number like any other, and keeps its sign.
unfoldable pub round_ties_to_even : Bool → ℕ → Float
unfolding overflows last_digit delivered odd
round_ties_to_even s v = cond (overflows v) (inf s) (odd 25 s (delivered v (2 ^ last_digit v)) (last_digit v) 1074)

-- A NaN gives a NaN and an infinity the same infinity (clauses 6.2 and 6.1).
unfoldable pub clause : Float → Float
unfolding exact round_ties_to_even
clause nan = nan
clause (inf s) = inf s
clause (fin s m e) = round_ties_to_even s (exact m e)
