-- The f32 square root.
use Rattle.std.specs.Prelude.{ℕ, zero, suc, ◌+◌, ◌*◌, ◌/◌, ◌^◌, ◌<◌, true, false, cond, T, leb, eqb, Float}
use Rattle.std.specs.Float.{nan, inf, fin, binary32}
use Rattle.std.specs.Float.Ieee.{round, fits, up, down}
use Rattle.std.specs.Float.Ieee.Exact.{HasValue}

-- the largest whole number whose square is at most n, for an n below 4 ^ k: digit by digit
unfoldable pub root_to : ℕ → ℕ → ℕ
root_to zero n = 0
root_to (suc k) n = let r = 2 * root_to k (n / 4) in cond (leb ((r + 1) * (r + 1)) n) (r + 1) r

-- √n in whole numbers, doubled, and one more where n is no square
unfoldable pub twice_root : ℕ → ℕ
twice_root n = let r = root_to 213 n in 2 * r + cond (eqb (r * r) n) 0 1

-- NaN, +infinity and zeros give themselves, and what is below zero gives NaN.
-- Else x is n units of 2 ^ -298, so √x is √n units of 2 ^ -149.
-- No root is below 2 ^ -75, so each f32 near it, and each middle of two, is a whole number of these units.
-- Of a fraction in √n it only counts that there is one: half a unit stands for it.
unfoldable pub sqrt_of : Float → Float
sqrt_of nan = nan
sqrt_of (inf true) = nan
sqrt_of (inf false) = inf false
sqrt_of (fin s zero e) = fin s zero e
sqrt_of (fin true (suc m) e) = nan
sqrt_of (fin false (suc m) e) = round binary32 false (twice_root (suc m * up e * 2 ^ 298 / down e)) (2 ^ 150)

-- What nearest means, by whole-number squares.
-- A finite f32 is a whole number of units of 2 ^ -149: where x is a of them, √x is √(a * 2 ^ 149).
-- r is an f32, and nearer to √x than any other finite f32 y that is not negative:
-- √x lies on r's side of the middle of y and r, and is not the middle.
pub record NearRoot (x r : Float) : Type 0 where
  pub a : ℕ
  pub c : ℕ
  pub x-is : HasValue x false a (2 ^ 149)
  pub r-is : HasValue r false c (2 ^ 149)
  pub r-fits : T (fits binary32 r)
  pub below : (y : Float) (b : ℕ) → T (fits binary32 y) → HasValue y false b (2 ^ 149) → b < c → (b + c) * (b + c) < 4 * (a * 2 ^ 149)
  pub above : (y : Float) (b : ℕ) → T (fits binary32 y) → HasValue y false b (2 ^ 149) → c < b → 4 * (a * 2 ^ 149) < (b + c) * (b + c)
