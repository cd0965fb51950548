-- The exact energy of f32 samples, over whole numbers:
-- a finite f32 is so many of 2 ^ -149, so a square, and a sum of them, is so many of 2 ^ -298.
use Rattle.std.specs.Prelude.{◌≡◌, Bool, List, [], ◌∷◌, ℕ, ◌+◌, ◌*◌, ◌/◌, ◌^◌, ◌<◌, length, get_or, Float}
use Rattle.std.specs.Float.{nan, inf, fin}
use Rattle.std.specs.Float.Ieee.{up, down}
use Rattle.std.specs.Float.Ieee.Exact.{HasValue}
use Rattle.float_near.specs.Near.{Near}

-- how many of 2 ^ -149 a sample is, its sign left out
unfoldable pub count : Float → ℕ
count nan = 0
count (inf s) = 0
count (fin s m e) = m * up e * 2 ^ 149 / down e

-- that it is exactly so many, and so finite
abbrev pub Counted : Float → Type 0
Counted x = (s : Bool) × HasValue x s (count x) (2 ^ 149)

abbrev pub AllCounted : List Float → Type 0
AllCounted xs = (i : ℕ) → i < length xs → Counted (get_or xs i nan)

-- the sum of the squares, in 2 ^ -298
unfoldable pub energy : List Float → ℕ
energy [] = 0
energy (x ∷ xs) = count x * count x + energy xs

-- 1 in 2 ^ -298
abbrev pub one : ℕ
one = 2 ^ 298

-- the sum of the squares lies between 1 - 1 / d and 1 + 1 / d
pub record UnitEnergy (d : ℕ) (xs : List Float) : Type 0 where
  pub counted : AllCounted xs
  pub sum : Near d (energy xs) one

-- the sum of the squares is 0
pub record NoEnergy (xs : List Float) : Type 0 where
  pub counted : AllCounted xs
  pub sum : energy xs ≡ 0
