-- Floats of a table as whole numbers.
use Rattle.std.specs.Prelude.{◌≡◌, refl, Bool, true, false, List, [], ◌∷◌, map, ℕ, zero, suc, ◌*◌, ◌/◌, ◌^◌, eqb, get_or, Float}
use Rattle.std.specs.Float.{nan, inf, fin}
use Rattle.std.specs.Float.Ieee.{up, down}

-- x * 2 ^ p, for an x that is not below 0
unfoldable pub scaled : ℕ → Float → ℕ
scaled p nan = 0
scaled p (inf s) = 0
scaled p (fin true m e) = 0
scaled p (fin false m e) = m * up e * 2 ^ p / down e

-- x is finite and not below 0, and scaled p x is x * 2 ^ p with nothing lost
unfoldable pub is_scaled : ℕ → Float → Bool
is_scaled p nan = false
is_scaled p (inf s) = false
is_scaled p (fin true m e) = false
is_scaled p (fin false m e) = eqb (m * up e * 2 ^ p) (m * up e * 2 ^ p / down e * down e)

pub get_or-scaled : (p : ℕ) (xs : List Float) (j : ℕ) → get_or (map (scaled p) xs) j 0 ≡ scaled p (get_or xs j nan)
unfolding scaled
get_or-scaled p [] j = refl
get_or-scaled p (x ∷ xs) zero = refl
get_or-scaled p (x ∷ xs) (suc j) = get_or-scaled p xs j
