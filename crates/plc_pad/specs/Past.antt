-- What a filter reads behind its place.
use Rattle.std.specs.Prelude.{ℕ, ◌-◌, cond, List, ltb, get_or, Float}
use Rattle.std.specs.Float.{nan}

-- the value j + 1 places before place i: of xs, or of the memory (most recent first) where that is before the start
abbrev pub past : List Float → List Float → ℕ → ℕ → Float
past xs mem i j = cond (ltb j i) (get_or xs (i - 1 - j) nan) (get_or mem (j - i) nan)
