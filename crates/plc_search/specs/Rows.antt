-- What the private steps of the finer search hand to each other. Nothing of it stands in a public contract.
use Rattle.std.specs.Prelude.{ℕ, ◌+◌, ◌*◌, ◌-◌, cond, List, get_or, drop, Option, Some, None, Float}
use Rattle.std.specs.Float.{nan}
use Rattle.loops.specs.Front.{tab}
use Rattle.plc_correlate.specs.Correlation.{correlation}
use Rattle.plc_search.specs.Search.{near}

-- the five correlations from 2 below twice b on, or from 0
unfoldable pub near_row : List Float → ℕ → List Float
near_row y b = tab (λ (k : ℕ). correlation (drop 360 y) y 664 (2 * b - 2 + k)) 5

-- what b's row has for place i, where i is near
unfoldable pub near_at : List Float → ℕ → ℕ → Option Float
near_at row b i = cond (near b i) (Some (get_or row (i - (2 * b - 2)) nan)) None
