-- The marked edges of rounding to f32, by computation.
use Rattle.std.specs.Prelude.{◌≡◌, refl, ◌+◌, ◌^◌, false, pos, negsuc}
use Rattle.std.specs.Float.{fin}
use Rattle.std.specs.Float.Ieee.{round}
use Rattle.float_narrow.specs.Narrow.{narrow}

-- 1 + 2 ^ -24 gives 1, and 1 + 3 * 2 ^ -24 gives 1 + 2 ^ -22
pub marked_rounding : (narrow (fin false (2 ^ 24 + 1) (negsuc 23)) ≡ fin false 1 (pos 0))
    × (narrow (fin false (2 ^ 24 + 3) (negsuc 23)) ≡ fin false (2 ^ 22 + 1) (negsuc 21))
unfolding narrow round
marked_rounding = (refl, refl)
