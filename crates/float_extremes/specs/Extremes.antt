-- Rust's `f32::min` and `f32::max`: where one is NaN the other is the answer.
-- For two zeros of unlike sign, which Rust leaves open, the first is taken.
use Rattle.std.specs.Prelude.{cond, Float}
use Rattle.std.specs.Float.Ieee.{lt, is_nan}

unfoldable pub min_of : Float → Float → Float
min_of x y = cond (is_nan x) y (cond (is_nan y) x (cond (lt y x) y x))

unfoldable pub max_of : Float → Float → Float
max_of x y = cond (is_nan x) y (cond (is_nan y) x (cond (lt x y) y x))
