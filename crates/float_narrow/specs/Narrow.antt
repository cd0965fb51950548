-- An f64 rounded to the nearest f32, a tie to the even one.
use Rattle.std.specs.Prelude.{◌*◌, Float}
use Rattle.std.specs.Float.Ieee as Ieee
use Rattle.std.specs.Float.{nan, inf, fin, binary32}
use Rattle.std.specs.Float.Ieee.{up, down}

unfoldable pub narrow : Float → Float
narrow nan = nan
narrow (inf s) = inf s
narrow (fin s m e) = Ieee.round binary32 s (m * up e) (down e)
