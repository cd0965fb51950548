use mathlib.Core.Path.{◌≡◌, refl}
use native.Mathlib.Omega.{arith}
use lib.ListN.{length, drop, replicate, length-drop}
use lib.Seq.{length-take-le}
use Rattle.std.proofs.Common.{rules}
use Rattle.buffers.specs.Buffers.{zero32}
use Rattle.cases.proofs.Takes.{channels_take}
use Rattle.cases.proofs.search.answer_downsampled.Goals as goal

pub unwrap-requires : goal.unwrap-requires
unwrap-requires c =
    let h = c.in_ok-h.h in
    let l : length h ≡ 4336 = search rules in
    channels_take c.args.two _ _ _ (replicate 1024 zero32) _ _ c.then_some-second.ensures
    (length-take-le 2048 h (omega (arith, l)))
    (length-take-le 2048 (drop 2168 h) (omega (arith, length-drop 2168 h)))
    refl c.pitch_downsample.ensures
