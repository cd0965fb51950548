use mathlib.Core.Path.{refl}
use lib.ListN.{replicate}
use Rattle.buffers.specs.Buffers.{zero32}
use Rattle.history.specs.History.{half}
use Rattle.pitch_lag.proofs.Laws.{low-done}
use Rattle.pitch_lag.proofs.low_pass.Goals as goal

pub unwrap-requires : goal.unwrap-requires
unwrap-requires c =
    let a = c.args in
    (low-done a.two a.history.now c.told-history (replicate half zero32) _ _ refl _ _ c.then_some-second.ensures refl c.pitch_downsample.ensures).0

pub returns : goal.returns
returns c =
    let a = c.args in
    (low-done a.two a.history.now c.told-history (replicate half zero32) _ _ refl _ _ c.then_some-second.ensures refl c.pitch_downsample.ensures).1
