-- After so many turns as many samples are copied and heard.
use Rattle.std.proofs.Common.{◌≡◌, ◌<◌}
use Rattle.std.specs.Float.{binary32}
use Rattle.loops.specs.Front.{front, tab}
use Rattle.loops.specs.Sum.{sum_to}
use Rattle.buffers.specs.Buffers.{zero32}
use Rattle.history.specs.History.{half}
use Rattle.periodic_copy.specs.Copy.{position_at, decay_at}
use Rattle.periodic_copy.proofs.Positions.{copy_at, heard_at}
use Rattle.periodic_copy.proofs.periodic_copy.Given as goal

abbrev pub invariant-loop-sample : goal.invariant-loop-sample
invariant-loop-sample l = record {
  within : l.place.at < half;
  at : l.place.at ≡ position_at l.lag l.sample-index;
  decay : l.place.decay ≡ decay_at l.lag l.decay l.sample-index;
  copied : l.e ≡ front (tab (copy_at l.exc l.lag l.decay) l.sample-index) l.initial.e l.sample-index;
  heard : l.energy ≡ sum_to binary32 (heard_at l.newest l.lag) zero32 l.sample-index;
}
