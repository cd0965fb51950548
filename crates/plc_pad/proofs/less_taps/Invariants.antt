-- After as many turns as pairs were yielded, so many taps are taken.
use Rattle.std.proofs.Common.{◌≡◌, length}
use Rattle.plc_pad.specs.Pad.{taps_taken}
use Rattle.plc_pad.proofs.less_taps.Given as goal

abbrev pub invariant-loop-d : goal.invariant-loop-d
invariant-loop-d l = l.y ≡ taps_taken l.den l.past 0 l.x (length l.yielded)
