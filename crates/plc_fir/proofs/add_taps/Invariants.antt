-- After j rows every sample has its first j taps; inside, the samples passed have one more.
use Rattle.std.proofs.Common.{◌≡◌, length}
use Rattle.loops.specs.Front.{front, tab}
use Rattle.plc_pad.specs.Pad.{taps_row}
use Rattle.plc_fir.proofs.Taps.{tap_on}
use Rattle.plc_fir.proofs.add_taps.Given as goal

abbrev pub invariant-loop-i : goal.invariant-loop-i
invariant-loop-i l = l.out ≡ front (tab (tap_on l.num l.pad l.initial.out l.j) l.i) l.initial.out l.i

abbrev pub invariant-loop-j : goal.invariant-loop-j
invariant-loop-j l = l.out ≡ tab (taps_row l.num l.pad l.initial.out l.j) (length l.initial.out)
