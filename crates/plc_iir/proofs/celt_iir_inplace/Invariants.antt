-- After i turns the first i outputs stand in buf, and behind the memory in y.
use Rattle.plc_iir.proofs.Iirs.{Filtered}
use Rattle.plc_iir.proofs.celt_iir_inplace.Given as goal

abbrev pub invariant-loop-i : goal.invariant-loop-i
invariant-loop-i l = Filtered l.den l.mem l.initial.buf l.buf l.y l.i
