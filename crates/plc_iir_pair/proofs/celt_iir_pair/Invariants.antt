-- After i turns the first i outputs of either channel stand in its buffer, and behind its memory.
use Rattle.plc_iir.proofs.Iirs.{Filtered}
use Rattle.plc_iir_pair.proofs.celt_iir_pair.Given as goal

abbrev pub invariant-loop-i : goal.invariant-loop-i
invariant-loop-i l = Filtered l.den_a l.mem_a l.initial.a l.a l.y l.i × Filtered l.den_b l.mem_b l.initial.b l.b l.z l.i
