-- The step is not refused, and its answer fits its buffer.
use Rattle.std.proofs.Common.{arith, sym, length-take-le, rules}
use Rattle.conceal.proofs.Turns.{whole-taken, whole-most, whole-written}
use Rattle.conceal.proofs.answer_whole.Goals as goal

pub unwrap-n-requires : goal.unwrap-n-requires
unwrap-n-requires g c = whole-taken 0 _ _ _ _ c.answer_record.ensures (search rules)

pub slice_bounds-head-end : goal.slice_bounds-head-end
slice_bounds-head-end g c = omega (arith, whole-most _ _ _ _ _ c.answer_record.ensures c.unwrap-n.ensures)

pub slice_bounds-written-end : goal.slice_bounds-written-end
slice_bounds-written-end g c = sym (length-take-le _ _ (omega (arith, whole-most _ _ _ _ _ c.answer_record.ensures c.unwrap-n.ensures)))

pub returns : goal.returns
returns g c = whole-written _ _ _ _ _ c.answer_record.ensures _ _ _ _ c.unwrap-n.ensures c.in_ok-written.ensures c.written-2.ensures
