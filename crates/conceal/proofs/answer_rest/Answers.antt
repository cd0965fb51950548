-- The step is not refused, and its answer fits its buffer.
use Rattle.std.proofs.Common.{◌≡◌, Ok, arith, ap, sym, ◌∙◌, length-take-le}
use Rattle.std.proofs.KnownBytes.{Appends-nil}
use Rattle.conceal.proofs.Turns.{rest-taken, rest-most, rest-written}
use Rattle.conceal.proofs.answer_rest.Goals as goal

pub unwrap-cut-requires : goal.unwrap-cut-requires
unwrap-cut-requires g c = rest-taken c.args.n 0 _ _ c.answer_tail.ensures

pub slice_bounds-head-end : goal.slice_bounds-head-end
slice_bounds-head-end g c = omega (arith, rest-most c.args.n _ _ _ c.answer_tail.ensures c.unwrap-cut.ensures)

pub slice_bounds-written-end : goal.slice_bounds-written-end
slice_bounds-written-end g c = sym (length-take-le _ _ (omega (arith, rest-most c.args.n _ _ _ c.answer_tail.ensures c.unwrap-cut.ensures)))

pub returns-in_ok-written : goal.returns-in_ok-written
returns-in_ok-written g c = rest-written c.args.n _ _ _ c.answer_tail.ensures c.unwrap-cut.ensures _ _ c.in_ok-written.ensures

pub returns-else-cut-gt0 : goal.returns-else-cut-gt0
returns-else-cut-gt0 g c =
    let none : c.unwrap-cut.result ≡ 0 = omega arith in
    rest-written c.args.n 0 _ _ c.answer_tail.ensures (c.unwrap-cut.ensures ∙ ap (λ n. Ok n) none) _ _ (Appends-nil _)
