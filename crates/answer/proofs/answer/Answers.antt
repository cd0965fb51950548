-- `answer` meets its contract: the head and the record are the outcome's.
use Rattle.std.proofs.Common.{◌≡◌, true, ap, sym, ◌∙◌, arith, length-take-le}
use Rattle.reply.specs.Reply.{reply-lent}
use Rattle.std.proofs.lemmas.Bool.Decides.{nat_tests}
use Rattle.words.proofs.Laws.{never}
use Rattle.record.specs.Record.{writable}
use Rattle.answer.proofs.Answers.{left, count-most, step-written}
use Rattle.answer.proofs.answer.Goals as goal
use Rattle.answer.proofs.answer.Goals.{in-Ok+in_ok-write_record, in_default}

pub returns-in_err-write_record : goal.returns-in_err-write_record
unfolding writable
returns-in_err-write_record c =
    let fits : writable c.args.rec.now c.conceal_record-call.new.history ≡ true = grind (arith, nat_tests) in
    never _ _ _ c.write_record.ensures fits c.in_err-write_record.was

pub slice_bounds-pcm-end : goal.slice_bounds-pcm-end
slice_bounds-pcm-end c =
    let call = c.conceal_record-call in
    omega (arith, count-most c.args.rec.now _ _ _ call.result call.ensures _ c.report.ensures.words)

pub slice_bounds-write_head-end : goal.slice_bounds-write_head-end
slice_bounds-write_head-end c =
    let call = c.conceal_record-call in
    sym (length-take-le _ call.new.pcm (omega (arith, count-most c.args.rec.now _ _ _ call.result call.ensures _ c.report.ensures.words)))

pub returns : goal.returns
unfolding writable
returns c =
    let a = c.args in
    let call = c.conceal_record-call in
    let fits : writable a.rec.now call.new.history ≡ true = grind (arith, nat_tests) in
    let rec : c.match-call.rec ≡ left a.rec.now call.new.history call.result =
    elim c.match-call.branch [
      | in-Ok+in_ok-write_record w ↦
          w.rec-is ∙ reply-lent _ _ _ w.write_record.ensures fits ∙ ap (left a.rec.now call.new.history) (sym w.in-Ok.is)
      | in_default w ↦ w.rec-is ∙ ap (left a.rec.now call.new.history) (sym w.in_default.is)
    ] in
    step-written a.rec.now _ _ _ call.result call.ensures _ c.report.ensures.words a.head.now c.requires.1 _ _ _ rec c.write_head.ensures
