-- `answer_tail` meets its contract: nothing for nothing, three words for a cut record.
use Rattle.std.proofs.Common.{arith}
use Rattle.std.proofs.lemmas.Bool.Decides.{nat_tests}
use Rattle.reply.specs.Reply.{reply-yes}
use Rattle.words.proofs.Laws.{holds-true, never, put-held}
use Rattle.answer_head.proofs.Heads.{tail_none, tail-cut}
use Rattle.answer_head.proofs.answer_tail.Goals as goal

pub returns-then-n-eq0 : goal.returns-then-n-eq0
returns-then-n-eq0 c =
    let room = c.if-head-lt-REPORT_BYTES.false in
    reply-yes _ _ _ (grind (arith, nat_tests)) (tail_none c.args.n c.args.head.now room c.if-n-eq0.true)

pub returns-in_err-put_values_at : goal.returns-in_err-put_values_at
returns-in_err-put_values_at c = never _ _ _ c.put_values_at.ensures (holds-true c.args.head.now 0 3 (omega arith)) c.in_err-put_values_at.was

pub returns : goal.returns
returns c =
    let a = c.args in
    let room = c.if-head-lt-REPORT_BYTES.false in
    let written = put-held a.head.now 0 3 _ c.put_values_at.ensures (omega arith) in
    reply-yes _ _ _ (grind (arith, nat_tests)) (tail-cut a.n a.head.now room c.if-n-eq0.false _ written)
