-- `write_head` meets its contract: three words, and the samples behind them.
use Rattle.std.proofs.Common.{length, arith}
use Rattle.reply.specs.Reply.{reply-yes}
use Rattle.words.proofs.Laws.{holds-true, never, put-held}
use Rattle.answer_head.proofs.Heads.{head-fits, head-written}
use Rattle.answer_head.proofs.write_head.Goals as goal

pub returns-in_err-put_values_at : goal.returns-in_err-put_values_at
returns-in_err-put_values_at c = never _ _ _ c.put_values_at.ensures (holds-true c.args.head.now 0 3 (omega arith)) c.in_err-put_values_at.was

pub returns-in_err-put_values_at-2 : goal.returns-in_err-put_values_at-2
returns-in_err-put_values_at-2 c =
    let room = holds-true c.put_values_at.new.b 3 (length c.args.pcm.now) (omega (arith, c.put_values_at.auto.b)) in
    never _ _ _ c.put_values_at-2.ensures room c.in_err-put_values_at-2.was

pub returns : goal.returns
returns c =
    let a = c.args in
    let n = length a.pcm.now in
    let fits = head-fits n _ c.if-head-lt-HEAD_BYTES.false c.if-samples-gt-SAMPLES_MOST.false in
    let first = put-held a.head.now 0 3 _ c.put_values_at.ensures (omega arith) in
    let second = put-held _ 3 n _ c.put_values_at-2.ensures (omega (arith, c.put_values_at.auto.b)) in
    reply-yes _ _ _ fits (head-written a.number a.kind a.pcm.now a.head.now fits _ _ first second)
