-- `vikkozhan_answer` meets its contract: it is that of `answer_record`, and a refused step answers with no bytes.
use Rattle.std.proofs.Common.{◌≡◌, ℕ, Result, Ok, Err, refl, ap, ◌∙◌}
use Rattle.std.specs.Result.{result_unwrap_or}
use Rattle.reply.specs.declared.Refused.{Refused}
use Rattle.reply.specs.Reply.{value_or}
use Rattle.answer_head.specs.Head.{headed}
use Rattle.answer.specs.Answer.{with_record}
use Rattle.answer.proofs.Answers.{step-is}
use Rattle.vikkozhan.proofs.vikkozhan_answer.Goals as goal

bytes_of : (r : Result ℕ Refused) → result_unwrap_or r 0 ≡ value_or 0 r
bytes_of (Ok n) = refl
bytes_of (Err e) = refl

pub returns : goal.returns
returns c =
    let a = c.args in
    let n = c.unwrap_or.ensures ∙ bytes_of c.answer_record.result in
    ap (λ z. with_record (headed z c.answer_record.new.head) c.answer_record.new.rec) n
    ∙ step-is a.rec.now a.head.now c.answer_record.ensures
