-- `answer_record` meets its contract: other lengths leave both buffers.
use Rattle.std.proofs.Common.{◌≡◌, true, refl, ap, arith, ◌∙◌}
use Rattle.std.proofs.lemmas.Bool.Decides.{nat_tests}
use Rattle.reply.specs.Reply.{reply, reply-yes}
use Rattle.answer.specs.Answer.{takes}
use Rattle.answer.proofs.Answers.{answers}
use Rattle.answer.proofs.answer_record.Goals as goal

pub returns : goal.returns
unfolding takes
returns c =
    let a = c.args in
    let fits : takes a.rec.now a.head.now ≡ true = grind (arith, nat_tests) in
    c.answer.ensures ∙ ap (reply _) (answers a.rec.now a.head.now fits) ∙ reply-yes _ _ _ fits refl
