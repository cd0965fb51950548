-- `put_values_at` meets its contract: a part that came back.
use Rattle.std.proofs.Common.{refl, ◌+◌, ◌-◌, ◌*◌, arith, length}
use Rattle.std.proofs.lemmas.Bool.Decides.{nat_tests}
use Rattle.reply.specs.Reply.{reply-yes, reply-no}
use Rattle.words.specs.Bytes.{holds}
use Rattle.words.proofs.Laws.{part-back}
use Rattle.put_words.proofs.put_values_at.Goals as goal

pub returns-then-words-n : goal.returns-then-words-n
unfolding holds
returns-then-words-n g c = reply-no _ _ _ (grind (arith, nat_tests)) refl

pub returns : goal.returns
unfolding holds
returns g c =
    let a = c.args in
    let n = length a.xs.now in
    reply-yes _ _ _ (grind (arith, nat_tests))
    (part-back (4 * a.i) (4 * (a.i + n) - 4 * a.i) (4 * n) a.b.now _ _ (omega arith) c.put_values.ensures)
