-- `write_record` meets its contract: the history behind the state.
use Rattle.std.proofs.Common.{◌≡◌, ◌+◌, ◌*◌, ◌≤◌, refl, ap, ◌∙◌, length, arith, rules}
use Rattle.std.proofs.lemmas.Bool.Decides.{nat_tests}
use Rattle.record.specs.Record.{writable}
use Rattle.reply.specs.Reply.{reply, reply-yes, reply-no}
use Rattle.words.proofs.Laws.{holds-true, never, put-held, put-taken}
use Rattle.state_words.specs.Words.{state_length}
use Rattle.put_record.proofs.Parts.{record-parts}
use Rattle.put_record.proofs.write_record.Goals as goal

pub returns-then-b-ne-BYTES : goal.returns-then-b-ne-BYTES
unfolding writable
returns-then-b-ne-BYTES c = reply-no _ _ _ (grind (arith, nat_tests)) refl

pub returns-in_err-put_values_at : goal.returns-in_err-put_values_at
returns-in_err-put_values_at c =
    never _ _ _ c.put_values_at.ensures (holds-true c.args.b.now 0 (length c.to_words.result) (omega arith)) c.in_err-put_values_at.was

pub returns : goal.returns
unfolding writable
returns c =
    let a = c.args in
    let n = length a.history.now in
    let w = c.to_words.result in
    let size : length w ≡ state_length = search rules in
    let first = put-held a.b.now 0 (length w) _ c.put_values_at.ensures (omega arith) in
    let room : 4 * (161 + n) ≤ length c.put_values_at.new.b = omega (arith, c.put_values_at.auto.b) in
    let last = put-held c.put_values_at.new.b 161 n _ c.put_values_at-2.ensures room in
    ap (λ t. reply t c.put_values_at-2.new.b) (put-taken c.put_values_at.new.b 161 n _ c.put_values_at-2.ensures room)
    ∙ reply-yes _ _ _ (grind (arith, nat_tests))
    (record-parts a.s a.history.now (4 * n) w a.b.now _ _ c.to_words.ensures size first last (omega arith))
