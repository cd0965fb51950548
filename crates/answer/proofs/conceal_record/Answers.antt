-- `conceal_record` meets its contract: what was read is the record's, and the call its outcome.
use Rattle.std.proofs.Common.{length, ap, sym, ◌∙◌, rules}
use Rattle.loss.specs.Loss.{in_buffer, outcome_of}
use Rattle.words.specs.Bytes.{floats_are_values}
use Rattle.answer.proofs.Answers.{outcome-from}
use Rattle.answer.proofs.conceal_record.Goals as goal

pub returns : goal.returns
returns c =
    let call = c.decode_lost in
    let a = c.args in
    let state = c.read_state.ensures in
    let read = c.values_at.ensures ∙ floats_are_values a.rec.now 161 (length a.history.now) in
    let made = outcome-from a.rec.now _ _ (length a.history.now) (length a.pcm.now) state read (search rules) (search rules) in
    ap (λ s. outcome_of s call.result call.new.pcm call.new.history) (sym state) ∙ call.ensures ∙ ap (in_buffer a.pcm.now) made
