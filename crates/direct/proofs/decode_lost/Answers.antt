-- `decode_lost` meets its contract: that of the call, word by word.
use Rattle.std.proofs.Common.{◌≡◌, ap, sym, ◌∙◌}
use Rattle.direct.proofs.Laws.{left, samples-fit, call-is}
use Rattle.direct.proofs.decode_lost.Goals as goal
use Rattle.direct.proofs.decode_lost.Goals.{in-Ok, in_default}

pub returns : goal.returns
returns c =
    let call = c.decode_lost-call in
    let from = c.from_words.ensures in
    let words = c.report.ensures.words (samples-fit _ _ _ _ _ _ from call.result call.ensures) in
    let state : c.match-call.state ≡ left c.args.state.now call.result =
    elim c.match-call.branch [
      | in-Ok w ↦ w.state-is ∙ w.to_words.ensures ∙ ap (left c.args.state.now) (sym w.in-Ok.is)
      | in_default w ↦ w.state-is ∙ ap (left c.args.state.now) (sym w.in_default.is)
    ] in
    call-is _ _ _ _ _ _ from call.result call.ensures _ _ words state
