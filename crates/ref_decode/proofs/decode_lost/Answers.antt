-- `ref_decode::decode_lost` meets its contract: refused by the first number that applies, else by its path and the end of a call.
use Rattle.std.proofs.Common.{◌≡◌, sym, ◌∙◌}
use Rattle.settings.proofs.Table.{exit_is}
use Rattle.finish.proofs.End.{accepted_state}
use Rattle.loss.specs.Loss.{made, history_after}
use Rattle.ref_decode.proofs.Entry.{noise_is, pitch_is, accepted_left, refused-left}
use Rattle.ref_decode.proofs.decode_lost.Goals as goal
use Rattle.ref_decode.proofs.decode_lost.Goals.{then-by_noise, else-by_noise}

pub returns-in_err-first_refusal : goal.returns-in_err-first_refusal
returns-in_err-first_refusal c =
    let x = c.args in
    refused-left x.s x.history.now x.pcm.now _ _ (exit_is _ _ c.from_residual.ensures.1) c.in_err-first_refusal.ensures

pub noise_made-made-requires : goal.noise_made-made-requires
noise_made-made-requires c = accepted_state _ _ _ (sym c.in_ok-first_refusal.ensures)

pub pitch_made-made-requires : goal.pitch_made-made-requires
pitch_made-made-requires c = (accepted_state _ _ _ (sym c.in_ok-first_refusal.ensures), sym c.by_noise.ensures ∙ c.if-by_noise.false)

pub returns : goal.returns
returns c =
    let x = c.args in
    let h = x.history.now in
    let y = c.if-by_noise in
    let p : (y.made ≡ made x.s h) × (y.history ≡ history_after x.s h) =
    elim y.branch [
      | then-by_noise w ↦
          noise_is x.s h (sym c.by_noise.ensures ∙ w.if-by_noise.true) _ _
          (w.made-is ∙ w.noise_made-made.ensures.0)
          (w.history-is ∙ w.noise_made-made.ensures.1)
      | else-by_noise w ↦
          pitch_is x.s h (sym c.by_noise.ensures ∙ w.if-by_noise.false) _ _
          (w.made-is ∙ w.pitch_made-made.ensures.0)
          (w.history-is ∙ w.pitch_made-made.ensures.1)
    ] in
    accepted_left x.s h x.pcm.now _ _ _ c.finish.ensures y.auto.history (sym c.in_ok-first_refusal.ensures) p.0 p.1
