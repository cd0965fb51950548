-- What every call is known to do.
use mathlib.Core.Path.{◌≡◌, ap, ◌∙◌}
use mathlib.Core.Bool.{cond, false}
use mathlib.Core.List.{List}
use Prim.Native.Nat.{ℕ, suc}
use lib.ListN.{length}
use lib.Ieee.{Float}
use Rattle.settings.specs.Settings.{stereo}
use Rattle.state.specs.State.{searches}
use Rattle.state.specs.Refusal.{refuses_state, refusal}
use Rattle.state.specs.declared.State.{State}
use Rattle.state.proofs.Keep.{ok-start}
use Rattle.pitch_lag.specs.Lag.{lag_of}
use Rattle.pitch_predictor.specs.Predictor.{fitted_to}
use Rattle.history.specs.History.{tails}
use Rattle.loss.specs.Loss.{made, history_after, finish, concealed, answered, loss}
use Rattle.loss.proofs.Fields.{made-kind, made_undrawn, made_lag, made_predictor}
use Rattle.finish.specs.Call.{Refused}
use Rattle.finish.proofs.End.{accepted_state}
use Rattle.finish.proofs.Call.{finish_concludes, refused-leaves}
use Rattle.loss.specs.Call.{Accepted}

module _ (s : State) (h : List Float) where
  made-carried : searches s ≡ false → ((made s h).lag ≡ s.lag) × ((made s h).predictor ≡ s.predictor)
  made-carried e = (
    made_lag s h ∙ ap (λ b. cond b (lag_of (stereo s.settings) h) s.lag) e,
    made_predictor s h ∙ ap (λ b. cond b (fitted_to (stereo s.settings) s.predictor (tails h)) s.predictor) e,
  )

  accepted : refuses_state s (length h) ≡ 0 → Accepted s h (concealed s h)
  unfolding concealed finish
  accepted z = record {
    ended = finish_concludes s (made s h) (history_after s h) (ok-start s h z).settings;
    kind = made-kind s h;
    undrawn = made_undrawn s h;
    carried = made-carried;
  }

  module _ (p : ℕ) where
    pub accepted_call : refusal s (length h) p ≡ 0 → Accepted s h (loss s h p)
    unfolding loss answered
    accepted_call z = rw z (accepted (accepted_state s _ _ z))

    pub refused-call : (n : ℕ) → refusal s (length h) p ≡ suc n → Refused (suc n) s h (loss s h p)
    unfolding loss answered
    refused-call n e = rw e (refused-leaves (suc n) s h)
