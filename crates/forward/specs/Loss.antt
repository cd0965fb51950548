-- The whole loss with the forward filter: `loss` but for the tails that the pitch path leaves.
use Rattle.std.specs.Prelude.{Bool, cond, List, ℕ, zero, suc, length, take, drop, eqb, Float}
use Rattle.history.specs.History.{Tails, tails, with_tails}
use Rattle.post_filter.specs.declared.Filter.{Filter}
use Rattle.settings.specs.Settings.{frame, stereo}
use Rattle.state.specs.State.{core, noisy}
use Rattle.state.specs.Refusal.{refusal}
use Rattle.state.specs.declared.State.{State}
use Rattle.extrapolate.specs.Extrapolate.{order}
use Rattle.finish.specs.declared.Made.{Made}
use Rattle.loss.specs.Loss.{Outcome, made, tails_by_noise, finish, refused}
use Rattle.forward.specs.Forward.{forward_tail}

-- each used channel, of two or one, by its 24 of 48 coefficients
unfoldable pub forward_tails : Bool → ℕ → ℕ → Bool → List Float → Filter → Tails → Tails
forward_tails two n lag first c f t = record {
  first = forward_tail n t.first lag first (take order c) f;
  second = cond two (forward_tail n t.second lag first (drop order c) f) t.second;
}

unfoldable pub forward_by_pitch : State → Made → Tails → Tails
forward_by_pitch s m t = forward_tails (stereo s.settings) (frame s.settings) m.lag (eqb s.loss_count 0) m.predictor s.filter t

unfoldable pub forward_history : State → List Float → List Float
forward_history s h = with_tails h (cond (noisy (core s)) (tails_by_noise s (tails h)) (forward_by_pitch s (made s h) (tails h)))

unfoldable pub forward_answered : ℕ → State → List Float → Outcome
forward_answered zero s h = finish s (made s h) (forward_history s h)
forward_answered (suc n) s h = refused (suc n) s h

-- one call, lent a PCM buffer of p samples
unfoldable pub forward_loss : State → List Float → ℕ → Outcome
forward_loss s h p = forward_answered (refusal s (length h) p) s h
