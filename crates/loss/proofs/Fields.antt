-- What either path makes, field by field.
use mathlib.Core.Path.{◌≡◌, refl}
use mathlib.Core.Bool.{Bool, cond, true, false}
use mathlib.Core.List.{List}
use lib.Ieee.{Float}
use Rattle.history.specs.History.{tails}
use Rattle.settings.specs.Settings.{stereo}
use Rattle.state.specs.State.{core, noisy, searches}
use Rattle.state.specs.declared.State.{State}
use Rattle.state.proofs.Keep.{noise_searches}
use Rattle.pitch_lag.specs.Lag.{lag_of}
use Rattle.pitch_predictor.specs.Predictor.{fitted_to}
use Rattle.loss.specs.Loss.{noise_made, pitch_made, made}

module _ (s : State) (h : List Float) where
  -- 1 the pitch path, 2 the noise path
  pub made-kind : (made s h).kind ≡ cond (noisy (core s)) 2 1
  unfolding made noise_made pitch_made
  made-kind = go (noisy (core s))
    where
      go : (b : Bool) → (cond b (noise_made s) (pitch_made s h)).kind ≡ cond b 2 1
      go true = refl
      go false = refl

  -- a pitch loss draws nothing and lowers no energy
  pub made_undrawn : noisy (core s) ≡ false → ((made s h).seed ≡ s.seed) × ((made s h).coarse ≡ s.coarse)
  unfolding made pitch_made
  made_undrawn e = rw e (refl, refl)

  pitch_lag : (pitch_made s h).lag ≡ cond (searches s) (lag_of (stereo s.settings) h) s.lag
  unfolding pitch_made
  pitch_lag = refl

  -- lag and predictor: worked out where a pitch loss is the first, else carried
  pub made_lag : (made s h).lag ≡ cond (searches s) (lag_of (stereo s.settings) h) s.lag
  unfolding made noise_made
  made_lag = go (noisy (core s)) refl
    where
      go : (b : Bool) → noisy (core s) ≡ b → (cond b (noise_made s) (pitch_made s h)).lag ≡ cond (searches s) (lag_of (stereo s.settings) h) s.lag
      go true e = rw (noise_searches s e)
      go false e = pitch_lag

  pub made_predictor : (made s h).predictor ≡ cond (searches s) (fitted_to (stereo s.settings) s.predictor (tails h)) s.predictor
  unfolding made noise_made pitch_made
  made_predictor = go (noisy (core s)) refl
    where
      go : (b : Bool) → noisy (core s) ≡ b
          → (cond b (noise_made s) (pitch_made s h)).predictor ≡ cond (searches s) (fitted_to (stereo s.settings) s.predictor (tails h)) s.predictor
      go true e = rw (noise_searches s e)
      go false e = refl
