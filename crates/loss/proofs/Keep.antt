-- What an accepted loss keeps.
use mathlib.Core.Path.{◌≡◌, refl}
use mathlib.Core.Bool.{Bool, cond, true, false, ◌&&◌}
use mathlib.Core.List.{List}
use Prim.Native.Nat.{◌+◌, ◌≤◌}
use native.Mathlib.Omega.{arith}
use lib.ListN.{length}
use lib.Dec.{eqb}
use lib.Ieee.{Float}
use borrow.Author.Tests.{eqb-false}
use Rattle.loops.specs.Logic.{cond_either}
use Rattle.history.specs.History.{whole, tails}
use Rattle.history.proofs.Parts.{Sized, tails-sized, with-length, tails-with}
use Rattle.settings.specs.Settings.{frame, stereo}
use Rattle.state.specs.State.{core, noisy, searches}
use Rattle.state.specs.Refusal.{lag_least, lag_most, check_lag}
use Rattle.state.specs.declared.State.{State}
use Rattle.settings.proofs.Passed.{frame-high}
use Rattle.state.proofs.Keep.{Ok, lag_range, range_lag}
use Rattle.pitch_lag.specs.Lag.{lag_of}
use Rattle.pitch_loss.proofs.Tails.{pitches_sized}
use Rattle.loss.specs.Loss.{blocks, made, tails_by_noise, tails_by_pitch, tails_after, history_after, finish, concealed}
use Rattle.finish.specs.declared.Made.{Made}
use Rattle.loss.proofs.Fields.{made_lag}
use Rattle.loss.proofs.Lags.{lag_low, lag_high}
use Rattle.loss.proofs.Laws.{noises_sized}

module _ (s : State) (h : List Float) (o : Ok s h) where
  pub after-sized : (m : Made) → Sized (tails_after s m (tails h))
  unfolding tails_after tails_by_noise tails_by_pitch blocks
  after-sized m =
      let z = tails-sized h o.history in
      cond_either Sized (noisy (core s)) _ _
      (noises_sized s.settings o.settings (stereo s.settings) _ _ (tails h) z)
      (pitches_sized (stereo s.settings) (frame s.settings) m.lag _ m.predictor s.filter (tails h) (frame-high s.settings o.settings) z)

  -- the tails after it are those that it made
  pub after-tails : tails (history_after s h) ≡ tails_after s (made s h) (tails h)
  unfolding history_after
  after-tails = tails-with h (tails_after s (made s h) (tails h)) o.history (after-sized (made s h))

  pub after-length : length (history_after s h) ≡ whole
  unfolding history_after
  after-length = with-length h (tails_after s (made s h) (tails h)) o.history (after-sized (made s h))

  lag_after : check_lag s.settings.start (s.loss_count + 1) (made s h).lag ≡ 0
  unfolding searches
  lag_after =
      range_lag s.settings.start (s.loss_count + 1) (made s h).lag
      (λ z l m. go z m (eqb s.loss_count 0) (eqb s.settings.start 0) refl refl (made_lag s h))
    where
      go : s.settings.start ≡ 0 → s.loss_count + 1 ≤ 4 → (a b : Bool) → eqb s.loss_count 0 ≡ a → eqb s.settings.start 0 ≡ b
          → (made s h).lag ≡ cond (a && b) (lag_of (stereo s.settings) h) s.lag → (lag_least ≤ (made s h).lag) × ((made s h).lag ≤ lag_most)
      go z m true true p q e = (omega (arith, lag_low (stereo s.settings) h), omega (arith, lag_high (stereo s.settings) h))
      go z m true false p q e = absurd (eqb-false s.settings.start 0 q z)
      go z m false b p q e =
          let w = lag_range s.settings.start s.loss_count s.lag o.lag z (omega (arith, eqb-false s.loss_count 0 p)) (omega arith) in
          (omega arith, omega arith)

  pub ok-after : Ok (concealed s h).state (concealed s h).history
  unfolding concealed finish
  ok-after = record { settings = o.settings; lag = lag_after; filter = o.filter; history = after-length }
