-- What each path makes: its inner steps never refuse an accepted state.
use mathlib.Core.Path.{◌≡◌, refl, ap, ap₂, sym, ◌∙◌}
use mathlib.Core.Bool.{Bool, true, false, cond, ◌&&◌}
use mathlib.Core.List.{List}
use Prim.Native.Nat.{ℕ, ◌≤◌}
use native.Mathlib.Omega.{arith}
use lib.ListN.{length}
use lib.Dec.{eqb}
use lib.Ieee.{Float}
use borrow.Author.Tests.{le-leb, eq-eqb, eqb-false}
use Rattle.std.specs.Prelude.{Result, Ok}
use Rattle.reply.specs.declared.Refused.{Refused}
use Rattle.reply.specs.Reply.{reply, reply_if, ok_if, reply-lent}
use Rattle.history.specs.History.{whole, tails, with_tails}
use Rattle.settings.specs.Settings.{frame, stereo, check_settings}
use Rattle.state.specs.State.{core, noisy}
use Rattle.state.specs.Refusal.{lag_least, lag_most, AcceptedState}
use Rattle.state.specs.declared.State.{State}
use Rattle.state.specs.Answer.{kind_of}
use Rattle.state.specs.declared.Kind.TheVariants.{Pitch, Noise}
use Rattle.state.proofs.Keep.{ok-start, lag_range, pitch_start, pitch_count, pitch_searches}
use Rattle.pitch_lag.specs.Lag.{lag_of}
use Rattle.pitch_predictor.specs.Predictor.{fitted_to}
use Rattle.pitch_loss.specs.PitchLoss.{pitch_tails, pitch_takes}
use Rattle.noise_energies.specs.Energies.{lower_energies, read_energies}
use Rattle.noise_loss.specs.Loss.{Noised, noised, after_noise, noise_takes}
use Rattle.loss.specs.Loss.{lowered, blocks, noise_made, pitch_made, tails_by_noise, tails_by_pitch}
use Rattle.loss.proofs.Lags.{lag_low, lag_high}

-- a call that is lent nothing, where it takes what it was given
module _ {A : Type 0} (b : Bool) (x : A) {r : Result A Refused} (e : r ≡ ok_if b x) (q : b ≡ true) where
  pub ok_is : r ≡ Ok x
  unfolding ok_if
  ok_is = e ∙ ap (λ z. ok_if z x) q

  pub ok_value : {y : A} → r ≡ Ok y → y ≡ x
  ok_value f = let k = ok_is in cc

module _ (s : State) (h : List Float) (z : AcceptedState s h) where
  pub noise_taken : noise_takes s.settings (length h) ≡ true
  unfolding noise_takes
  noise_taken = let o = ok-start s h z in ap₂ ◌&&◌ (eq-eqb (check_settings s.settings) 0 o.settings) (eq-eqb (length h) whole o.history)

  module _ (coarse e g : List Float) (seed : ℕ) (t : Bool)
      (p : coarse ≡ lower_energies s.settings.channels s.settings.start s.settings.end s.loss_count s.coarse)
      (q : e ≡ read_energies s.loss_count coarse s.background)
      (r : reply t (noised g seed) ≡ reply_if (noise_takes s.settings (length h)) (after_noise s.settings s.seed e h) (noised h s.seed)) where
    drawn : noised g seed ≡ noised (with_tails h (tails_by_noise s (tails h))) (noise_made s).seed
    unfolding after_noise noise_made tails_by_noise blocks lowered
    drawn =
        reply-lent _ _ _ r noise_taken
        ∙ ap (λ x. after_noise s.settings s.seed x h) (q ∙ ap (λ x. read_energies s.loss_count x s.background) p)

    pub noise_path : (k n : ℕ) → k ≡ kind_of Noise → seed ≡ n → (record { kind = k; seed = n; lag = s.lag; coarse = coarse; predictor = s.predictor } ≡ noise_made s)
        × (g ≡ with_tails h (tails_by_noise s (tails h)))
    unfolding noise_made lowered
    noise_path k n w f = (
      (λ i. record { kind = w i; seed = (sym f ∙ ap (λ (x : Noised). x.seed) drawn) i; lag = s.lag; coarse = p i; predictor = s.predictor }),
      ap (λ (x : Noised). x.history) drawn,
    )

  module _ (e : noisy (core s) ≡ false) (lag : ℕ) (p : lag ≡ cond (eqb s.loss_count 0) (lag_of (stereo s.settings) h) s.lag) where
    in-range : (lag_least ≤ lag) × (lag ≤ lag_most)
    in-range = go (eqb s.loss_count 0) refl p
      where
        go : (b : Bool) → eqb s.loss_count 0 ≡ b → lag ≡ cond b (lag_of (stereo s.settings) h) s.lag → (lag_least ≤ lag) × (lag ≤ lag_most)
        go true a f = (omega (arith, lag_low (stereo s.settings) h), omega (arith, lag_high (stereo s.settings) h))
        go false a f =
            let w = lag_range s.settings.start s.loss_count s.lag (ok-start s h z).lag (pitch_start s e)
            (omega (arith, eqb-false s.loss_count 0 a)) (omega (arith, pitch_count s e)) in
            (omega arith, omega arith)

    pub pitch_taken : pitch_takes s.settings (length h) lag s.filter ≡ true
    unfolding pitch_takes
    pitch_taken =
        let o = ok-start s h z in
        simp (
          eq-eqb (check_settings s.settings) 0 o.settings,
          eq-eqb (length h) whole o.history,
          le-leb lag_least lag in-range.0,
          le-leb lag lag_most in-range.1,
          o.filter,
        )

    lag_is : lag ≡ (pitch_made s h).lag
    unfolding pitch_made
    lag_is = p ∙ ap (λ b. cond b (lag_of (stereo s.settings) h) s.lag) (sym (pitch_searches s e))

    module _ (predictor g : List Float) (t : Bool)
        (q : predictor ≡ cond (eqb s.loss_count 0) (fitted_to (stereo s.settings) s.predictor (tails h)) s.predictor)
        (r : reply t g ≡ reply_if (pitch_takes s.settings (length h) lag s.filter)
        (with_tails h (pitch_tails (stereo s.settings) (frame s.settings) lag (eqb s.loss_count 0) predictor s.filter (tails h))) h) where
      predictor_is : predictor ≡ (pitch_made s h).predictor
      unfolding pitch_made
      predictor_is = q ∙ ap (λ b. cond b (fitted_to (stereo s.settings) s.predictor (tails h)) s.predictor) (sym (pitch_searches s e))

      pub pitch_path : (k : ℕ) → k ≡ kind_of Pitch → (record { kind = k; seed = s.seed; lag = lag; coarse = s.coarse; predictor = predictor } ≡ pitch_made s h)
          × (g ≡ with_tails h (tails_by_pitch s (pitch_made s h) (tails h)))
      unfolding pitch_made tails_by_pitch
      pitch_path k w = (
        (λ i. record { kind = w i; seed = s.seed; lag = lag_is i; coarse = s.coarse; predictor = predictor_is i }),
        reply-lent _ _ _ r pitch_taken
            ∙ ap₂ (λ x y. with_tails h (pitch_tails (stereo s.settings) (frame s.settings) x (eqb s.loss_count 0) y s.filter (tails h))) lag_is predictor_is,
      )
