-- What the steps of a call make together.
use Rattle.std.proofs.Common.{◌≡◌, refl, ap, ap₂, sym, ◌∙◌, true, false, List, length, Result, Err}
use Rattle.std.specs.Prelude.{Float}
use Rattle.history.specs.History.{tails, with_tails}
use Rattle.settings.specs.Number.{number_of}
use Rattle.settings.specs.declared.Refusal.{Refusal}
use Rattle.state.specs.State.{core, noisy}
use Rattle.state.specs.Refusal.{refusal}
use Rattle.state.specs.declared.State.{State}
use Rattle.state.specs.declared.Answer.{Answer}
use Rattle.finish.specs.declared.Made.{Made}
use Rattle.finish.specs.Finish.{finished}
use Rattle.finish.proofs.End.{finished_accepted, refused-as}
use Rattle.loss.specs.Loss.{noise_made, pitch_made, made, tails_by_noise, tails_by_pitch, tails_after, history_after}
use Rattle.loss.specs.Loss.{Outcome, outcome_of, finish, concealed, answered, loss, in_buffer}

module _ (s : State) (h : List Float) where
  -- what either path makes is what the loss makes
  pub noise_is : noisy (core s) ≡ true → (m : Made) (g : List Float) → m ≡ noise_made s → g ≡ with_tails h (tails_by_noise s (tails h))
      → (m ≡ made s h) × (g ≡ history_after s h)
  unfolding made history_after tails_after
  noise_is e m g p q = rw e (p, q)

  pub pitch_is : noisy (core s) ≡ false → (m : Made) (g : List Float) → m ≡ pitch_made s h
      → g ≡ with_tails h (tails_by_pitch s (pitch_made s h) (tails h)) → (m ≡ made s h) × (g ≡ history_after s h)
  unfolding made history_after tails_after
  pitch_is e m g p q = rw e (p, q)

  module _ (p : List Float) where
    -- o: what the finish leaves of what the path made, m and g
    pub accepted_left : (o : Outcome) (m : Made) (g : List Float) → o ≡ in_buffer p (finished s m g (length p)) → length g ≡ length h
        → refusal s (length h) (length p) ≡ 0 → m ≡ made s h → g ≡ history_after s h → o ≡ in_buffer p (loss s h (length p))
    unfolding loss answered concealed
    accepted_left o m g f l z a b =
        f ∙ ap (in_buffer p) (sym (finished_accepted s m g p (ap (λ n. refusal s n (length p)) l ∙ z)))
        ∙ ap (in_buffer p) (ap₂ (finish s) a b ∙ ap (λ n. answered n s h) (sym z))

    pub refused-left : (r : Result Answer Refusal) (e : Refusal) → r ≡ Err e → number_of e ≡ refusal s (length h) (length p)
        → outcome_of s r p h ≡ in_buffer p (loss s h (length p))
    unfolding loss answered
    refused-left r e = refused-as s h p (λ n. answered n s h) (λ n. refl) r e
