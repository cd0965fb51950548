-- Both losses are equal, on every state, history and buffer.
use mathlib.Core.Path.{◌≡◌, refl, ap}
use mathlib.Core.Bool.{Bool, cond}
use mathlib.Core.List.{List}
use Prim.Native.Nat.{ℕ, zero, suc, ◌≤◌}
use native.Mathlib.Omega.{arith}
use lib.ListN.{length}
use lib.Ieee.{Float}
use Rattle.history.specs.History.{half, Tails, tails, with_tails}
use Rattle.history.proofs.Parts.{Sized, tails-sized}
use Rattle.post_filter.specs.declared.Filter.{Filter}
use Rattle.settings.specs.Settings.{frame, stereo}
use Rattle.state.specs.State.{core, noisy}
use Rattle.state.specs.Refusal.{refusal}
use Rattle.state.specs.declared.State.{State}
use Rattle.settings.proofs.Passed.{frame-high}
use Rattle.state.proofs.Keep.{Ok, ok-start}
use Rattle.pitch_loss.specs.PitchLoss.{pitch_tails}
use Rattle.finish.proofs.End.{accepted_state}
use Rattle.loss.specs.Loss.{made, tails_by_noise, tails_by_pitch, tails_after, history_after, finish, concealed, answered, loss}
use Rattle.forward.specs.Loss.{forward_tails, forward_by_pitch, forward_history, forward_answered, forward_loss}
use Rattle.forward.proofs.Unseen.{forward-hidden}

tails-hidden : (two : Bool) (n lag : ℕ) (first : Bool) (c : List Float) (f : Filter) (t : Tails) → Sized t → n ≤ half
    → forward_tails two n lag first c f t ≡ pitch_tails two n lag first c f t
unfolding forward_tails pitch_tails
tails-hidden two n lag first c f t z h =
    let one = forward-hidden n t.first z.first h f lag first _ in
    let other = forward-hidden n t.second z.second h f lag first _ in
    λ i. record { first = one i; second = cond two (other i) t.second }

history_hidden : (s : State) (h : List Float) → Ok s h → forward_history s h ≡ history_after s h
unfolding forward_history history_after tails_after forward_by_pitch tails_by_pitch
history_hidden s h o =
    ap (λ t. with_tails h (cond (noisy (core s)) (tails_by_noise s (tails h)) t))
    (tails-hidden (stereo s.settings) (frame s.settings) _ _ _ _ (tails h) (tails-sized h o.history) (omega (arith, frame-high s.settings o.settings)))

-- nothing of the forward filter shows, in any call
pub forward-same : (s : State) (h : List Float) (p : ℕ) → forward_loss s h p ≡ loss s h p
unfolding forward_loss loss forward_answered answered concealed
forward-same s h p = go (refusal s (length h) p) (λ e. ok-start s h (accepted_state s _ _ e))
  where
    go : (n : ℕ) → (n ≡ 0 → Ok s h) → forward_answered n s h ≡ answered n s h
    go zero f = ap (finish s (made s h)) (history_hidden s h (f refl))
    go (suc n) f = refl
