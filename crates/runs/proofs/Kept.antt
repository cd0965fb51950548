-- The oldest samples stay, whatever the call; silence and NaN give lag 720 where a loss searches.
use mathlib.Core.Path.{◌≡◌, refl, ap, ◌∙◌}
use mathlib.Core.Bool.{Bool, true, false, cond}
use mathlib.Core.List.{List, [], ◌∷◌}
use Prim.Native.Nat.{ℕ, zero, suc, ◌+◌, ◌<◌}
use lib.ListN.{length, get_or}
use lib.Seq.{slice}
use lib.Ieee.{Float, nan}
use Rattle.history.specs.History.{samples, channel, tails, oldest}
use Rattle.history.proofs.Parts.{oldest-with}
use Rattle.lag_laws.specs.NoPitch.{SignedZero}
use Rattle.lag_laws.specs.FlatHistory.{silent_history, silent-pair, nan_history, nan-pair-first}
use Rattle.settings.specs.Settings.{stereo}
use Rattle.state.specs.State.{searches}
use Rattle.state.specs.Refusal.{refusal}
use Rattle.state.specs.declared.State.{State}
use Rattle.state.proofs.Keep.{Ok, ok-start}
use Rattle.pitch_lag.specs.Lag.{low_passed, lag_of}
use Rattle.finish.proofs.End.{accepted_state}
use Rattle.loss.specs.Loss.{made, tails_after, history_after, finish, concealed, refused, answered, loss}
use Rattle.loss.proofs.Fields.{made_lag}
use Rattle.loss.proofs.Keep.{after-sized}
use Rattle.runs.specs.Kept.{EachUsed}
use Rattle.runs.specs.Run.{Call, called, run, last_history}

-- each channel's oldest 1,024 samples are unaltered by any call, on both paths and by refusals
pub oldest-kept : (s : State) (h : List Float) (p : ℕ) → oldest (loss s h p).history ≡ oldest h
unfolding loss answered concealed refused finish history_after
oldest-kept s h p = go (refusal s (length h) p) (λ e. ok-start s h (accepted_state s _ _ e))
  where
    go : (n : ℕ) → (n ≡ 0 → Ok s h) → oldest (answered n s h).history ≡ oldest h
    go zero f = let o = f refl in oldest-with h (tails_after s (made s h) (tails h)) o.history (after-sized s h o (made s h))
    go (suc n) f = refl

-- so by any run
pub oldest-run : (calls : List Call) (s : State) (h : List Float) → oldest (last_history h (run calls s h)) ≡ oldest h
unfolding run last_history called
oldest-run [] s h = refl
oldest-run (c ∷ cs) s h = oldest-run cs _ _ ∙ oldest-kept s h c.pcm

-- ---- a history without a pitch, where a loss searches

module _ (s : State) (h : List Float) (o : Ok s h) (e : searches s ≡ true) where
  searched : (made s h).lag ≡ lag_of (stereo s.settings) h
  searched = made_lag s h ∙ ap (λ b. cond b (lag_of (stereo s.settings) h) s.lag) e

  pub silent_lag : EachUsed SignedZero s h → (made s h).lag ≡ 720
  unfolding lag_of low_passed
  silent_lag z = searched ∙ go (stereo s.settings) z.second
    where
      go : (two : Bool) → (two ≡ true → (i : ℕ) → i < samples → SignedZero (get_or (slice channel (channel + samples) h) i nan)) → lag_of two h ≡ 720
      go true f = silent-pair _ _ z.first (f refl)
      go false f = silent_history _ z.first

  pub nan_lag : EachUsed (λ v. v ≡ nan) s h → (made s h).lag ≡ 720
  unfolding lag_of low_passed
  nan_lag z = searched ∙ go (stereo s.settings)
    where
      go : (two : Bool) → lag_of two h ≡ 720
      go true = nan-pair-first _ _ z.first
      go false = nan_history _ z.first
