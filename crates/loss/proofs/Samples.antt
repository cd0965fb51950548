-- The samples that a call writes are as many as its report says: what its settings need, and none on a refusal.
use mathlib.Core.Path.{◌≡◌, refl, ap₂, sym, ◌∙◌}
use mathlib.Core.Bool.{Bool, true, false}
use mathlib.Core.List.{List, []}
use Prim.Native.Nat.{ℕ, zero, suc, ◌+◌, ◌*◌, ◌-◌, ◌/◌, ◌≤◌}
use native.Mathlib.Omega.{arith}
use lib.ListN.{length, get_or}
use lib.Seq.{slice, length-slice}
use lib.Dec.{eqb}
use lib.Ieee.{Float}
use borrow.Author.Tests.{eqb-true}
use Rattle.history.specs.History.{samples, channel, whole, both, newest}
use Rattle.settings.specs.Settings.{frame, stereo, check_settings, needed}
use Rattle.state.specs.Refusal.{refusal}
use Rattle.settings.specs.declared.Settings.{Settings}
use Rattle.state.specs.declared.State.{State}
use Rattle.settings.proofs.Passed.{one-channel, frame-high, needed-is, needed-most}
use Rattle.state.proofs.Keep.{Ok, ok-start}
use Rattle.finish.proofs.End.{accepted_state}
use Rattle.deemphasis.specs.Deemphasis.{length_pcm}
use Rattle.loss.specs.Loss.{history_after, frame_sound, finish, concealed, refused, answered, loss}
use Rattle.loss.proofs.Keep.{after-length}

module _ (k : Settings) (good : check_settings k ≡ 0) where
  pub frame-samples : (m h : List Float) → length h ≡ whole → length (frame_sound k m h).pcm ≡ needed k
  unfolding frame_sound newest stereo
  frame-samples m h l = length_pcm k.downsample _ m ∙ go (eqb k.channels 2) refl ∙ sym (needed-is k good)
    where
      size : length (slice (samples - frame k) samples h) ≡ frame k
      size = length-slice (samples - frame k) samples h (omega arith) ∙ omega (arith, frame-high k good)

      go : (b : Bool) → eqb k.channels 2 ≡ b
          → length (both b (slice (samples - frame k) samples h) (slice (channel + samples - frame k) (channel + samples) h))
          * (length (get_or (both b (slice (samples - frame k) samples h) (slice (channel + samples - frame k) (channel + samples) h)) 0 []) / k.downsample)
          ≡ k.channels * (frame k / k.downsample)
      go true e = ap₂ (λ c n. c * (n / k.downsample)) (sym (eqb-true k.channels 2 e)) size
      go false e = ap₂ (λ c n. c * (n / k.downsample)) (sym (one-channel k good e)) size

module _ (s : State) (h : List Float) where
  numbered : (m : ℕ) → (m ≡ 0 → Ok s h)
      → (length (answered m s h).pcm ≡ (answered m s h).report.samples) × ((answered m s h).report.samples ≤ 1920)
  unfolding answered concealed finish refused
  numbered zero f =
      let o = f refl in
      (frame-samples s.settings o.settings s.memories (history_after s h) (after-length s h o), needed-most s.settings o.settings)
  numbered (suc m) f = (refl, omega arith)

  pub loss-samples : (p : ℕ) → (length (loss s h p).pcm ≡ (loss s h p).report.samples) × ((loss s h p).report.samples ≤ 1920)
  unfolding loss
  loss-samples p = numbered (refusal s (length h) p) (λ e. ok-start s h (accepted_state s _ _ e))
