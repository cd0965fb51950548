-- A history without a pitch.
use Rattle.std.specs.Prelude.{◌≡◌, true, List, ℕ, ◌+◌, ◌<◌, get_or, Float}
use Rattle.std.proofs.Math.Seq.{slice}
use Rattle.std.specs.Float.{nan}
use Rattle.history.specs.History.{samples, channel}
use Rattle.settings.specs.Settings.{stereo}
use Rattle.state.specs.declared.State.{State}

-- P of every sample of the used channels, the overlaps left out
pub record EachUsed (P : Float → Type 0) (s : State) (h : List Float) : Type 0 where
  pub first : (i : ℕ) → i < samples → P (get_or (slice 0 samples h) i nan)
  pub second : stereo s.settings ≡ true → (i : ℕ) → i < samples → P (get_or (slice channel (channel + samples) h) i nan)
