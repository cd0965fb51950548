-- What the end of a call is known to do, in document 01's words.
use Rattle.std.specs.Prelude.{◌≡◌, List, [], ℕ, ◌+◌, ◌*◌, ◌/◌, Float}
use Rattle.history.specs.History.{newest}
use Rattle.settings.specs.Settings.{frame, stereo}
use Rattle.state.specs.declared.State.{State}
use Rattle.deemphasis.specs.Deemphasis.{sound, deemphasis}
use Rattle.finish.specs.Finish.{Outcome}
use Rattle.finish.specs.declared.Made.{Made}

-- what was refused with the number n is as it was lent
pub record Refused (n : ℕ) (s : State) (h : List Float) (o : Outcome) : Type 0 where
  pub number : o.report.number ≡ n
  pub kind : o.report.kind ≡ 0
  pub samples : o.report.samples ≡ 0
  pub pcm : o.pcm ≡ []
  pub state : o.state ≡ s
  pub history : o.history ≡ h

-- what an accepted call answers and leaves, from what its path made and the history that it left
pub record Concluded (s : State) (m : Made) (h : List Float) (o : Outcome) : Type 0 where
  pub number : o.report.number ≡ 0
  pub kind : o.report.kind ≡ m.kind
  -- channels × N / downsample
  pub samples : o.report.samples ≡ s.settings.channels * (frame s.settings / s.settings.downsample)
  -- the PCM and the memories are de-emphasis of the newest N samples of each used channel, as the history then holds them
  pub heard : sound o.pcm o.state.memories ≡ deemphasis s.settings.downsample (newest (stereo s.settings) (frame s.settings) o.history) s.memories
  pub count : o.state.loss_count ≡ s.loss_count + 1
  pub settings : o.state.settings ≡ s.settings
  pub filter : o.state.filter ≡ s.filter
  pub background : o.state.background ≡ s.background
  pub seed : o.state.seed ≡ m.seed
  pub lag : o.state.lag ≡ m.lag
  pub coarse : o.state.coarse ≡ m.coarse
  pub predictor : o.state.predictor ≡ m.predictor
  pub history : o.history ≡ h
