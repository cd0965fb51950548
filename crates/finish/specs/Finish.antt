-- The end of a call, whichever path it went: what it answers and leaves.
use Rattle.std.specs.Prelude.{List, [], ℕ, zero, suc, ◌+◌, length, Float, Result, Ok, Err}
use Rattle.settings.specs.Settings.{needed}
use Rattle.settings.specs.declared.Refusal.{Refusal}
use Rattle.state.specs.Refusal.{refusal}
use Rattle.state.specs.Answer.{Report, report_of}
use Rattle.state.specs.declared.State.{State}
use Rattle.state.specs.declared.Answer.{Answer}
use Rattle.deemphasis.specs.Deemphasis.{Sound}
pub use Rattle.frame_sound.specs.FrameSound.{written}
unfoldable pub use Rattle.frame_sound.specs.FrameSound.{frame_sound, sound_in}
use Rattle.finish.specs.declared.Made.{Made}

pub record Outcome : Type 0 where
  pub report : Report
  -- the samples written
  pub pcm : List Float
  pub state : State
  pub history : List Float

-- an accepted loss, from what its path made, the history that it left, its sound and its number of samples
abbrev pub finish_with : State → Made → List Float → Sound → ℕ → Outcome
finish_with s m h y n = record {
  report = record { number = 0; kind = m.kind; samples = n };
  pcm = y.pcm;
  state = record {
    settings = s.settings;
    loss_count = s.loss_count + 1;
    seed = m.seed;
    lag = m.lag;
    filter = s.filter;
    coarse = m.coarse;
    background = s.background;
    memories = y.memories;
    predictor = m.predictor;
  };
  history = h;
}

unfoldable pub finish : State → Made → List Float → Outcome
finish s m h = finish_with s m h (frame_sound s.settings s.memories h) (needed s.settings)

-- a refused one leaves all as it was
unfoldable pub refused : ℕ → State → List Float → Outcome
refused n s h = record { report = record { number = n; kind = 0; samples = 0 }; pcm = []; state = s; history = h }

-- by the number
unfoldable pub finished_by : ℕ → State → Made → List Float → Outcome
finished_by zero s m h = finish s m h
finished_by (suc n) s m h = refused (suc n) s h

-- lent a PCM buffer of p samples: refused as the whole call is
unfoldable pub finished : State → Made → List Float → ℕ → Outcome
finished s m h p = finished_by (refusal s (length h) p) s m h

-- ---- the same as a caller finds it: the answer, the PCM buffer and the history

-- the state after it: a refusal leaves the one that was lent
abbrev pub state_after : State → Result Answer Refusal → State
state_after s (Ok a) = a.state
state_after s (Err e) = s

abbrev pub outcome_of : State → Result Answer Refusal → List Float → List Float → Outcome
outcome_of s r pcm h = record { report = report_of r; pcm = pcm; state = state_after s r; history = h }

unfoldable pub in_buffer : List Float → Outcome → Outcome
in_buffer p o = record { report = o.report; pcm = written o.pcm p; state = o.state; history = o.history }
