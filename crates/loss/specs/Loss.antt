-- One loss: a call to conceal a frame, lent a history and a PCM buffer.
use Rattle.std.specs.Prelude.{cond, List, ℕ, zero, suc, length, eqb, Float}
use Rattle.history.specs.History.{Tails, tails, with_tails}
use Rattle.settings.specs.Settings.{frame, stereo}
use Rattle.state.specs.State.{Core, core, noisy, searches}
use Rattle.state.specs.Refusal.{refusal}
use Rattle.state.specs.declared.State.{State}
use Rattle.state.specs.Answer.{kind_of}
use Rattle.state.specs.declared.Kind.TheVariants.{Pitch, Noise}
use Rattle.pitch_lag.specs.Lag.{lag_of}
use Rattle.pitch_predictor.specs.Predictor.{fitted_to}
use Rattle.pitch_loss.specs.PitchLoss.{pitch_tails}
use Rattle.noise_energies.specs.Energies.{lower_energies, read_energies}
use Rattle.noise_loss.specs.Loss.{Blocks, noise_blocks, noise_seed, noise_tails}
use Rattle.finish.specs.declared.Made.{Made}
pub use Rattle.finish.specs.Finish.{Outcome, finish_with, state_after, outcome_of, written}
unfoldable pub use Rattle.finish.specs.Finish.{frame_sound, finish, refused, in_buffer, sound_in}

-- ---- the noise path: all of it but the old overlaps' part is a function of the core

-- the coarse energies after it
unfoldable pub lowered : Core → List Float
lowered c = lower_energies c.settings.channels c.settings.start c.settings.end c.count c.coarse

-- the used channels' blocks, by the energies that it reads
unfoldable pub blocks : Core → Blocks
blocks c = noise_blocks c.settings c.seed (read_energies c.count (lowered c) c.background)

unfoldable pub noise_made : State → Made
noise_made s = record {
  kind = kind_of Noise;
  seed = noise_seed (stereo s.settings) (blocks (core s));
  lag = s.lag;
  coarse = lowered (core s);
  predictor = s.predictor;
}

-- ---- the pitch path: its first loss searches the whole history, and every later one reads the tails alone

unfoldable pub pitch_made : State → List Float → Made
pitch_made s h = record {
  kind = kind_of Pitch;
  seed = s.seed;
  lag = cond (searches s) (lag_of (stereo s.settings) h) s.lag;
  coarse = s.coarse;
  predictor = cond (searches s) (fitted_to (stereo s.settings) s.predictor (tails h)) s.predictor;
}

-- ---- either path

unfoldable pub made : State → List Float → Made
made s h = cond (noisy (core s)) (noise_made s) (pitch_made s h)

-- the tails that it leaves
unfoldable pub tails_by_noise : State → Tails → Tails
tails_by_noise s t = noise_tails (stereo s.settings) (frame s.settings) (blocks (core s)) t

unfoldable pub tails_by_pitch : State → Made → Tails → Tails
tails_by_pitch s m t = pitch_tails (stereo s.settings) (frame s.settings) m.lag (eqb s.loss_count 0) m.predictor s.filter t

unfoldable pub tails_after : State → Made → Tails → Tails
tails_after s m t = cond (noisy (core s)) (tails_by_noise s t) (tails_by_pitch s m t)

unfoldable pub history_after : State → List Float → List Float
history_after s h = with_tails h (tails_after s (made s h) (tails h))

-- ---- the whole call

-- an accepted loss
unfoldable pub concealed : State → List Float → Outcome
concealed s h = finish s (made s h) (history_after s h)

-- by the number
unfoldable pub answered : ℕ → State → List Float → Outcome
answered zero s h = concealed s h
answered (suc n) s h = refused (suc n) s h

-- one call, lent a PCM buffer of p samples
unfoldable pub loss : State → List Float → ℕ → Outcome
loss s h p = answered (refusal s (length h) p) s h
