-- Runs of calls, and the limits on what they can depend on.
use Rattle.std.specs.Prelude.{◌≡◌, cond, ◌&&◌, List, [], ◌∷◌, ℕ, ◌+◌, ◌*◌, ◌≤◌, eqb, Float}
use Rattle.draw.specs.Draw.{draws}
use Rattle.history.specs.History.{tails, newest}
use Rattle.settings.specs.Settings.{frame, stereo, draws_per_loss}
use Rattle.state.specs.State.{core, noisy}
use Rattle.state.specs.Refusal.{AcceptedState}
use Rattle.settings.specs.declared.Settings.{Settings}
use Rattle.state.specs.declared.State.{State}
use Rattle.loss.specs.Loss.{Outcome, loss}

-- a call to conceal a frame: the length of the PCM buffer that it is lent
pub record Call : Type 0 where
  pub pcm : ℕ

unfoldable pub called : Call → State → List Float → Outcome
called c s h = loss s h c.pcm

-- the outcomes of a run: each call takes what the one before left
unfoldable pub run : List Call → State → List Float → List Outcome
run [] s h = []
run (c ∷ cs) s h = called c s h ∷ run cs (called c s h).state (called c s h).history

-- the state that a run from s leaves
unfoldable pub last_state : State → List Outcome → State
last_state s [] = s
last_state s (o ∷ os) = last_state o.state os

-- the history that a run from h leaves
unfoldable pub last_history : List Float → List Outcome → List Float
last_history h [] = h
last_history h (o ∷ os) = last_history o.history os

-- 1 where a call that took s and gave o was an accepted noise loss, else 0
unfoldable pub noise_count : State → Outcome → ℕ
noise_count s o = cond (eqb o.report.number 0 && noisy (core s)) 1 0

-- the noise losses of a run from s
unfoldable pub noise_losses : State → List Outcome → ℕ
noise_losses s [] = 0
noise_losses s (o ∷ os) = noise_count s o + noise_losses o.state os

-- R at each call of two runs, from s and from r: n is the first run's noise losses before that call, and s and r the states that it takes
abbrev pub EachCall : (ℕ → State → State → Outcome → Outcome → Type 0) → ℕ → State → State → List Outcome → List Outcome → Type 0
EachCall R n s r [] [] = Unit {0}
EachCall R n s r [] (p ∷ ps) = ⊥
EachCall R n s r (o ∷ os) [] = ⊥
EachCall R n s r (o ∷ os) (p ∷ ps) = R n s r o p × EachCall R (n + noise_count s o) o.state p.state os ps

-- equal report and PCM, and equal state but for each channel's oldest 1,024 history samples
pub record SameButOldest (n : ℕ) (s r : State) (o p : Outcome) : Type 0 where
  pub report : o.report ≡ p.report
  pub pcm : o.pcm ≡ p.pcm
  pub state : o.state ≡ p.state
  pub tails : tails o.history ≡ tails p.history

-- the samples ahead of de-emphasis
abbrev pub ahead : Settings → List Float → List (List Float)
ahead k h = newest (stereo k) (frame k) h

-- equal number, by the same path, and at each accepted call from the run's second noise loss on equal samples ahead of de-emphasis
pub record SameAhead (n : ℕ) (s r : State) (o p : Outcome) : Type 0 where
  pub number : o.report.number ≡ p.report.number
  pub path : noisy (core s) ≡ noisy (core r)
  pub ahead : o.report.number ≡ 0 → 2 ≤ n + noise_count s o → ahead s.settings o.history ≡ ahead s.settings p.history

-- what a run of these calls can depend on
pub record Limited (calls : List Call) : Type 0 where
  -- from one state with two histories that differ only in each channel's oldest 1,024, unless its first loss searches
  pub a : (s : State) (h g : List Float) → AcceptedState s h → AcceptedState s g
      → ¬ ((s.loss_count ≡ 0) × (s.settings.start ≡ 0)) → tails h ≡ tails g
      → EachCall SameButOldest 0 s s (run calls s h) (run calls s g)
  -- from two states that agree in settings, loss count, seed and energies
  pub b : (s r : State) (h g : List Float) → AcceptedState s h → AcceptedState r g → core s ≡ core r
      → EachCall SameAhead 0 s r (run calls s h) (run calls r g)
  -- the seed at the end
  pub c : (s : State) (h : List Float) → AcceptedState s h
      → (last_state s (run calls s h)).seed ≡ draws (noise_losses s (run calls s h) * draws_per_loss s.settings) s.seed
