-- One loss on a caller's own memory: the state as its 161 words, the history, the PCM buffer and the answer's three words.
use Rattle.std.specs.Prelude.{cond, List, ℕ, length, eqb, Float}
use Rattle.state.specs.Answer.{answer_words}
use Rattle.loss.specs.Loss.{Outcome, loss, in_buffer}
use Rattle.state_words.specs.Words.{state_in, state_words}

-- what a call returns and leaves of what it was lent
pub record Called : Type 0 where
  pub number : ℕ
  pub answer : List ℕ
  pub state : List ℕ
  pub pcm : List Float
  pub history : List Float

-- an outcome, the words before it being ws: those of a refused state stay as they are
unfoldable pub called_with : List ℕ → Outcome → Called
called_with ws o = record {
  number = o.report.number;
  answer = answer_words o.report;
  state = cond (eqb o.report.number 0) (state_words o.state) ws;
  pcm = o.pcm;
  history = o.history;
}

unfoldable pub loss_in : List ℕ → List Float → List Float → Called
loss_in ws history pcm = called_with ws (in_buffer pcm (loss (state_in ws) history (length pcm)))

-- the same as a caller finds it
abbrev pub called : ℕ → List ℕ → List ℕ → List Float → List Float → Called
called number answer state pcm history = record { number = number; answer = answer; state = state; pcm = pcm; history = history }
