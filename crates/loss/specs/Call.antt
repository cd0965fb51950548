-- What every call is known to do, in document 01's words.
use Rattle.std.specs.Prelude.{◌≡◌, cond, false, List, Float}
use Rattle.state.specs.State.{core, noisy, searches}
use Rattle.state.specs.declared.State.{State}
use Rattle.finish.specs.Call.{Concluded}
use Rattle.loss.specs.Loss.{Outcome, made, history_after}

-- an accepted call: its end, and what its path made
pub record Accepted (s : State) (h : List Float) (o : Outcome) : Type 0 where
  pub ended : Concluded s (made s h) (history_after s h) o
  -- 1 the pitch path, 2 the noise path
  pub kind : o.report.kind ≡ cond (noisy (core s)) 2 1
  -- a pitch loss draws nothing and lowers no energy
  pub undrawn : noisy (core s) ≡ false → (o.state.seed ≡ s.seed) × (o.state.coarse ≡ s.coarse)
  -- lag and predictor are carried, but for the first pitch loss
  pub carried : searches s ≡ false → (o.state.lag ≡ s.lag) × (o.state.predictor ≡ s.predictor)
