-- What is read off a state.
use Rattle.std.specs.Prelude.{Bool, not, ◌||◌, ◌&&◌, List, ℕ, leb, eqb, Float}
use Rattle.settings.specs.declared.Settings.{Settings}
use Rattle.state.specs.declared.State.{State}

-- settings, loss count, seed and energies: all that the noise path reads of a state
pub record Core : Type 0 where
  pub settings : Settings
  pub count : ℕ
  pub seed : ℕ
  pub coarse : List Float
  pub background : List Float

abbrev pub core : State → Core
core s = record { settings = s.settings; count = s.loss_count; seed = s.seed; coarse = s.coarse; background = s.background }

-- a noise loss: loss count 5 or more, or a start other than 0. Any other is a pitch loss
unfoldable pub noisy : Core → Bool
noisy c = leb 5 c.count || not (eqb c.settings.start 0)

-- the pitch loss that searches the lag and fits the predictor
unfoldable pub searches : State → Bool
searches s = eqb s.loss_count 0 && eqb s.settings.start 0
