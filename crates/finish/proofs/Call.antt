-- What the end of a call is known to do.
use mathlib.Core.Path.{◌≡◌, refl}
use mathlib.Core.List.{List}
use Prim.Native.Nat.{ℕ}
use lib.Ieee.{Float}
use Rattle.settings.specs.Settings.{check_settings}
use Rattle.settings.proofs.Passed.{needed-is}
use Rattle.state.specs.declared.State.{State}
use Rattle.finish.specs.Finish.{frame_sound, finish, refused}
use Rattle.finish.specs.Call.{Refused, Concluded}
use Rattle.finish.specs.declared.Made.{Made}

pub refused-leaves : (n : ℕ) (s : State) (h : List Float) → Refused n s h (refused n s h)
unfolding refused
refused-leaves n s h = record { number = refl; kind = refl; samples = refl; pcm = refl; state = refl; history = refl }

pub finish_concludes : (s : State) (m : Made) (h : List Float) → check_settings s.settings ≡ 0 → Concluded s m h (finish s m h)
unfolding finish frame_sound
finish_concludes s m h good = record {
  number = refl;
  kind = refl;
  samples = needed-is s.settings good;
  heard = refl;
  count = refl;
  settings = refl;
  filter = refl;
  background = refl;
  seed = refl;
  lag = refl;
  coarse = refl;
  predictor = refl;
  history = refl;
}
