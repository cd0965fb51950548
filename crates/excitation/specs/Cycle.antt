-- The last pitch cycle of the excitation, repeated with its decay.
use Rattle.std.specs.Prelude.{◌≡◌, ℕ, List, length, Float}
use Rattle.plc_fir.specs.Fir.{celt_fir}
use Rattle.periodic_copy.specs.Copy.{periodic_copy, copied_energy, length-periodic_copy, Cycle, cycle}
use Rattle.excitation.specs.Decay.{pitch_decay}

-- an excitation's cycle, m samples
unfoldable pub repeated_cycle : ℕ → List Float → ℕ → List Float
repeated_cycle m exc lag = periodic_copy exc lag (pitch_decay exc lag) m

pub length-repeated_cycle : (m : ℕ) (exc : List Float) (lag : ℕ) → length (repeated_cycle m exc lag) ≡ m
unfolding repeated_cycle
length-repeated_cycle m exc lag = length-periodic_copy exc lag _ m

-- m samples, by the coefficients c and the filter's memory
unfoldable pub pitch_cycle : ℕ → List Float → List Float → List Float → ℕ → Cycle
pitch_cycle m c mem newest lag = cycle (repeated_cycle m (celt_fir c mem newest) lag) (copied_energy newest lag m)
