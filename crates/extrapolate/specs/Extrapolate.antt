-- The newest 1,024 samples continued: excitation, repeated cycle, fade, all-pole filter, guard.
use Rattle.std.specs.Prelude.{◌≡◌, ℕ, ◌-◌, Bool, cond, ◌&&◌, List, map, get_or, length, eqb, leb, Float}
use Rattle.std.proofs.Common.{◌∙◌, arith}
use Rattle.std.proofs.lemmas.List.{length-map}
use Rattle.std.proofs.lemmas.Bool.Decides.{nat_tests}
use Rattle.std.specs.Float.{nan, binary32}
use Rattle.std.specs.Float.Ieee.{of_bits}
use Rattle.loops.specs.Front.{tab}
use Rattle.buffers.specs.Buffers.{one32, times}
use Rattle.history.specs.History.{half}
use Rattle.plc_fir.specs.Fir.{celt_fir}
use Rattle.plc_iir.specs.Iir.{celt_iir, length-celt_iir}
use Rattle.periodic_copy.specs.Copy.{copied_energy, cycle_takes}
use Rattle.excitation.specs.Cycle.{repeated_cycle, length-repeated_cycle}
use Rattle.energy_guard.specs.Guard.{guarded, length-guarded}
pub use Rattle.plc_pad.specs.Pad.{order}

-- the newest 24, the most recent first
unfoldable pub recent : List Float → List Float
recent newest = tab (λ (j : ℕ). get_or newest (half - 1 - j) nan) order

-- the samples less what the predictor foresees; the filter's memory is the newest end, as the Rust has it
unfoldable pub excitation : List Float → List Float → List Float
excitation c newest = celt_fir c (recent newest) newest

-- 1 at the first loss, then 0.8
unfoldable pub fade : Bool → Float
fade first = cond first one32 (of_bits binary32 0x3f4c_cccd)

-- the input of the all-pole filter: m samples
unfoldable pub faded_cycle : ℕ → List Float → ℕ → Bool → List Float
faded_cycle m exc lag first = map (times (fade first)) (repeated_cycle m exc lag)

pub length-faded_cycle : (m : ℕ) (exc : List Float) (lag : ℕ) (first : Bool) → length (faded_cycle m exc lag first) ≡ m
unfolding faded_cycle
length-faded_cycle m exc lag first = length-map (repeated_cycle m exc lag) _ ∙ length-repeated_cycle m exc lag

-- m samples after the newest
unfoldable pub extrapolated : ℕ → List Float → ℕ → Bool → List Float → List Float
extrapolated m newest lag first c =
    guarded (copied_energy newest lag m) (celt_iir c (recent newest) (faded_cycle m (excitation c newest) lag first))

pub length-extrapolated : (m : ℕ) (newest : List Float) (lag : ℕ) (first : Bool) (c : List Float) → length (extrapolated m newest lag first c) ≡ m
unfolding extrapolated
length-extrapolated m newest lag first c =
    length-guarded _ _ ∙ length-celt_iir c (recent newest) (faded_cycle m (excitation c newest) lag first) ∙ length-faded_cycle m (excitation c newest) lag first

-- the longest frame and twice the overlap
abbrev pub longest : ℕ
longest = 1200

-- how many samples are made, from how many, by which lag
unfoldable pub extrapolate_takes : ℕ → ℕ → ℕ → Bool
extrapolate_takes m n lag = leb m longest && cycle_takes n lag

-- both channels, as many samples of either, each by its lag
unfoldable pub extrapolate_pair_takes : ℕ → ℕ → ℕ → ℕ → ℕ → ℕ → Bool
extrapolate_pair_takes m0 m1 n0 n1 lag0 lag1 = eqb m0 m1 && (extrapolate_takes m0 n0 lag0 && extrapolate_takes m1 n1 lag1)

-- by one lag: as one channel, and the other's lengths the same
pub pair-one-lag : (m0 m1 n0 n1 lag : ℕ) → extrapolate_pair_takes m0 m1 n0 n1 lag lag ≡ (eqb m0 m1 && (eqb n0 n1 && extrapolate_takes m0 n0 lag))
unfolding extrapolate_pair_takes extrapolate_takes cycle_takes
pair-one-lag m0 m1 n0 n1 lag = grind (arith, nat_tests)
