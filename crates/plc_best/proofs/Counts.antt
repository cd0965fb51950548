-- A count beside the correlations: it says no more than the first so many of them.
use mathlib.Core.Path.{◌≡◌, refl, ap}
use mathlib.Core.List.{List}
use Prim.Native.Nat.{ℕ, ◌≤◌}
use native.Mathlib.Omega.{arith}
use lib.Ieee.{Float, nan}
use lib.ListN.{length, take}
use lib.Seq.{get_or-take, length-take-le}
use borrow.Author.Tests.{le-leb}
use Rattle.loops.specs.Fold.{fold_same}
use Rattle.plc_best.specs.Best.{Sweep, sweep_to, sweep_turn, considered, next_energy, find_best_pitch, best_pitches}
use Rattle.plc_best.proofs.Turn.{sweep}

-- the sweep reads the first n alone
pub first-swept : (xcorr y : List Float) (len n : ℕ) → find_best_pitch (take n xcorr) y len n ≡ find_best_pitch xcorr y len n
unfolding find_best_pitch sweep_to sweep_turn
first-swept xcorr y len n =
    ap (λ (s : Sweep). s.best)
    (fold_same (sweep_turn (take n xcorr) y len) (sweep_turn xcorr y len) _ n
    (λ s i h. ap (λ x. sweep (considered s.best x s.syy i) (next_energy y len s.syy i)) (get_or-take n xcorr i nan h)))

-- the first n with the count n are the row with the count n
pub first-so-many : (xcorr y : List Float) (len n : ℕ) → n ≤ length xcorr → best_pitches (take n xcorr) y len n ≡ best_pitches xcorr y len n
unfolding best_pitches
first-so-many xcorr y len n h =
    simp (le-leb n (length (take n xcorr)) (omega (arith, length-take-le n xcorr h)), le-leb n (length xcorr) h, first-swept xcorr y len n) refl
