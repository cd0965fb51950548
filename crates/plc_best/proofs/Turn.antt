-- One turn of the two-best tracker, as its loop's invariant asks for it.
use mathlib.Core.Path.{◌≡◌, ap, ◌∙◌, sym}
use mathlib.Core.List.{List}
use Prim.Native.Nat.{ℕ, ◌+◌, ◌-◌, ◌≤◌, ◌<◌}
use native.Mathlib.Omega.{arith}
use lib.Ieee.{Float, nan, binary32, mul}
use lib.ListN.{length, get_or, take, drop, length-drop}
use lib.Seq.{get_or-take, get_or-drop, length-take-le}
use Rattle.std.specs.List.{zip, enumerate_from}
use Rattle.std.proofs.lemmas.List.{get_or_default}
use Rattle.std.proofs.lemmas.List.FromFn.{get_or-enumerate_from, length-enumerate_from}
use Rattle.std.proofs.lemmas.Slice.Zip.{length-zip, get_or-zip}
use Rattle.loops.specs.Fold.{fold-suc, fold-none}
use Rattle.loops.specs.Sum.{sum_to, sum_same}
use Rattle.buffers.specs.Buffers.{one32, square_at, energy}
use Rattle.plc_best.specs.declared.Best.{Best}
use Rattle.plc_best.specs.Best.{Sweep, sweep_to, sweep_turn, considered, next_energy, first_energy, best_start}

abbrev pub sweep : Best → Float → Sweep
sweep b s = record { best = b; syy = s }

-- the energy of the first len samples
pub first-energy : (y : List Float) (len : ℕ) (s : Float) → s ≡ energy one32 (take len y) → len ≤ length y → s ≡ first_energy y len
unfolding first_energy energy
first-energy y len s e h =
    e ∙ ap (sum_to binary32 (square_at (take len y)) one32) (length-take-le len y h)
    ∙ sum_same binary32 (square_at (take len y)) (square_at y) one32 len (λ i l. ap (λ z. mul binary32 z z) (get_or-take len y i nan l))

-- the sweep's lists in step, each with its place: the correlations, the oldest samples and the newest
abbrev pub in_step : List Float → List Float → ℕ → List (ℕ × ((Float × Float) × Float))
in_step xcorr y len = enumerate_from 0 (zip (zip xcorr y) (take (length y - len) (drop len y)))

pub length-in_step : (xcorr y : List Float) (len : ℕ) → len + length xcorr ≤ length y → length (in_step xcorr y len) ≡ length xcorr
length-in_step xcorr y len h =
    let w = take (length y - len) (drop len y) in
    omega (
      arith,
      length-enumerate_from 0 (zip (zip xcorr y) w),
      length-zip (zip xcorr y) w,
      length-zip xcorr y,
      length-take-le (length y - len) (drop len y) (omega (arith, length-drop len y)),
      h,
    )

pub get_or-in_step : (xcorr y : List Float) (len i k : ℕ) (x oldest newest : Float) → len + length xcorr ≤ length y → k < length (in_step xcorr y len)
    → (i, ((x, oldest), newest)) ≡ get_or (in_step xcorr y len) k (i, ((x, oldest), newest))
    → (i ≡ k) × (x ≡ get_or xcorr k nan) × (oldest ≡ get_or y k nan) × (newest ≡ get_or y (k + len) nan)
get_or-in_step xcorr y len i k x oldest newest h l e =
    let w = take (length y - len) (drop len y) in
    let n : length w ≡ length y - len = length-take-le (length y - len) (drop len y) (omega (arith, length-drop len y)) in
    let g : k < length xcorr = omega (arith, l, length-in_step xcorr y len h) in
    let z = e ∙ get_or-enumerate_from 0 (zip (zip xcorr y) w) k (i, ((x, oldest), newest)) (omega (arith, l, length-enumerate_from 0 (zip (zip xcorr y) w))) in
    let p = ap (λ u. u.1) z ∙ get_or-zip (zip xcorr y) w k ((x, oldest), newest) (omega (arith, length-zip xcorr y)) (omega arith) in
    let q = ap (λ u. u.0) p ∙ get_or-zip xcorr y k (x, oldest) g (omega arith) in
    let s : len + k ≡ k + len = omega arith in (
      ap (λ u. u.0) z ∙ omega arith,
      ap (λ u. u.0) q ∙ get_or_default xcorr k x nan g,
      ap (λ u. u.1) q ∙ get_or_default y k oldest nan (omega arith),
      ap (λ u. u.1) p ∙ get_or_default w k newest nan (omega arith) ∙ get_or-take (length y - len) (drop len y) k nan (omega arith) ∙ get_or-drop len y k nan
          ∙ ap (λ m. get_or y m nan) s,
    )

module _ (xcorr y : List Float) (len : ℕ) where
  pub sweep-none : (s : Float) → s ≡ first_energy y len → sweep_to xcorr y len 0 ≡ sweep best_start s
  unfolding sweep_to
  sweep-none s e = fold-none _ _ ∙ ap (sweep best_start) (sym e)

  pub sweep-more : (i : ℕ) (b b' : Best) (s s' : Float) → sweep_to xcorr y len i ≡ sweep b s
      → b' ≡ considered b (get_or xcorr i nan) s i → s' ≡ next_energy y len s i → sweep_to xcorr y len (i + 1) ≡ sweep b' s'
  unfolding sweep_to sweep_turn
  sweep-more i b b' s s' e eb es =
      fold-suc _ _ i ∙ ap (λ z. sweep_turn xcorr y len z i) e ∙ ap (λ z. sweep z (next_energy y len s i)) (sym eb) ∙ ap (sweep b') (sym es)
