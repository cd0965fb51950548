-- The last cycle of the excitation repeated, the decay squared at each wrap.
use Rattle.std.specs.Prelude.{◌≡◌, ℕ, ◌+◌, ◌-◌, Bool, cond, ◌&&◌, List, get_or, length, eqb, leb, Float}
use Rattle.std.proofs.Common.{ap, ◌∙◌, sym}
use Rattle.std.specs.Float.{nan, binary32}
use Rattle.std.specs.Float.Ieee.{mul}
use Rattle.loops.specs.Fold.{fold_to, fold_more, fold-none}
use Rattle.loops.specs.Front.{tab, length-tab}
use Rattle.loops.specs.Sum.{sum_to}
use Rattle.buffers.specs.Buffers.{zero32, square_at}
use Rattle.history.specs.History.{half}

-- the position after p: where the excitation ends, one lag back
unfoldable pub stepped : ℕ → ℕ → ℕ
stepped lag p = cond (eqb (p + 1) half) (p + 1 - lag) (p + 1)

-- the decay after position p: squared where the position goes back
unfoldable pub decayed : ℕ → Float → Float
decayed p d = cond (eqb (p + 1) half) (mul binary32 d d) d

-- the position at sample i
unfoldable pub position_at : ℕ → ℕ → ℕ
position_at lag i = fold_to (λ (p k : ℕ). stepped lag p) (half - lag) i

-- the decay at sample i
unfoldable pub decay_at : ℕ → Float → ℕ → Float
decay_at lag d i = fold_to (λ (x : Float) (k : ℕ). decayed (position_at lag k) x) d i

-- at the first sample, and from one sample to the next
pub position-none : (lag : ℕ) → half - lag ≡ position_at lag 0
unfolding position_at
position-none lag = sym (fold-none _ _)

pub position-more : (lag p i : ℕ) → p ≡ position_at lag i → stepped lag p ≡ position_at lag (i + 1)
unfolding position_at
position-more lag p i e = fold_more (λ (p k : ℕ). stepped lag p) (half - lag) p i e

pub decay_none : (lag : ℕ) (d : Float) → d ≡ decay_at lag d 0
unfolding decay_at
decay_none lag d = sym (fold-none _ _)

pub decay_more : (lag : ℕ) (d x : Float) (p i : ℕ) → p ≡ position_at lag i → x ≡ decay_at lag d i → decayed p x ≡ decay_at lag d (i + 1)
unfolding decay_at
decay_more lag d x p i q e =
    ap (λ z. decayed z x) q ∙ fold_more (λ (x : Float) (k : ℕ). decayed (position_at lag k) x) d x i e

unfoldable pub periodic_copy : List Float → ℕ → Float → ℕ → List Float
periodic_copy exc lag d n = tab (λ (i : ℕ). mul binary32 (decay_at lag d i) (get_or exc (position_at lag i) nan)) n

-- s1: the energy of the samples at the copied positions
unfoldable pub copied_energy : List Float → ℕ → ℕ → Float
copied_energy newest lag n = sum_to binary32 (λ (i : ℕ). square_at newest (position_at lag i)) zero32 n

pub length-periodic_copy : (exc : List Float) (lag : ℕ) (d : Float) (n : ℕ) → length (periodic_copy exc lag d n) ≡ n
unfolding periodic_copy
length-periodic_copy exc lag d n = length-tab _ n

-- samples, and the energy of the history that they stand for
pub record Cycle : Type 0 where
  pub samples : List Float
  pub energy : Float

abbrev pub cycle : List Float → Float → Cycle
cycle x s = record { samples = x; energy = s }

-- how many samples are repeated from, by which lag
unfoldable pub cycle_takes : ℕ → ℕ → Bool
cycle_takes n lag = eqb n half && leb 1 lag && leb lag half
