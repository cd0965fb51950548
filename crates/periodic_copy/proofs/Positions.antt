-- Every sample is read within the excitation; what a loop over the samples leaves.
use Rattle.std.specs.Prelude.{◌≡◌, refl, ℕ, zero, suc, ◌+◌, ◌-◌, ◌<◌, ◌≤◌, Bool, true, false, cond, eqb}
use Rattle.std.proofs.Common.{arith, List, length, get_or, ap, ◌∙◌, sym}
use Rattle.std.proofs.lemmas.Bool.{eqb-false}
use Rattle.std.specs.Float.{Float, nan, binary32}
use Rattle.std.specs.Float.Ieee.{add, mul}
use Rattle.loops.specs.Fold.{fold_to}
use Rattle.loops.specs.Front.{front, tab, tab-all}
use Rattle.loops.specs.Sum.{sum_to, sum_more}
use Rattle.buffers.specs.Buffers.{zero32, square_at}
use Rattle.history.specs.History.{half}
use Rattle.periodic_copy.specs.Copy.{stepped, position_at, decay_at, periodic_copy, copied_energy, cycle, cycle_takes}
use Rattle.std.proofs.lemmas.Bool.Decides.{nat_tests}

-- a step stays within the excitation
pub stepped-lt : (lag p : ℕ) → p < half → 0 < lag → stepped lag p < half
unfolding stepped
stepped-lt lag p h g = go (eqb (p + 1) half) refl
  where
    go : (b : Bool) → eqb (p + 1) half ≡ b → cond b (p + 1 - lag) (p + 1) < half
    go true e = omega arith
    go false e = omega (arith, eqb-false (p + 1) half e)

-- so every sample's position is one of 0 to 1,023
pub position_in : (lag i : ℕ) → 0 < lag → position_at lag i < half
unfolding position_at fold_to
position_in lag zero h = omega arith
position_in lag (suc i) h = stepped-lt lag (position_at lag i) (position_in lag i h) h

-- sample i of the copy, and its part of the energy
abbrev pub copy_at : List Float → ℕ → Float → ℕ → Float
copy_at exc lag d i = mul binary32 (decay_at lag d i) (get_or exc (position_at lag i) nan)

abbrev pub heard_at : List Float → ℕ → ℕ → Float
heard_at newest lag i = square_at newest (position_at lag i)

module _ (exc newest : List Float) (lag : ℕ) (decay : Float) (p i : ℕ) (d : Float) (e : p ≡ position_at lag i) (f : d ≡ decay_at lag decay i) where
  -- what is written
  pub copied_sample : mul binary32 d (get_or exc p nan) ≡ copy_at exc lag decay i
  copied_sample = λ k. mul binary32 (f k) (get_or exc (e k) nan)

  -- what is added
  pub heard_more : (s : Float) → s ≡ sum_to binary32 (heard_at newest lag) zero32 i
      → add binary32 s (square_at newest p) ≡ sum_to binary32 (heard_at newest lag) zero32 (i + 1)
  heard_more s h = ap (λ z. add binary32 s (square_at newest z)) e ∙ sum_more binary32 (heard_at newest lag) _ _ _ h

-- all samples, and all of the energy
pub whole_cycle : (exc newest e e₀ : List Float) (lag n : ℕ) (decay s : Float) → e ≡ front (tab (copy_at exc lag decay) n) e₀ n
    → s ≡ sum_to binary32 (heard_at newest lag) zero32 n → length e₀ ≡ n
    → cycle e s ≡ cycle (periodic_copy exc lag decay (length e₀)) (copied_energy newest lag (length e₀))
unfolding periodic_copy copied_energy
whole_cycle exc newest e e₀ lag n decay s p q l =
    let a : e ≡ tab (copy_at exc lag decay) (length e₀) = tab-all _ nan e₀ e n p l in
    let b : s ≡ sum_to binary32 (heard_at newest lag) zero32 (length e₀) = q ∙ ap (sum_to binary32 (heard_at newest lag) zero32) (sym l) in
    λ k. cycle (a k) (b k)

pub cycle-takes : (n lag : ℕ) → n ≡ half → 0 < lag → lag ≤ half → cycle_takes n lag ≡ true
unfolding cycle_takes
cycle-takes n lag p q r = grind (arith, nat_tests)
