-- Eight outputs side by side: their places on the circle and their sums, input by input.
use mathlib.Core.Path.{◌≡◌, ap, ◌∙◌, sym, subst}
use mathlib.Core.Bool.{true}
use mathlib.Core.List.{List}
use Prim.Native.Nat.{ℕ, ◌+◌, ◌*◌, ◌/◌, ◌%◌, ◌≤◌, ◌<◌}
use native.Mathlib.Omega.{arith}
use native.Mathlib.Nat.{mod-lt}
use lib.ListN.{get_or, replicate}
use lib.Ieee.{Float, nan, binary64, of_bits, add, mul}
use Rattle.loops.specs.Front.{tab, tab-same, get_or-tab}
use Rattle.loops.specs.Sum.{sum_to, sum-none, sum_more}
use Rattle.mdct.specs.Imdct.{imdct_term}
use Rattle.cosine_circle.specs.Circle.{is_frame_size, IsCircle}
use Rattle.cosine_circle.proofs.Circles.{known}
use Rattle.cosine_circle.proofs.Sizes.{Size, even, at_least, at_most}
use Rattle.mdct.proofs.Angles.{place, place-less, place_none, place-more}
use Rattle.mdct.proofs.Fronts.{tab-const}
use Rattle.mdct.proofs.Terms.{term_is}

-- the next sum of output j, and its next place
abbrev pub termed : List Float → Float → List ℕ → List Float → ℕ → Float
termed circle v at acc j = add binary64 (get_or acc j nan) (mul binary64 v (get_or circle (get_or at j 0) nan))

abbrev pub moved : List ℕ → ℕ → List ℕ → ℕ → ℕ
moved step w at j = (get_or at j 0 + get_or step j 0) % w

-- the numbers that the first places and the steps are made of
module _ (n t : ℕ) (f : is_frame_size n ≡ true) (h : t < 1920) where
  pub step-along : (2 * t + 1 + n < 8000) × (2 ≤ 2) × (0 < 4 * n)
  step-along = omega (arith, known n f)

  pub first-along : (t + n / 2 < 8000) × (1 ≤ 2) × (0 < 4 * n)
  first-along = omega (arith, known n f)

-- where output t reads its cosine for input k, how far on the next one is, and its sum of the inputs before k, for eight outputs
abbrev pub places : ℕ → ℕ → ℕ → ℕ → ℕ
places n t k j = place n (t + j) k

abbrev pub steps : ℕ → ℕ → ℕ → ℕ
steps n t j = (2 * t + 1 + n + 2 * j) % (4 * n)

abbrev pub sums : ℕ → List Float → ℕ → ℕ → ℕ → Float
sums n x t k j = sum_to binary64 (imdct_term n x (t + j)) (of_bits binary64 0) k

module _ (n t : ℕ) (z : Size n) where
  above : 0 < n
  above = omega (arith, at_least n z)

  pub places-none : (at : List ℕ) → at ≡ tab (λ (j : ℕ). (t + n / 2 + 1 * j) % (4 * n)) 8 → at ≡ tab (places n t 0) 8
  places-none at e =
      e
      ∙ tab-same _ _ 8
      (λ j h.
      let f : t + n / 2 + 1 * j ≡ t + j + n / 2 = omega arith in
      ap (λ y. y % (4 * n)) f ∙ place_none n (t + j) (even n z))

  module _ (k : ℕ) (at : List ℕ) (a : at ≡ tab (places n t k) 8) where
    at-is : (j : ℕ) → j < 8 → get_or at j 0 ≡ place n (t + j) k
    at-is j h = ap (λ y. get_or y j 0) a ∙ get_or-tab (places n t k) 8 j 0 h

    at_less : (j : ℕ) → j < 8 → get_or at j 0 < 4 * n
    at_less j h = subst (λ y. y < 4 * n) (sym (at-is j h)) (place-less n (t + j) k above)

    pub places-on : (j : ℕ) → j < 8 → get_or at j 0 < 3840
    places-on j h = omega (arith, at_less j h, at_most n z)

    pub sums-more : (circle x acc : List Float) (v : Float) → IsCircle n circle → v ≡ get_or x k nan → acc ≡ tab (sums n x t k) 8
        → (acc' : List Float) → acc' ≡ tab (λ (j : ℕ). add binary64 (get_or acc j nan) (mul binary64 v (get_or circle (get_or at j 0) nan))) 8
        → acc' ≡ tab (sums n x t (k + 1)) 8
    sums-more circle x acc v r e f acc' g =
        g
        ∙ tab-same _ _ 8
        (λ j h.
        ap (add binary64 (get_or acc j nan)) (term_is n circle x (t + j) k (get_or at j 0) v z r e (at-is j h))
        ∙ sum_more _ _ _ _ _ (ap (λ y. get_or y j nan) f ∙ get_or-tab (sums n x t k) 8 j nan h))

    module _ (step : List ℕ) (s : step ≡ tab (steps n t) 8) where
      step_is : (j : ℕ) → j < 8 → get_or step j 0 ≡ (2 * (t + j) + 1 + n) % (4 * n)
      step_is j h =
          let f : 2 * t + 1 + n + 2 * j ≡ 2 * (t + j) + 1 + n = omega arith in
          ap (λ y. get_or y j 0) s ∙ get_or-tab (steps n t) 8 j 0 h ∙ ap (λ y. y % (4 * n)) f

      pub places-less : (j : ℕ) → j < 8 → (get_or at j 0 < 4 * n) × (get_or step j 0 < 4 * n)
      places-less j h =
          (at_less j h, subst (λ y. y < 4 * n) (sym (step_is j h)) (mod-lt (2 * (t + j) + 1 + n) (omega (arith, above))))

      pub places-more : (at' : List ℕ) → at' ≡ tab (λ (j : ℕ). (get_or at j 0 + get_or step j 0) % (4 * n)) 8 → at' ≡ tab (places n t (k + 1)) 8
      places-more at' e =
          e
          ∙ tab-same _ _ 8
          (λ j h.
          ap (λ y. (y + get_or step j 0) % (4 * n)) (at-is j h) ∙ ap (λ y. (place n (t + j) k + y) % (4 * n)) (step_is j h)
          ∙ place-more n (t + j) k above)

-- eight sums of nothing, whatever their terms
pub sums_none : (f : ℕ → ℕ → Float) → replicate 8 (of_bits binary64 0) ≡ tab (λ (j : ℕ). sum_to binary64 (f j) (of_bits binary64 0) 0) 8
sums_none f = tab-const _ (of_bits binary64 0) 8 (λ i h. sum-none _ _ _)
