-- Four pairs of sums side by side: their places in the pairs of cosines, and their sums, input by input.
use mathlib.Core.Path.{◌≡◌, ap, ap₂, ◌∙◌, sym}
use mathlib.Core.List.{List}
use mathlib.Core.Logic.{inl, inr}
use Prim.Native.Nat.{ℕ, ◌+◌, ◌*◌, ◌/◌, ◌%◌, ◌≤◌, ◌<◌}
use native.Mathlib.Omega.{arith}
use native.Mathlib.Nat.{mod-add-mod, mod-lt, mod-eq_of_lt, mul_comm, mul_assoc, div-add-mod', add-mul-mod_self_right}
use lib.ListN.{length, get_or}
use lib.Ieee.{Float, nan, binary64, of_bits, add, mul}
use Rattle.std.proofs.lemmas.Bool.{cases_lt}
use Rattle.loops.specs.Front.{tab, tab-same, get_or-tab}
use Rattle.loops.specs.Sum.{sum_to, sum_more}
use Rattle.cosine_circle.proofs.Sizes.{Size, even, at_least, at_most}
use Rattle.mdct.specs.Imdct.{imdct_term}
use Rattle.mdct.proofs.Angles.{place, place-less, place_none, place-more}
use Rattle.mdct.proofs.Lanes.{places}
use Rattle.cosine_pairs.specs.Pairs.{pair_at, pairs_of}
use Rattle.mdct_pairs.specs.Inputs.{input_at, inputs_of}
use Rattle.mdct_pairs.proofs.Steps.{near-term, far-term}

-- twice as far on a circle of twice as many places
twice-around : (p m : ℕ) → 0 < m → 2 * p % (2 * m) ≡ 2 * (p % m)
twice-around p m h =
    let q = p / m in
    let r = p % m in
    let turns : q * (2 * m) ≡ 2 * (q * m) = sym (mul_assoc q 2 m) ∙ ap (λ y. y * m) (mul_comm q 2) ∙ mul_assoc 2 q m in
    let split : 2 * p ≡ 2 * r + q * (2 * m) = omega (arith, div-add-mod' p m) in
    ap (λ y. y % (2 * m)) split ∙ add-mul-mod_self_right (2 * r) q (2 * m) ∙ mod-eq_of_lt (omega (arith, mod-lt p h))

-- how far lane j goes on, and the sum of output e over the inputs before k
abbrev pub step_of : ℕ → ℕ → ℕ → ℕ
step_of n t j = 2 * (t + j) + 1 + n

abbrev pub output_of : ℕ → ℕ → ℕ → ℕ
output_of n t e = t + e / 2 + e % 2 * n

abbrev pub sums : ℕ → List Float → ℕ → ℕ → ℕ → Float
sums n xs t k e = sum_to binary64 (imdct_term n xs (output_of n t e)) (of_bits binary64 0) k

module _ (n t : ℕ) (z : Size n) (room : 2 * t + 8 ≤ n) where
  some : 0 < n
  some = omega (arith, at_least n z)

  less : (j k : ℕ) → place n (t + j) k < 4 * n
  less j k = place-less n (t + j) k some

  step_less : (j : ℕ) → j < 4 → step_of n t j < 2 * n
  step_less j h = omega arith

  pub places-none : (at : List ℕ) → at ≡ tab (λ (j : ℕ). 2 * (t + j) + n) 4 → at ≡ tab (λ (j : ℕ). 2 * places n t 0 j) 4
  places-none at e =
      e
      ∙ tab-same _ _ 4
      (λ j h.
      let m : (t + j + n / 2) % (4 * n) ≡ t + j + n / 2 = mod-eq_of_lt (omega arith) in
      omega (arith, even n z, place_none n (t + j) (even n z)))

  step-on : (j k p : ℕ) → j < 4 → p % (4 * n) ≡ place n (t + j) k → (p + step_of n t j) % (4 * n) ≡ place n (t + j) (k + 1)
  step-on j k p h e =
      let s : step_of n t j % (4 * n) ≡ step_of n t j = mod-eq_of_lt (omega (arith, step_less j h)) in
      sym (mod-add-mod p (4 * n) (step_of n t j)) ∙ ap (λ y. (y + step_of n t j) % (4 * n)) e
      ∙ ap (λ y. (place n (t + j) k + y) % (4 * n)) (sym s) ∙ place-more n (t + j) k some

  -- lanes at places p of the pairs, each a place of the circle and a half and one of input k
  module _ (k : ℕ) (p : ℕ → ℕ) (at : List ℕ) (a : at ≡ tab (λ (j : ℕ). 2 * p j) 4) where
    at-is : (j : ℕ) → j < 4 → get_or at j 0 ≡ 2 * p j
    at-is j h = ap (λ y. get_or y j 0) a ∙ get_or-tab (λ (i : ℕ). 2 * p i) 4 j 0 h

    pub on-table : ((j : ℕ) → j < 4 → p j < 6 * n) → (j : ℕ) → j < 4 → get_or at j 0 + 2 ≤ 12 * n
    on-table b j h = omega (arith, at-is j h, b j h)

    pub before : (m : ℕ) → ((j : ℕ) → j < 4 → 2 * p j < m) → (j : ℕ) → j < 4 → get_or at j 0 < m
    before m b j h = omega (arith, at-is j h, b j h)

    pub moved : (s : ℕ) → s ≡ 2 * (2 * t + 1 + n) → (to : List ℕ) → to ≡ tab (λ (j : ℕ). get_or at j 0 + (s + 4 * j)) 4
        → to ≡ tab (λ (j : ℕ). 2 * (p j + step_of n t j)) 4
    moved s e to f = f ∙ tab-same _ _ 4 (λ j h. omega (arith, at-is j h))

    pub turned : (to : List ℕ) → to ≡ tab (λ (j : ℕ). get_or at j 0 % (8 * n)) 4 → ((j : ℕ) → j < 4 → p j % (4 * n) ≡ places n t k j)
        → to ≡ tab (λ (j : ℕ). 2 * places n t k j) 4
    turned to f e =
        f
        ∙ tab-same _ _ 4
        (λ j h.
        let w : 8 * n ≡ 2 * (4 * n) = omega arith in
        ap₂ ◌%◌ (at-is j h) w ∙ twice-around (p j) (4 * n) (omega (arith, some)) ∙ ap (λ y. 2 * y) (e j h))

    module _ (xs : List Float) (l : length xs ≡ n) (g : k < n) (b : (j : ℕ) → j < 4 → p j < 6 * n)
        (q : (j : ℕ) → j < 4 → p j % (4 * n) ≡ places n t k j) where
      term : (i e : ℕ) → i ≡ 2 * k → e < 8
          → mul binary64 (get_or (inputs_of xs) (i + e % 2) nan) (get_or (pairs_of n) (get_or at (e / 2) 0 + e % 2) nan)
          ≡ imdct_term n xs (output_of n t e) k
      unfolding inputs_of pairs_of
      term i e f h =
          let j = e / 2 in
          let jh : j < 4 = omega arith in
          let s : get_or (tab (input_at xs) (2 * length xs)) (i + e % 2) nan ≡ input_at xs (i + e % 2) =
          get_or-tab (input_at xs) (2 * length xs) (i + e % 2) nan (omega arith) in
          let r : get_or (tab (pair_at n) (12 * n)) (get_or at j 0 + e % 2) nan ≡ pair_at n (get_or at j 0 + e % 2) =
          get_or-tab (pair_at n) (12 * n) (get_or at j 0 + e % 2) nan (omega (arith, at-is j jh, b j jh)) in
          ap₂ (mul binary64) s r
          ∙ elim (cases_lt 0 (e % 2)) [
            | inr m ↦
                let u : e % 2 * n ≡ 0 * n = ap (λ y. y * n) (omega arith) in
                near-term n z (t + j) k (p j) (q j jh) xs _ _ (omega arith) (omega (arith, at-is j jh)) ∙ ap (λ y. imdct_term n xs y k) (omega arith)
            | inl m ↦
                let u : e % 2 * n ≡ 1 * n = ap (λ y. y * n) (omega arith) in
                far-term n z (t + j) k (p j) (q j jh) xs _ _ (omega arith) (omega (arith, at-is j jh)) ∙ ap (λ y. imdct_term n xs y k) (omega arith)
          ]

      pub sums-more : (i : ℕ) (inputs pairs acc to : List Float) → i ≡ 2 * k → inputs ≡ inputs_of xs → pairs ≡ pairs_of n
          → acc ≡ tab (sums n xs t k) 8
          → to
          ≡ tab (λ (e : ℕ). add binary64 (get_or acc e nan)
          (mul binary64 (get_or inputs (i + e % 2) nan) (get_or pairs (get_or at (e / 2) 0 + e % 2) nan))) 8
          → to ≡ tab (sums n xs t (k + 1)) 8
      sums-more i inputs pairs acc to f u v c d =
          d
          ∙ tab-same _ _ 8
          (λ e h.
          ap (add binary64 (get_or acc e nan))
          (ap₂ (λ (x y : List Float). mul binary64 (get_or x (i + e % 2) nan) (get_or y (get_or at (e / 2) 0 + e % 2) nan)) u v ∙ term i e f h)
          ∙ sum_more _ _ _ _ _ (ap (λ y. get_or y e nan) c ∙ get_or-tab (sums n xs t k) 8 e nan h))

  -- the places of a turn that starts at input k, before its first step, between the two, and after the second
  module _ (k : ℕ) where
    pub first_on : (j : ℕ) → j < 4 → places n t k j % (4 * n) ≡ places n t k j
    first_on j h = mod-eq_of_lt (less j k)

    pub second-on : (j : ℕ) → j < 4 → (places n t k j + step_of n t j) % (4 * n) ≡ places n t (k + 1) j
    second-on j h = step-on j k (places n t k j) h (first_on j h)

    pub third-on : (j : ℕ) → j < 4 → (places n t k j + step_of n t j + step_of n t j) % (4 * n) ≡ places n t (k + 1 + 1) j
    third-on j h = step-on j (k + 1) (places n t k j + step_of n t j) h (second-on j h)

    pub first-in : (j : ℕ) → j < 4 → places n t k j < 6 * n
    first-in j h = omega (arith, less j k)

    pub second-in : (j : ℕ) → j < 4 → places n t k j + step_of n t j < 6 * n
    second-in j h = omega (arith, less j k, step_less j h)

    pub first_small : (j : ℕ) → j < 4 → 2 * places n t k j < 16000
    first_small j h = omega (arith, less j k, at_most n z)

    pub second-small : (j : ℕ) → j < 4 → 2 * (places n t k j + step_of n t j) < 16000
    second-small j h = omega (arith, less j k, step_less j h, at_most n z)

    pub third-small : (j : ℕ) → j < 4 → 2 * (places n t k j + step_of n t j + step_of n t j) < 2 * (8 * n)
    third-small j h = omega (arith, less j k, step_less j h)
