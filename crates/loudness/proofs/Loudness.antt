-- Every drawn band with a value other than zero has unit energy but for 2 ^ -21 of it, and every other has none. Assumes nothing.
use mathlib.Core.Path.{◌≡◌, refl, sym, ap, ap₂, ◌∙◌, subst}
use mathlib.Core.Bool.{Bool, true, false, not}
use mathlib.Core.Logic.{◌⊎◌, inl, inr}
use mathlib.Core.List.{List, [], ◌∷◌}
use Prim.Native.Nat.{ℕ, zero, suc, ◌+◌, ◌*◌, ◌^◌, ◌≤◌, ◌<◌}
use native.Mathlib.Nat.{mul-le-mul}
use native.Mathlib.Omega.{arith}
use lib.IntN.{ℤ, pos, negsuc, nat_abs}
use lib.ListN.{length, get_or}
use lib.Pow.{pow_pos}
use lib.Signed.{non_neg, nat_abs-le}
use lib.Ieee.{Float, nan, binary32, binary64, of_int, of_bits, mul}
use lib.Ieee.Exact.{HasValue}
use Rattle.std.proofs.lemmas.Bool.{cases_lt}
use Rattle.loops.specs.Front.{tab, length-tab, get_or-tab, map-tab}
use Rattle.loops.specs.Sum.{sum_to, sum_same}
use Rattle.buffers.specs.Buffers.{one32, times}
use Rattle.float_bits.specs.Words.{noise_step, noise_value}
use Rattle.float_bits.specs.Noise.{noise_mag, noise_exact}
use Rattle.float_near.specs.Near.{Near}
use Rattle.draw.specs.Draw.{draws, draw-word}
use Rattle.draw.proofs.Draws.{draws-more}
use Rattle.draw.specs.Noise.{noise_at, noise_band, length-noise_band}
use Rattle.band_quant.specs.Renormalise.{square64_at, floor64, energy64, factor_of, renormalise_vector}
use Rattle.band_quant.specs.Zeros.{Zero, AllZero}
use Rattle.band_quant.proofs.Zeros.{zeros-stay}
use Rattle.noise_shape.specs.Shape.{band_noise}
use Rattle.loudness.specs.Energy.{count, Counted, energy, one, UnitEnergy, NoEnergy}
use Rattle.loudness.specs.Loudness.{widest, asked, reached, Heard, Loudness}
use Rattle.loudness.proofs.Numbers.{sums-to}
use Rattle.loudness.proofs.Sum.{Summed, squares, squares-in, sum_near}
use Rattle.loudness.proofs.Factor.{one149, Factor, factor-near}
use Rattle.loudness.proofs.Samples.{count-is, counted, sample, energy-tab, all-counted, squares-low, squares-high}

-- ---- the values drawn from a seed
module _ (seed : ℕ) where
  abbrev step : ℕ → ℤ
  step i = noise_step (draws (i + 1) seed)

  abbrev magnitude : ℕ → ℕ
  magnitude i = nat_abs (step i)

  word : (i : ℕ) → draws (i + 1) seed < 2 ^ 32
  word i = subst (λ (w : ℕ). w < 2 ^ 32) (sym (draws-more i seed)) (draw-word (draws i seed))

  value-is : (i : ℕ) → HasValue (noise_at seed i) (not (non_neg (step i))) (magnitude i) 1
  value-is i = noise_exact (draws (i + 1) seed) (word i)

  few : (i : ℕ) → magnitude i ≤ 2048
  few i = nat_abs-le (step i) (noise_mag (draws (i + 1) seed) (word i))

  -- ---- the band's sum, factor and samples
  sum_is : (n : ℕ) → energy64 (noise_band n seed) ≡ sum_to binary64 (λ (j : ℕ). mul binary64 (noise_at seed j) (noise_at seed j)) floor64 n
  unfolding energy64 noise_band
  sum_is n =
      ap (sum_to binary64 (square64_at (tab (noise_at seed) n)) floor64) (length-tab (noise_at seed) n)
      ∙ sum_same binary64 (square64_at (tab (noise_at seed) n)) _ floor64 n (λ j h. ap (λ (x : Float). mul binary64 x x) (get_or-tab (noise_at seed) n j nan h))

  module _ (n : ℕ) (h : n ≤ widest) (e : 1 ≤ squares magnitude n) where
    abbrev factor : Float
    factor = factor_of (noise_band n seed) one32

    factor-is : Factor (squares magnitude n) factor
    unfolding factor_of
    factor-is =
        let s = sum_near (noise_at seed) (λ (i : ℕ). not (non_neg (step i))) magnitude value-is few n h in
        let most = squares-in magnitude few n in
        factor-near (squares magnitude n) (energy64 (noise_band n seed)) e (omega arith) (subst (λ (x : Float). Summed x (squares magnitude n)) (sym (sum_is n)) s)

    abbrev sample_at : ℕ → Float
    sample_at i = times factor (noise_at seed i)

    samples-are : band_noise n seed ≡ tab sample_at n
    unfolding band_noise renormalise_vector noise_band
    samples-are = map-tab (times factor) (noise_at seed) n

    near : (i : ℕ) → Counted (sample_at i) × Near (2 ^ 24) (count (sample_at i)) (magnitude i * factor-is.G)
    near i = sample (noise_at seed i) factor (not (non_neg (step i))) (magnitude i) factor-is.G (few i) (value-is i) factor-is.is factor-is.over factor-is.under

    pub loud : UnitEnergy reached (band_noise n seed)
    loud = subst (UnitEnergy reached) (sym samples-are) (record {
      counted = all-counted sample_at n (λ i l. (near i).0);
      sum = subst (λ (t : ℕ). Near reached t one) (sym (energy-tab sample_at n))
          (sums-to one149 (squares magnitude n) factor-is.X factor-is.R factor-is.G (squares (λ (i : ℕ). count (sample_at i)) n) (pow_pos 149) e
          factor-is.narrowed factor-is.root factor-is.quotient
          (squares-low magnitude (λ (i : ℕ). count (sample_at i)) factor-is.G (λ i. (near i).1) n)
          (squares-high magnitude (λ (i : ℕ). count (sample_at i)) factor-is.G (λ i. (near i).1) n));
    })

-- ---- values that are zero, and others
zero-value : (z : ℤ) → nat_abs z ≡ 0 → of_int binary32 z ≡ of_bits binary32 0
unfolding of_int of_bits
zero-value (pos n) e = ap (λ (k : ℕ). of_int binary32 (pos k)) e
zero-value (negsuc n) e = let z : ⊥ = omega arith in absurd z

zero_is : (x : Float) → Zero x → (s : Bool) × HasValue x s 0 (2 ^ 149)
unfolding of_bits
zero_is x (inl e) = (false, subst (λ (y : Float). HasValue y false 0 (2 ^ 149)) (sym e) (refl, refl))
zero_is x (inr e) = (true, subst (λ (y : Float). HasValue y true 0 (2 ^ 149)) (sym e) (refl, refl))

no_zero : (x : Float) (s : Bool) (a : ℕ) → HasValue x s a 1 → 1 ≤ a → Zero x → ⊥
unfolding of_bits
no_zero x s a h l (inl e) = let k = subst (λ (y : Float). HasValue y s a 1) e h in omega (arith, k.1)
no_zero x s a h l (inr e) = let k = subst (λ (y : Float). HasValue y s a 1) e h in omega (arith, k.1)

-- some number of the first n is not zero, or all are
some_or_none : (a : ℕ → ℕ) (n : ℕ) → ((i : ℕ) × (i < n) × (1 ≤ a i)) ⊎ ((i : ℕ) → i < n → a i ≡ 0)
some_or_none a zero = inr (λ i h. let z : ⊥ = omega arith in absurd z)
some_or_none a (suc n) = elim (some_or_none a n) [
  | inl h ↦ inl (h.0, omega (arith, h.1), h.2)
  | inr z ↦ elim (cases_lt 0 (a n)) [
    | inl l ↦ inl (n, omega arith, l)
    | inr l ↦ inr (λ i h. elim (cases_lt i n) [
      | inl k ↦ z i k
      | inr k ↦ let e : i ≡ n = omega arith in ap a e ∙ omega arith
    ])
  ]
]

some-square : (a : ℕ → ℕ) (n i : ℕ) → i < n → 1 ≤ a i → 1 ≤ squares a n
unfolding squares
some-square a zero i h l = let z : ⊥ = omega arith in absurd z
some-square a (suc n) i h l = elim (cases_lt i n) [
  | inl k ↦ omega (arith, some-square a n i k l)
  | inr k ↦
      let e : i ≡ n = omega arith in
      let m : 1 ≤ a n = subst (λ (j : ℕ). 1 ≤ a j) e l in
      omega (arith, mul-le-mul m m)
]

-- ---- zeros have no energy
no-energy : (xs : List Float) → AllZero xs → energy xs ≡ 0
unfolding energy
no-energy [] z = refl
no-energy (x ∷ xs) z =
    let v = zero_is x (z 0 (omega arith)) in
    let c : count x ≡ 0 = count-is x v.0 0 v.1 in
    ap₂ (λ (k l : ℕ). k * k + l) c (no-energy xs (λ i h. z (suc i) (omega arith)))

zeros : (xs : List Float) → AllZero xs → NoEnergy xs
zeros xs z = record {
  counted = λ i h. let v = zero_is (get_or xs i nan) (z i h) in counted (get_or xs i nan) v.0 0 v.1;
  sum = no-energy xs z;
}

-- ---- the theorem
-- one part in 2 ^ 21 is less than one in 2 ^ 16
wider : (t u : ℕ) → Near reached t u → Near asked t u
wider t u n = record { low = omega (arith, n.low); high = omega (arith, n.high) }

module _ (n seed : ℕ) where
  value-at : (i : ℕ) → i < n → get_or (noise_band n seed) i nan ≡ noise_at seed i
  unfolding noise_band
  value-at i h = get_or-tab (noise_at seed) n i nan h

  at : (i : ℕ) → i < length (noise_band n seed) → i < n
  at i h = omega (arith, length-noise_band n seed)

  back : (i : ℕ) → i < n → i < length (noise_band n seed)
  back i h = omega (arith, length-noise_band n seed)

  none_is : (i : ℕ) → i < n → magnitude seed i ≡ 0 → get_or (noise_band n seed) i nan ≡ of_bits binary32 0
  unfolding noise_value
  none_is i h e = value-at i h ∙ zero-value (step seed i) e

  heard_some : Heard (noise_band n seed) → 1 ≤ squares (magnitude seed) n
  heard_some (i, h, z) = elim (cases_lt 0 (magnitude seed i)) [
    | inl l ↦ some-square (magnitude seed) n i (at i h) l
    | inr l ↦ absurd (z (inl (none_is i (at i h) (omega arith))))
  ]

  pub loudness : n ≤ widest → Loudness n seed
  unfolding band_noise
  loudness h = record {
    heard = λ x. let l = loud seed n h (heard_some x) in record { counted = l.counted; sum = wider (energy (band_noise n seed)) one l.sum };
    closer = λ x. loud seed n h (heard_some x);
    silent = λ z. subst NoEnergy (sym (zeros-stay (noise_band n seed) z)) (zeros (noise_band n seed) z);
    either = elim (some_or_none (magnitude seed) n) [
      | inl x ↦ inl (x.0, back x.0 x.1, λ z. no_zero (noise_at seed x.0) _ (magnitude seed x.0) (value-is seed x.0) x.2 (subst Zero (value-at x.0 x.1) z))
      | inr z ↦ inr (λ i l. inl (none_is i (at i l) (z i (at i l))))
    ];
  }
