-- From the sum of energy and mean to the gain.
use Rattle.std.proofs.Common.{◌≡◌, ℕ, ◌*◌, ◌/◌, ◌%◌, ◌<◌, Bool, true, false, cond, ◌&&◌, ◌||◌, T, eqb, ltb, ℤ, sym, refl, ap, ◌∙◌, subst, arith, lit≤, ltb-false}
use borrow.Author.Tests.{eqb-false}
use lib.Ieee.{Float, nan, inf, fin, binary32, binary64, up, down, minus, fits, of_int, of_bits, neg, add, sub, mul, div, lt, le, eq, is_nan}
use lib.Ieee.Fits.{add-fits, cond-fits}
use lib.Ieee.Bits.{of_bits-fits}
use Rattle.loops.specs.Pick.{pick_true, pick-false}
use Rattle.float_extremes.specs.Extremes.{min_of}
use Rattle.float_narrow.specs.Narrow.{narrow}
use Rattle.powers.specs.Powers.{power}
use Rattle.band_gain.specs.Gain.{GainRange, steps, series, gain_at, band_gain}

abbrev lowest : Float
lowest = neg (of_bits binary32 0x4316_0000)

abbrev highest : Float
highest = of_bits binary32 0x4200_0000

-- the powers a and t times the series at v less k / 256
abbrev gain_by : Float → Float → Float → Float → Float
gain_by a t v k =
    let over = div binary64 k (of_bits binary64 0x4070_0000_0000_0000) in
    let y = mul binary64 (sub binary64 v over) (of_bits binary64 0x3fe6_2e42_fefa_39ef) in
    narrow (mul binary64 (mul binary64 a (series y)) t)

pub gain_is : (x : Float) (q : ℕ) (v k a t r : Float) → v ≡ x → k ≡ of_int binary64 (minus q 38_400) → a ≡ power (q % 256)
    → t ≡ fin false 1 (minus (q / 256) 150) → r ≡ gain_by a t v k → r ≡ gain_at x q
unfolding gain_at
gain_is x q v k a t r ev ek ea et er = er ∙ (λ i. gain_by (ea i) (et i) (ev i) (ek i))

pub gain_none : (x y : Float) → x ≡ y → le x lowest ≡ true → of_bits binary32 0 ≡ band_gain y
unfolding band_gain
gain_none x y e h = sym (ap band_gain (sym e) ∙ pick_true (le x lowest) _ _ h)

pub gain_some : (x y : Float) (q : ℕ) (r : Float) → x ≡ y → le x lowest ≡ false → q ≡ steps x → r ≡ gain_at x q → r ≡ band_gain y
unfolding band_gain
gain_some x y q r e h f g = g ∙ ap (gain_at x) f ∙ sym (pick-false (le x lowest) _ _ h) ∙ ap band_gain e

pub fits-min : (a b x : Float) → x ≡ min_of (add binary32 a b) highest → T (fits binary32 x)
unfolding min_of
fits-min a b x e =
    let s = add binary32 a b in
    let f : T (fits binary32 s) = add-fits binary32 a b in
    let h : T (fits binary32 highest) = of_bits-fits binary32 0x4200_0000 in
    subst (λ z. T (fits binary32 z)) (sym e) (cond-fits binary32 (is_nan s) _ _ h
    (cond-fits binary32 (is_nan highest) _ _ f (cond-fits binary32 (lt highest s) _ _ h f)))

-- of what is at most 32, all but what is at most -150
above-lowest : (m : ℕ) (e : ℤ) → le (fin true m e) lowest ≡ false → m * up e < 150 * down e
unfolding le lt eq neg of_bits
above-lowest m e h = go (ltb (150 * down e) (m * up e * 1)) refl h
  where
    go : (b : Bool) → ltb (150 * down e) (m * up e * 1) ≡ b → (b || (eqb (m * up e * 1) (150 * down e) && true)) ≡ false → m * up e < 150 * down e
    go true f g = let z : ◌≡◌ {A = ℕ} 0 1 = cc in let b : ⊥ = omega arith in absurd b
    go false f g = side (eqb (m * up e * 1) (150 * down e)) refl g
      where
        side : (c : Bool) → eqb (m * up e * 1) (150 * down e) ≡ c → (c && true) ≡ false → m * up e < 150 * down e
        side true k l = let z : ◌≡◌ {A = ℕ} 0 1 = cc in let b : ⊥ = omega arith in absurd b
        side false k l = omega (arith, ltb-false (150 * down e) (m * up e * 1) f, eqb-false (m * up e * 1) (150 * down e) k)

not-inf : le (inf true) lowest ≡ false → ⊥
unfolding le lt eq neg of_bits
not-inf h = let y : true ≡ false = h in let z : ◌≡◌ {A = ℕ} 0 1 = cc in omega arith

within-min : (s : Float) → le (min_of s highest) lowest ≡ false → GainRange (min_of s highest)
unfolding min_of is_nan lt of_bits
within-min nan h = lit≤ tt
within-min (inf true) h = not-inf h
within-min (inf false) h = lit≤ tt
within-min (fin true m e) h = above-lowest m e h
within-min (fin false m e) h = go (ltb (32 * down e) (m * up e * 1)) refl
  where
    go : (b : Bool) → ltb (32 * down e) (m * up e * 1) ≡ b → GainRange (cond b highest (fin false m e))
    go true f = lit≤ tt
    go false f = omega (arith, ltb-false (32 * down e) (m * up e * 1) f)

pub within : (s x : Float) → x ≡ min_of s highest → le x lowest ≡ false → GainRange x
within s x e h = subst GainRange (sym e) (within-min s (ap (λ z. le z lowest) (sym e) ∙ h))
