-- No step takes the lesser or the greater of two zeros: one of the two is 1, -1 or 32, or both are energies that start from 1.
-- Assumes nothing.
use mathlib.Core.Path.{◌≡◌, refl, sym, ap, ◌∙◌, subst}
use Prim.Native.Nat.{ℕ, zero, suc, ◌+◌, ◌*◌, ◌^◌, ◌<◌}
use native.Mathlib.Nat.{le-add_right, mul_right_comm, mul_assoc, mul-pos, mul-le-mul_right}
use mathlib.Core.Bool.{Bool, true, false, not, ◌&&◌, cond}
use lib.IntN.{ℤ}
use lib.Dec.{T, ltb, eqb-suc-zero}
use lib.Pow.{pow_pos}
use lib.Ieee.{Float, nan, inf, fin, binary32, up, down, odd, units, round, add, sum, mul, neg, fits, of_bits}
use lib.Ieee.Fits.{down_pos, add-fits, neg-fits, round_is}
use lib.Ieee.Bits.{of_bits-fits}
use lib.Ieee.Exact.{HasValue, round_exact}
use lib.Ieee.Scale.{round_same}
use lib.Ieee.Order.{round_mono}
use lib.Ieee.Positive.{positive, above, positive_of_value, value_pos, above_of_le}
use Rattle.loops.specs.Fold.{fold_to}
use Rattle.loops.specs.Sum.{sum_to}
use Rattle.float_extremes.specs.Extremes.{min_of, max_of}
use Rattle.float_extremes.proofs.Zeros.{is_zero, Apart, min-either, max-either}
use Rattle.float_root.proofs.Roots.{shape}
use Rattle.float_root.proofs.Nearest.{units_of}

-- above zero or NaN
abbrev lifted : Float → Bool
lifted nan = true
lifted (inf s) = not s
lifted (fin true m e) = false
lifted (fin false m e) = ltb 0 m

-- not below zero, or NaN
abbrev unsigned : Float → Bool
unsigned nan = true
unsigned (inf s) = not s
unsigned (fin s m e) = not s

units-unsigned : (q k : ℕ) → T (unsigned (units binary32 false q k))
unfolding units odd
units-unsigned q k = go (ltb (q * 2 ^ k) (2 ^ 277)) q
  where
    go : (b : Bool) (q : ℕ) → T (unsigned (cond b (odd 25 false q k 149) (inf false)))
    go true zero = tt
    go true (suc q) = tt
    go false q = tt

round-unsigned : (a c : ℕ) → T (unsigned (round binary32 false a c))
round-unsigned a c = subst (λ (z : Float). T (unsigned z)) (sym (round_is binary32 false a c)) (units-unsigned _ _)

square-unsigned : (y : Float) → T (unsigned (mul binary32 y y))
unfolding mul
square-unsigned nan = tt
square-unsigned (inf true) = tt
square-unsigned (inf false) = tt
square-unsigned (fin true n d) = round-unsigned (n * up d * (n * up d)) (down d * down d)
square-unsigned (fin false n d) = round-unsigned (n * up d * (n * up d)) (down d * down d)

-- ---- a positive f32 and more, rounded
rounded : (m : ℕ) (e : ℤ) (d : ℕ) → 0 < d → T (fits binary32 (fin false m e)) → T (ltb 0 m)
    → T (positive (round binary32 false (m * up e * d) (down e * d)))
rounded m e d D f p =
    let x = fin false m e in
    let u = units_of x f p in
    let a = u.0 in
    let s = shape x a f u.1 in
    let v : HasValue (round binary32 false a (2 ^ 149)) false a (2 ^ 149) =
    round_exact binary32 false a (2 ^ 149) s.0 s.1 (pow_pos 149) s.2 (subst (λ (z : ℕ). z < 2 ^ 277) s.3 u.2) (ap (λ (z : ℕ). z * 2 ^ 149) s.3) in
    let cross : m * up e * d * 2 ^ 149 ≡ a * (down e * d) = mul_right_comm (m * up e) d (2 ^ 149) ∙ ap (λ (z : ℕ). z * d) u.1.1 ∙ mul_assoc a (down e) d in
    subst (λ (z : Float). T (positive z)) (sym (round_same binary32 false (m * up e * d) (down e * d) a (2 ^ 149) (mul-pos (down_pos e) D) (pow_pos 149) cross))
    (positive_of_value (round binary32 false a (2 ^ 149)) a (2 ^ 149) v (value_pos x a (2 ^ 149) p (pow_pos 149) u.1))

above-lifted : (z : Float) → T (above z) → T (lifted z)
above-lifted nan h = tt
above-lifted (inf s) h = h
above-lifted (fin true m e) h = h
above-lifted (fin false m e) h = h

grows : (x z : Float) → T (fits binary32 x) → T (lifted x) → T (unsigned z) → T (lifted (add binary32 x z))
unfolding add sum
grows nan z f p q = tt
grows (inf true) z f p q = absurd p
grows (inf false) nan f p q = tt
grows (inf false) (inf true) f p q = absurd q
grows (inf false) (inf false) f p q = tt
grows (inf false) (fin t n d) f p q = tt
grows (fin true m e) z f p q = absurd p
grows (fin false m e) nan f p q = tt
grows (fin false m e) (inf true) f p q = absurd q
grows (fin false m e) (inf false) f p q = tt
grows (fin false m e) (fin true n d) f p q = absurd q
grows (fin false m e) (fin false n d) f p q =
    let a = m * up e * down d in
    let b = n * up d * down e in
    let c = down e * down d in
    let C : 0 < c = mul-pos (down_pos e) (down_pos d) in
    above-lifted (round binary32 false (a + b) c)
    (above_of_le (round binary32 false a c) (round binary32 false (a + b) c)
    (rounded m e (down d) (down_pos d) f p)
    (round_mono binary32 a c (a + b) c C C (mul-le-mul_right c (le-add_right a b))))

-- ---- the sums
abbrev pub energy : (ℕ → Float) → ℕ → Float
energy t n = sum_to binary32 (λ (j : ℕ). mul binary32 (t j) (t j)) (of_bits binary32 0x3f80_0000) n

held : (t : ℕ → Float) (n : ℕ) → T (fits binary32 (energy t n))
unfolding sum_to fold_to
held t zero = of_bits-fits binary32 0x3f80_0000
held t (suc n) = add-fits binary32 (energy t n) (mul binary32 (t n) (t n))

energy-lifted : (t : ℕ → Float) (n : ℕ) → T (lifted (energy t n))
unfolding sum_to fold_to of_bits
energy-lifted t zero = tt
energy-lifted t (suc n) = grows (energy t n) (mul binary32 (t n) (t n)) (held t n) (energy-lifted t n) (square-unsigned (t n))

apart : (x y : Float) → T (lifted x) → Apart x y
apart nan y h = tt
apart (inf s) y h = tt
apart (fin true m e) y h = absurd h
apart (fin false zero e) y h = absurd h
apart (fin false (suc m) e) y h = subst (λ (b : Bool). T (not (b && is_zero y))) (sym (eqb-suc-zero m)) tt

pub energies_apart : (t u : ℕ → Float) (n k : ℕ) → min_of (energy t n) (energy u k) ≡ min_of (energy u k) (energy t n)
energies_apart t u n k =
    min-either (energy t n) (energy u k) (held t n) (held u k) (apart (energy t n) (energy u k) (energy-lifted t n))

-- ---- the constants
with_constant : (x y : Float) → is_zero y ≡ false → Apart x y
with_constant x y e = subst (λ (b : Bool). T (not (is_zero x && b))) (sym e) (neither (is_zero x))
  where
    neither : (b : Bool) → T (not (b && false))
    neither true = tt
    neither false = tt

abbrev one : Float
one = of_bits binary32 0x3f80_0000

abbrev most : Float
most = of_bits binary32 0x4200_0000

pub constants_apart : (x : Float) → T (fits binary32 x)
    → (max_of x (neg one) ≡ max_of (neg one) x) × (max_of x one ≡ max_of one x) × (min_of x most ≡ min_of most x)
unfolding of_bits neg
constants_apart x f = (
  max-either x (neg one) f (neg-fits binary32 one (of_bits-fits binary32 0x3f80_0000)) (with_constant x (neg one) refl),
  max-either x one f (of_bits-fits binary32 0x3f80_0000) (with_constant x one refl),
  min-either x most f (of_bits-fits binary32 0x4200_0000) (with_constant x most refl),
)
