-- The steps of x, from the f64 product 256 * x, which loses nothing.
use Rattle.std.proofs.Common.{◌≡◌, ℕ, zero, suc, ◌+◌, ◌-◌, ◌*◌, ◌/◌, ◌%◌, ◌^◌, ◌<◌, ◌≤◌, Bool, true, false, cond, ◌&&◌, T, eqb, ltb, leb, ℤ, pos, negsuc}
use Rattle.std.proofs.Common.{sym, refl, ap, ◌∙◌, subst, le_trans, lt_of_lt_of_le, lt_of_le_of_lt, add-zero, lt_irrefl, mul-le-mul_right, mul_assoc, mul_comm}
use Rattle.std.proofs.Common.{lt_of_mul-lt-mul_right, mul-le-mul_left, mul-lt-mul_of_pos_right, one-mul, div-add-mod', mul-one, mul_right_comm}
use Rattle.std.proofs.Common.{le_of_mul-le-mul_right, mul_left_comm, arith, lit<, lit≤, ltb→lt, leb→le, pow_pos, pow_mono, pow-add, shl_lt, ltb-false, ltb-true}
use Rattle.std.proofs.Common.{eq-eqb, ne_eqb, eqb-true}
use native.Mathlib.Nat.{mul-mod_left, mul-lt-mul_of_pos_left, eq_of_mul-eq-mul_right}
use lib.Pow.{pow-lt}
use borrow.Author.Tests.{eqb-false}
use lib.Ieee.{Float, nan, inf, fin, binary32, binary64, up, down, fits, of_bits, mul, round, unlike}
use lib.Ieee.Bits.{is_true}
use lib.Ieee.Exact.{HasValue, round_exact}
use lib.Ieee.Fits.{down_pos, and_l, and_r}
use lib.Ieee.Nearest.{div_same}
use Rattle.band_gain.specs.Gain.{floor_from, steps, GainRange}

-- ---- 256 * x is exact

abbrev pub product : Float → Float
product x = mul binary64 (of_bits binary64 0x4070_0000_0000_0000) x

-- what a finite f32's significand and exponent keep to
small : (s : Bool) (m : ℕ) (e : ℤ) → T (fits binary32 (fin s m e)) → (m < 2 ^ 24) × (down e ≤ 2 ^ 149)
unfolding fits
small s zero e t = (lit< tt, down-one e (eqb→one e t))
  where
    eqb→one : (e : ℤ) → T (eqb (up e * down e) 1) → up e * down e ≡ 1
    eqb→one e t = eqb-true (up e * down e) 1 (is_true (eqb (up e * down e) 1) t)

    down-one : (e : ℤ) → up e * down e ≡ 1 → down e ≤ 2 ^ 149
    down-one (pos k) h = lit≤ tt
    down-one (negsuc k) h = le_trans (let z : 2 ^ suc k ≤ 1 = omega (arith, one-mul (2 ^ suc k)) in z) (lit≤ tt)
small s (suc m) e t =
    let a : Bool = eqb (suc m % 2) 1 in
    let b : Bool = ltb (suc m) (2 ^ 24) in
    let c : Bool = leb (down e) (2 ^ 149) in
    let d : Bool = ltb (suc m * up e) (2 ^ 128 * down e) in
    let u = and_l (a && b && c) d t in
    (ltb→lt (suc m) (2 ^ 24) (and_r a b (and_l (a && b) c u)), leb→le (down e) (2 ^ 149) (and_r (a && b) c u))

-- 2 ^ e is a whole number of f64's smallest values
record Units (e : ℤ) : Type 0 where
  j : ℕ
  is : up e * 2 ^ 1074 ≡ 2 ^ j * down e

units_of : (e : ℤ) → down e ≤ 2 ^ 149 → Units e
units_of (pos k) h = record { j = k + 1074; is = sym (pow-add 2 k 1074) ∙ sym (mul-one (2 ^ (k + 1074))) }
units_of (negsuc k) h = record { j = 1074 - suc k; is = one-mul (2 ^ 1074) ∙ ap (λ z. 2 ^ z) near ∙ pow-add 2 (1074 - suc k) (suc k) }
  where
    few : suc k ≤ 149
    few = go (ltb 149 (suc k)) refl
      where
        go : (b : Bool) → ltb 149 (suc k) ≡ b → suc k ≤ 149
        go true e = absurd (lt_irrefl (2 ^ 149) (lt_of_lt_of_le (pow-lt {i = 149} {j = suc k} (ltb-true 149 (suc k) e)) h))
        go false e = ltb-false 149 (suc k) e

    near : 1074 ≡ (1074 - suc k) + suc k
    near = omega (arith, few)

regroup : (m u p : ℕ) → 256 * (m * u) * p ≡ 256 * (m * (u * p))
regroup m u p = mul_assoc 256 (m * u) p ∙ ap (λ z. 256 * z) (mul_assoc m u p)

spread : (m p d : ℕ) → 256 * (m * (p * d)) ≡ m * (p * 2 ^ 8) * (1 * d)
spread m p d = sym (
    ap (λ z. m * (p * 256) * z) (one-mul d) ∙ mul_assoc m (p * 256) d ∙ ap (λ z. m * (z * d)) (mul_comm p 256) ∙ ap (λ z. m * z) (mul_assoc 256 p d)
    ∙ mul_left_comm m 256 (p * d))

module _ (s : Bool) (m : ℕ) (e : ℤ) (t : T (fits binary32 (fin s m e))) (b : m * up e < 256 * down e) where
  j : ℕ
  j = (units_of e (small s m e t).1).j

  is : up e * 2 ^ 1074 ≡ 2 ^ j * down e
  unfolding j
  is = (units_of e (small s m e t).1).is

  fewer : m * 2 ^ j < 2 ^ 1082
  fewer = lt_of_mul-lt-mul_right (down e) (
      subst (λ z. m * 2 ^ j * down e < z) (mul_right_comm 256 (down e) (2 ^ 1074))
      (subst (λ z. z < 256 * down e * 2 ^ 1074) (mul_assoc m (up e) (2 ^ 1074) ∙ ap (λ z. m * z) is ∙ sym (mul_assoc m (2 ^ j) (down e)))
      (mul-lt-mul_of_pos_right b (pow_pos 1074))))

  wide_value : HasValue (product (fin s m e)) s (256 * (m * up e)) (down e)
  unfolding mul of_bits
  wide_value =
      subst (λ z. HasValue (round binary64 (unlike false s) (256 * (m * up e)) z) s (256 * (m * up e)) (down e)) (sym (one-mul (down e)))
      (subst (λ z. HasValue (round binary64 z (256 * (m * up e)) (down e)) s (256 * (m * up e)) (down e)) (sym (same s))
      (round_exact binary64 s (256 * (m * up e)) (down e) m (j + 8) (down_pos e) (lt_of_lt_of_le (small s m e t).0 (lit≤ tt))
      (lt_of_lt_of_le (subst (λ z. m * z < 2 ^ 1090) (sym (pow-add 2 j 8)) (subst (λ z. z < 2 ^ 1090) (mul_assoc m (2 ^ j) (2 ^ 8)) (shl_lt 1082 8 fewer)))
      (pow_mono {i = 1090} {j = 2098} (lit≤ tt)))
      (regroup m (up e) (2 ^ 1074) ∙ ap (λ z. 256 * (m * z)) is ∙ spread m (2 ^ j) (down e)
      ∙ ap (λ z. m * z * (1 * down e)) (sym (pow-add 2 j 8)) ∙ ap (λ z. m * 2 ^ (j + 8) * z) (one-mul (down e)))))
    where
      same : (s : Bool) → unlike false s ≡ s
      same true = refl
      same false = refl

-- ---- the same fraction has the same floor

rem-none : (a b c d : ℕ) → 0 < b → 0 < d → a * d ≡ c * b → a % b ≡ 0 → c % d ≡ 0
rem-none a b c d B D e z =
    let q : a ≡ a / b * b = sym (div-add-mod' a b) ∙ ap (λ r. a / b * b + r) z ∙ add-zero (a / b * b) in
    let r : c ≡ a / b * d = eq_of_mul-eq-mul_right b B c (a / b * d) (sym e ∙ ap (λ y. y * d) q ∙ mul_right_comm (a / b) b d) in
    ap (λ y. y % d) r ∙ mul-mod_left (a / b) d

eqb_same : (x y : ℕ) → (x ≡ 0 → y ≡ 0) → (y ≡ 0 → x ≡ 0) → eqb x 0 ≡ eqb y 0
eqb_same x y f g = go (eqb x 0) refl
  where
    go : (b : Bool) → eqb x 0 ≡ b → b ≡ eqb y 0
    go true e = sym (eq-eqb y 0 (f (eqb-true x 0 e)))
    go false e = sym (ne_eqb y 0 (λ z. eqb-false x 0 e (g z)))

floor-same : (s : Bool) (a b c d : ℕ) → 0 < b → 0 < d → a * d ≡ c * b → floor_from s a b ≡ floor_from s c d
unfolding floor_from
floor-same false a b c d B D e = ap (λ z. 38_400 + z) (div_same a b c d B D e)
floor-same true a b c d B D e =
    ap (λ z. 38_400 - (z + cond (eqb (a % b) 0) 0 1)) (div_same a b c d B D e)
    ∙ ap (λ z. 38_400 - (c / d + cond z 0 1)) (eqb_same (a % b) (c % d) (rem-none a b c d B D e) (rem-none c d a b D B (sym e)))

-- ---- w is 256 * x, and q the steps of x

abbrev pub Fine : Float → ℕ → Type 0
Fine nan q = ⊥
Fine (inf s) q = ⊥
Fine (fin false m e) q = (floor_from false (m * up e) (down e) ≡ q) × (m * up e ≤ 8_192 * down e)
Fine (fin true m e) q = (floor_from true (m * up e) (down e) ≡ q) × (m * up e < 38_400 * down e)

le-cross : (a d c k : ℕ) (b : ℕ) → 0 < d → a * d ≡ 256 * c * b → c ≤ k * d → a ≤ 256 * k * b
le-cross a d c k b D e h =
    le_of_mul-le-mul_right {k = d} (subst (λ z. z ≤ 256 * k * b * d) (sym e)
    (subst (λ z. 256 * c * b ≤ z) (ap (λ z. z * b) (sym (mul_assoc 256 k d)) ∙ mul_right_comm (256 * k) d b) (mul-le-mul_right b (mul-le-mul_left 256 h)))) D

lt-cross : (a d c k : ℕ) (b : ℕ) → 0 < b → a * d ≡ 256 * c * b → c < k * d → a < 256 * k * b
lt-cross a d c k b B e h =
    lt_of_mul-lt-mul_right d (subst (λ z. z < 256 * k * b * d) (sym e)
    (subst (λ z. 256 * c * b < z) (ap (λ z. z * b) (sym (mul_assoc 256 k d)) ∙ mul_right_comm (256 * k) d b)
    (mul-lt-mul_of_pos_right (mul-lt-mul_of_pos_left h (lit< tt)) B)))

finer : (w : Float) (s : Bool) (a d : ℕ) → 0 < d → HasValue w s (256 * a) d → ((s ≡ false → a ≤ 32 * d) × (s ≡ true → a < 150 * d))
    → Fine w (floor_from s (256 * a) d)
finer nan s a d D v h = v
finer (inf t) s a d D v h = v
finer (fin true m e) s a d D v h = (
  ap (λ z. floor_from z (m * up e) (down e)) v.0 ∙ floor-same s (m * up e) (down e) (256 * a) d (down_pos e) D v.1,
  lt-cross (m * up e) d a 150 (down e) (down_pos e) v.1 (h.1 (sym v.0)),
)
finer (fin false m e) s a d D v h = (
  ap (λ z. floor_from z (m * up e) (down e)) v.0 ∙ floor-same s (m * up e) (down e) (256 * a) d (down_pos e) D v.1,
  le-cross (m * up e) d a 32 (down e) D v.1 (h.0 (sym v.0)),
)

pub fine : (x : Float) → T (fits binary32 x) → GainRange x → Fine (product x) (steps x)
unfolding steps
fine nan t h = absurd h
fine (inf s) t h = absurd h
fine (fin true m e) t h =
    finer (product (fin true m e)) true (m * up e) (down e) (down_pos e)
    (wide_value true m e t (lt_of_lt_of_le h (mul-le-mul_right (down e) (lit≤ tt))))
    ((λ z. let y : ◌≡◌ {A = ℕ} 0 1 = cc in let b : ⊥ = omega arith in absurd b), (λ z. h))
fine (fin false m e) t h =
    finer (product (fin false m e)) false (m * up e) (down e) (down_pos e)
    (wide_value false m e t (lt_of_le_of_lt h (mul-lt-mul_of_pos_right (lit< tt) (down_pos e))))
    ((λ z. h), (λ z. let y : ◌≡◌ {A = ℕ} 0 1 = cc in let b : ⊥ = omega arith in absurd b))
