-- The factor that brings a band to unit energy, in units of 2 ^ -149: how near to 1 over the root of its squares' sum.
-- Assumes nothing.
use mathlib.Core.Path.{◌≡◌, refl, sym, ap, ◌∙◌, subst}
use mathlib.Core.Bool.{Bool, false}
use mathlib.Core.Logic.{inl, inr}
use Prim.Native.Nat.{ℕ, zero, suc, ◌+◌, ◌*◌, ◌^◌, ◌≤◌, ◌<◌}
use native.Mathlib.Nat.{le_trans, le_of_eq, mul-pos, mul-le-mul, mul-le-mul_left, mul-le-mul_right, le_of_mul-le-mul_left}
use native.Mathlib.Nat.{le_of_mul-le-mul_right, eq_of_mul-eq-mul_right, mul_assoc, mul_comm, mul-one, one-mul, pow-succ'}
use native.Mathlib.Omega.{arith}
use lib.Dec.{T, lit<, lit≤}
use lib.Pow.{pow-add, pow_pos}
use lib.Ieee.{Float, nan, inf, fin, binary32, size, div, fits, of_bits, down}
use lib.Ieee.Digits.{size_reaches}
use lib.Ieee.Fits.{round-fits, down_pos}
use lib.Ieee.Exact.{HasValue}
use lib.Ieee.Positive.{positive_of_value}
use Rattle.std.proofs.lemmas.Bool.{cases_lt}
use Rattle.buffers.specs.Buffers.{one32}
use Rattle.float_narrow.specs.Narrow.{narrow}
use Rattle.float_root.specs.Root.{sqrt_of}
use Rattle.float_root.proofs.Nearest.{RootWithin, sqrt-within}
use Rattle.float_near.specs.Near.{Near}
use Rattle.float_near.specs.Rounded.{Rounded}
use Rattle.float_narrow.proofs.Laws.{narrow_at}
use Rattle.float_near.proofs.Operations.{round-near, div-at}
use Rattle.loudness.proofs.Numbers.{Narrowed}
use Rattle.loudness.proofs.Sum.{one64, Summed}

-- ---- the numbers alone
-- the sum w and its narrowed value X, with L for 1 in the one's units and c in the other's
narrowed : (E w X L c : ℕ) → 0 < L → E * L ≤ w → 2 ^ 47 * w ≤ (2 ^ 47 + 1) * (E * L) → Near (2 ^ 24) (X * L) (w * c) → Narrowed c E X
narrowed E w X L c l h k n = record {
  low = le_of_mul-le-mul_right {k = L} (omega (arith, n.low, mul-le-mul_right c h)) l;
  high = le_of_mul-le-mul_right {k = L} (omega (arith, n.high, mul-le-mul_right c k)) l;
}

-- a square root keeps the order
root-le : (x y : ℕ) → x * x ≤ y * y → x ≤ y
root-le x y h = elim (cases_lt y x) [
  | inl g ↦ let z : ⊥ = omega (arith, mul-le-mul g g) in absurd z
  | inr g ↦ g
]

four-times : (x y : ℕ) → 2 ^ 47 * (2 ^ 24 * x) ≤ (2 ^ 47 + 1) * ((2 ^ 24 + 1) * y) → x ≤ 4 * y
four-times x y h =
    le_of_mul-le-mul_left {k = 2 ^ 71}
    (le_trans (le_of_eq (mul_assoc (2 ^ 47) (2 ^ 24) x))
    (le_trans h (le_trans (le_of_eq (sym (mul_assoc (2 ^ 47 + 1) (2 ^ 24 + 1) y))) (le_trans (mul-le-mul_right y (lit≤ tt)) (le_of_eq (mul_assoc (2 ^ 71) 4 y))))))
    (lit< tt)

-- the root R of X
module _ (c E X R : ℕ) (e : 1 ≤ E) (x : Narrowed c E X) (r : Near (2 ^ 23) (X * c) (R * R)) where
  root_over : c ≤ 2 * R
  root_over =
      let one : c ≤ 2 * X = omega (arith, x.low, mul-le-mul_right c e) in
      root-le c (2 * R) (omega (arith, r.high, mul-le-mul_right c one))

  root-under : E ≤ 2 ^ 30 → R ≤ 2 ^ 17 * c
  root-under h =
      let four : X ≤ 4 * (E * c) = four-times X (E * c) x.high in
      let many : X ≤ 2 ^ 32 * c = le_trans four (le_trans (mul-le-mul_left 4 (mul-le-mul_right c h)) (le_of_eq (sym (mul_assoc 4 (2 ^ 30) c)))) in
      root-le R (2 ^ 17 * c) (omega (arith, r.low, mul-le-mul_right c many))

-- the quotient G of 1 by the root R
quotient_over : (R G c : ℕ) → 0 < c → R ≤ 2 ^ 17 * c → Near (2 ^ 24) (G * R) (c * c) → c ≤ 2 ^ 18 * G
quotient_over R G c p h n = le_of_mul-le-mul_right {k = c} (omega (arith, n.low, mul-le-mul_left G h)) p

quotient_under : (R G c : ℕ) → 0 < c → c ≤ 2 * R → Near (2 ^ 24) (G * R) (c * c) → G ≤ 4 * c
quotient_under R G c p h n = le_of_mul-le-mul_right {k = c} (omega (arith, n.high, mul-le-mul_left G h)) p

-- ---- 1 in 2 ^ -149
abbrev pub one149 : ℕ
one149 = 2 ^ 149

-- g is G units, near to 1 over the root of E: by way of X, near E, and R, near the root of X
pub record Factor (E : ℕ) (g : Float) : Type 0 where
  pub X : ℕ
  pub R : ℕ
  pub G : ℕ
  pub is : HasValue g false G one149
  pub narrowed : Narrowed one149 E X
  pub root : Near (2 ^ 23) (X * one149) (R * R)
  pub quotient : Near (2 ^ 24) (G * R) (one149 * one149)
  pub over : one149 ≤ 2 ^ 18 * G
  pub under : G ≤ 4 * one149

-- ---- the sum
twice-at-most : (E : ℕ) → 1 ≤ E → 2 ^ size E ≤ 2 * E
twice-at-most E h = go (size E) (size_reaches E)
  where
    go : (z : ℕ) → ((j : ℕ) → j < z → 2 ^ j ≤ E) → 2 ^ z ≤ 2 * E
    go zero r = omega arith
    go (suc z) r = le_trans (le_of_eq (pow-succ' 2 z)) (mul-le-mul_left 2 (r z (omega arith)))

sum-high : (E : ℕ) (x : Float) → 1 ≤ E → (s : Summed x E) → 2 ^ 47 * s.w ≤ (2 ^ 47 + 1) * (E * one64)
sum-high E x h s =
    part E s.w (2 ^ size E) (2 ^ 1026) one64 refl (twice-at-most E h)
    (le_trans s.high (le_of_eq (ap (λ (z : ℕ). E * one64 + z) (pow-add 2 (size E) 1026))))
  where
    part : (E w z k l : ℕ) → l ≡ 2 ^ 48 * k → z ≤ 2 * E → w ≤ E * l + z * k → 2 ^ 47 * w ≤ (2 ^ 47 + 1) * (E * l)
    part E w z k l e h g = omega (arith, ap (λ (v : ℕ). E * v) e, mul-le-mul_right k h)

-- ---- one number for a value
one_value : (x : Float) (s : Bool) (a b c : ℕ) → HasValue x s a c → HasValue x s b c → a ≡ b
one_value nan s a b c h k = absurd h
one_value (inf t) s a b c h k = absurd h
one_value (fin t m e) s a b c h k = eq_of_mul-eq-mul_right (down e) (down_pos e) a b (sym h.1 ∙ k.1)

one-is : HasValue one32 false 1 1
unfolding of_bits
one-is = (refl, refl)

-- the root, and 1 over it
finish : (E : ℕ) (y : Float) → 1 ≤ E → E ≤ 2 ^ 30 → (r : RootWithin y) → Narrowed one149 E r.a → Factor E (div binary32 one32 (sqrt_of y))
finish E y e h r x =
    let R = r.c in
    let c = one149 in
    let p : 0 < c = pow_pos 149 in
    let root : Near (2 ^ 23) (r.a * c) (R * R) = record { low = r.low; high = r.high } in
    let over : c ≤ 2 * R = root_over c E r.a R e x root in
    let under : R ≤ 2 ^ 17 * c = root-under c E r.a R e x root h in
    let some : 0 < R = positive-root R c p over in
    let q : Rounded binary32 (div binary32 one32 (sqrt_of y)) false (1 * c) (R * 1) =
    subst (λ (u : Float). Rounded binary32 u false (1 * c) (R * 1))
    (sym (div-at binary32 one32 (sqrt_of y) false false 1 1 R c (lit< tt) p some one-is r.root_is))
    (round-near binary32 false (1 * c) (R * 1) (mul-pos some (lit< tt)) (normal R under) (in-range R over)) in
    let n : Near (2 ^ 24) (q.units * R) (c * c) = subst (λ (z : ℕ). Near (2 ^ 24) (q.units * z) (c * c)) (mul-one R) q.near in
    record {
      X = r.a;
      R = R;
      G = q.units;
      is = q.is;
      narrowed = x;
      root = root;
      quotient = n;
      over = quotient_over R q.units c p under n;
      under = quotient_under R q.units c p over n;
    }
  where
    positive-root : (R c : ℕ) → 0 < c → c ≤ 2 * R → 0 < R
    positive-root R c p h = omega arith

    normal : (R : ℕ) → R ≤ 2 ^ 17 * one149 → 2 ^ 23 * (R * 1) ≤ 1 * one149 * 2 ^ 149
    normal R h = le_trans (mul-le-mul_left (2 ^ 23) (le_trans (le_of_eq (mul-one R)) h)) (lit≤ tt)

    in-range : (R : ℕ) → one149 ≤ 2 * R → 1 * one149 ≤ 2 ^ 127 * (R * 1)
    in-range R h = le_trans h (le_trans (mul-le-mul_right R (lit≤ tt)) (le_of_eq (ap (λ (z : ℕ). 2 ^ 127 * z) (sym (mul-one R)))))

pub factor-near : (E : ℕ) (x : Float) → 1 ≤ E → E ≤ 2 ^ 30 → Summed x E → Factor E (div binary32 one32 (sqrt_of (narrow x)))
factor-near E x e h s =
    let w = s.w in
    let L : 0 < one64 = pow_pos 1074 in
    let top = sum-high E x e s in
    let n : Rounded binary32 (narrow x) false w one64 =
    subst (λ (u : Float). Rounded binary32 u false w one64) (sym (narrow_at x false w one64 L s.is))
    (round-near binary32 false w one64 L (normal E w one64 e s.low) (in-range E w one64 h top)) in
    let near = narrowed E w n.units one64 one149 L s.low top n.near in
    let fit : T (fits binary32 (narrow x)) =
    subst (λ (u : Float). T (fits binary32 u)) (sym (narrow_at x false w one64 L s.is)) (round-fits binary32 false w one64) in
    let r = sqrt-within (narrow x) fit (positive_of_value (narrow x) n.units one149 n.is (some E n.units one149 e (pow_pos 149) near)) in
    let same : n.units ≡ r.a = one_value (narrow x) false n.units r.a one149 n.is r.x-is in
    finish E (narrow x) e h r (subst (Narrowed one149 E) same near)
  where
    normal : (E w l : ℕ) → 1 ≤ E → E * l ≤ w → 2 ^ 23 * l ≤ w * 2 ^ 149
    normal E w l e g =
        le_trans (mul-le-mul (lit≤ tt) (le_trans (le_of_eq (sym (one-mul l))) (le_trans (mul-le-mul_right l e) g)))
        (le_of_eq (mul_comm (2 ^ 149) w))

    in-range : (E w l : ℕ) → E ≤ 2 ^ 30 → 2 ^ 47 * w ≤ (2 ^ 47 + 1) * (E * l) → w ≤ 2 ^ 127 * l
    in-range E w l h g =
        let two : w ≤ 2 * (E * l) = omega arith in
        le_trans two (le_trans (mul-le-mul_left 2 (mul-le-mul_right l h)) (le_trans (le_of_eq (sym (mul_assoc 2 (2 ^ 30) l))) (mul-le-mul_right l (lit≤ tt))))

    some : (E X c : ℕ) → 1 ≤ E → 0 < c → Narrowed c E X → 0 < X
    some E X c e p g = omega (arith, g.low, mul-pos e p)
