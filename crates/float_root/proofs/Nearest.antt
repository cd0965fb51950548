-- `sqrt_of` gives the f32 nearest to the root. Assumes nothing.
use mathlib.Core.Path.{◌≡◌, refl, sym, ap, ◌∙◌, subst}
use mathlib.Core.Logic.{inl, inr}
use Prim.Native.Nat.{ℕ, zero, suc, ◌+◌, ◌-◌, ◌*◌, ◌/◌, ◌%◌, ◌^◌, ◌≤◌, ◌<◌}
use native.Mathlib.Nat.{le_trans, le_of_eq, lt_of_le_of_lt}
use native.Mathlib.Nat.{mul_assoc, mul_right_comm, mul-le-mul_right, mul-lt-mul_of_pos_right, lt_of_mul-lt-mul_right}
use native.Mathlib.Omega.{arith}
use mathlib.Core.Bool.{true, false}
use lib.Dec.{T}
use lib.Pow.{pow-add, pow_pos, shl_lt}
use lib.Ieee.{Float, nan, inf, fin, binary32, up, down, fits, of_bits}
use lib.Ieee.Exact.{HasValue}
use lib.Ieee.Positive.{positive, value_pos, first_pos}
use Rattle.float_root.specs.Root.{root_to, sqrt_of, NearRoot}
use Rattle.float_root.specs.Steps.{ScaledTo, RootBits}
use Rattle.float_bits.proofs.Laws.{here_or_on, pow_lt_back}
use Rattle.float_bits.proofs.Values.{parts, places}
use Rattle.float_root.proofs.Roots.{pairs, first-pos, first_small, raised-low, raised-same, scaled-up, Shape, shape, root-up, root-down, bits-value, near-root}
use Rattle.float_root.proofs.Sqrt.{root-to, root-value}

-- ---- a finite f32 above zero is a whole number of units
abbrev pub Units : Float → Type 0
Units x = (a : ℕ) × HasValue x false a (2 ^ 149) × (a < 2 ^ 277)

bounded : (v a d : ℕ) → v * 2 ^ 149 ≡ a * d → v < 2 ^ 128 * d → a < 2 ^ 277
bounded v a d e h =
    lt_of_mul-lt-mul_right d
    (lt_of_le_of_lt (le_of_eq (sym e)) (subst (λ (z : ℕ). v * 2 ^ 149 < z) (mul_right_comm (2 ^ 128) d (2 ^ 149)) (mul-lt-mul_of_pos_right h (pow_pos 149))))

pub units_of : (x : Float) → T (fits binary32 x) → T (positive x) → Units x
units_of nan f p = absurd p
units_of (inf s) f p = absurd p
units_of (fin true m e) f p = absurd p
units_of (fin false zero e) f p = absurd p
units_of (fin false (suc m) e) f p =
    let p = parts binary32 false (suc m) e f in
    let (j, q) = places (suc m) e 149 p.fine in
    (suc m * 2 ^ j, (refl, q), bounded (suc m * up e) (suc m * 2 ^ j) (down e) q p.small)

-- ---- its root's digits
abbrev Scaling : ℕ → Type 0
Scaling n = (m : ℕ) × (k : ℕ) × ScaledTo n m k

module _ (q h : ℕ) (p : 0 < q) (g : 149 ≤ h) (l : q * 2 ^ h < 2 ^ 426) where
  few-left : (m k : ℕ) → m * (2 ^ k * 2 ^ k) ≡ q * 2 ^ h → 2 ^ 46 ≤ m → k ≤ 201
  few-left m k e lo =
      let b : 46 + (k + k) < 426 =
      pow_lt_back (46 + (k + k)) 426
      (lt_of_le_of_lt (le_trans (le_of_eq (pow-add 2 46 (k + k) ∙ ap (λ (z : ℕ). 2 ^ 46 * z) (pow-add 2 k k)))
      (le_trans (mul-le-mul_right (2 ^ k * 2 ^ k) lo) (le_of_eq e))) l) in
      omega arith

  scaling : q < 2 ^ 24 → Scaling (q * 2 ^ h)
  scaling s =
      let m = q * (1 + h % 2) in
      let k = h / 2 - pairs m in
      let lo = raised-low m (first-pos q h p s g) (first_small q h p s g) in
      (m * 2 ^ (2 * pairs m), k, scaled-up q h p s g (few-left (m * 2 ^ (2 * pairs m)) k (raised-same q h p s g) lo))

root-of : (n m k : ℕ) → ScaledTo n m k → (r : ℕ) × RootBits n r
root-of n m k w =
    let s = root_to 24 m in
    let h = root-to 24 m w.high in
    elim (here_or_on s (m - s * s)) [
      | inl g ↦ (k * 2 ^ 23 + (s + 1), root-up n m k s w h.0 h.1 g)
      | inr g ↦ (k * 2 ^ 23 + s, root-down n m k s w h.0 h.1 g)
    ]

has-root : (a : ℕ) → 0 < a → a < 2 ^ 277 → Shape a → (r : ℕ) × RootBits (a * 2 ^ 149) r
has-root a p l (q, x, s, e) =
    let z : a * 2 ^ 149 ≡ q * 2 ^ (x + 149) =
    ap (λ (z : ℕ). z * 2 ^ 149) e ∙ mul_assoc q (2 ^ x) (2 ^ 149) ∙ ap (λ (z : ℕ). q * z) (sym (pow-add 2 x 149)) in
    let Q : 0 < q = some q (subst (λ (z : ℕ). 0 < z) e p) in
    let h = x + 149 in
    let c = scaling q h Q (omega arith) (subst (λ (z : ℕ). z < 2 ^ 426) z (shl_lt 277 149 l)) s in
    root-of (a * 2 ^ 149) c.0 c.1 (subst (λ (v : ℕ). ScaledTo v c.0 c.1) (sym z) c.2)
  where
    some : (q : ℕ) → 0 < q * 2 ^ x → 0 < q
    some q h = first_pos q (2 ^ x) h

-- of every finite f32 above zero: its units, and the bits of its root
found : (x : Float) → T (fits binary32 x) → T (positive x) → (u : Units x) × (r : ℕ) × RootBits (u.0 * 2 ^ 149) r × (sqrt_of x ≡ of_bits binary32 r)
found x f p =
    let u = units_of x f p in
    let r = has-root u.0 (value_pos x u.0 (2 ^ 149) p (pow_pos 149) u.1) u.2 (shape x u.0 f u.1) in
    (u, r.0, r.1, root-value x u.0 r.0 u.1 p u.2 r.1)

pub sqrt-nearest : (x : Float) → T (fits binary32 x) → T (positive x) → NearRoot x (sqrt_of x)
sqrt-nearest x f p =
    let (u, r, w, e) = found x f p in
    subst (NearRoot x) (sym e) (near-root x u.0 r u.1 w)

-- ---- half a step, over squares: where x is a units and its root c,
-- a * 2 ^ 149 differs from c * c by at most one part in 2 ^ 23 of that
pub record RootWithin (x : Float) : Type 0 where
  pub a : ℕ
  pub c : ℕ
  pub x-is : HasValue x false a (2 ^ 149)
  pub root_is : HasValue (sqrt_of x) false c (2 ^ 149)
  pub low : 2 ^ 23 * (c * c) ≤ 2 ^ 23 * (a * 2 ^ 149) + c * c
  pub high : 2 ^ 23 * (a * 2 ^ 149) ≤ 2 ^ 23 * (c * c) + c * c

pub sqrt-within : (x : Float) → T (fits binary32 x) → T (positive x) → RootWithin x
sqrt-within x f p =
    let (u, r, w, e) = found x f p in
    let t = steps w.q w.m (2 ^ w.k) (u.0 * 2 ^ 149) w.low w.under w.over w.scaled.same in
    record {
      a = u.0;
      c = w.q * 2 ^ w.k;
      x-is = u.1;
      root_is = subst (λ (v : Float). HasValue v false (w.q * 2 ^ w.k) (2 ^ 149)) (sym e) (bits-value (u.0 * 2 ^ 149) r w);
      low = t.0;
      high = t.1;
    }
  where
    -- q is within a half of √m, and so q * q within q of m
    steps : (q m k n : ℕ) → 2 ^ 23 ≤ q → q * q < m + q → m ≤ q * q + q → m * (k * k) ≡ n
        → (2 ^ 23 * (q * k * (q * k)) ≤ 2 ^ 23 * n + q * k * (q * k)) × (2 ^ 23 * n ≤ 2 ^ 23 * (q * k * (q * k)) + q * k * (q * k))
    steps q m k n l h g e =
        let big : 2 ^ 23 * q ≤ q * q = mul-le-mul_right q l in
        let lo : 2 ^ 23 * (q * q) ≤ 2 ^ 23 * m + q * q = omega arith in
        let hi : 2 ^ 23 * m ≤ 2 ^ 23 * (q * q) + q * q = omega arith in
        (omega (arith, mul-le-mul_right (k * k) lo), omega (arith, mul-le-mul_right (k * k) hi))
