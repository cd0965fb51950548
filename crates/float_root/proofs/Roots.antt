-- Square roots in whole numbers. Assumes nothing.
use mathlib.Core.Path.{◌≡◌, refl, sym, ap, ◌∙◌, subst}
use mathlib.Core.Logic.{◌⊎◌, inl, inr}
use Prim.Native.Nat.{ℕ, zero, suc, ◌+◌, ◌-◌, ◌*◌, ◌/◌, ◌%◌, ◌^◌, ◌≤◌, ◌<◌}
use native.Mathlib.Nat.{le_trans, le_of_eq, le_of_lt, lt_of_lt_of_le, lt_of_le_of_lt, lt_of_not-le, not-le_of_lt}
use native.Mathlib.Nat.{mul-one, mul_assoc, mul-le-mul, mul-le-mul_left, mul-le-mul_right, mul-lt-mul_of_pos_right, pow-succ'}
use native.Mathlib.Nat.{zero-add, mul-pos, mul-mul-mul_comm, le_of_suc-le-suc, eq-or-lt_of_le}
use native.Mathlib.Nat.{eq_of_mul-eq-mul_right, lt_of_mul-lt-mul_right}
use native.Mathlib.Omega.{arith}
use mathlib.Core.Bool.{false}
use lib.Count.{count_leading_zeros}
use lib.Dec.{T, ltb, lit<, lit≤}
use Rattle.std.proofs.lemmas.Nat.{leading_top}
use lib.Pow.{pow-add, pow_pos, pow_mono, shl_lt}
use lib.Ieee.{Float, nan, inf, fin, binary32, down, odd, units, fits, of_bits}
use lib.Ieee.Fits.{down_pos, odd-fits, cond-fits, inf-fits}
use lib.Ieee.Bits.{of_bits-fits, of_bits-to_bits}
use lib.Ieee.Exact.{HasValue, units_val}
use Rattle.float_root.specs.Root.{NearRoot}
use Rattle.float_bits.specs.Steps.{significand}
use Rattle.float_root.specs.Steps.{ScaledTo, RootBits}
use Rattle.float_bits.proofs.Laws.{here_or_on, parity, pow_lt_back, finite-bits}
use Rattle.float_bits.proofs.Values.{parts, places}

-- ---- the start: h is even or odd
halves : (h : ℕ) → h % 2 ≡ 0 → h / 2 + h / 2 ≡ h
halves h e = omega arith

halves' : (h : ℕ) → h % 2 ≡ 1 → suc (h / 2 + h / 2) ≡ h
halves' h e = omega arith

twice : (q p : ℕ) → q * 2 * (p * p) ≡ q * (2 * (p * p))
twice q p = omega arith

pub start : (q h : ℕ) → q * (1 + h % 2) * (2 ^ (h / 2) * 2 ^ (h / 2)) ≡ q * 2 ^ h
start q h = elim (parity h) [
  | inl e ↦
      ap (λ (r : ℕ). q * (1 + r) * (2 ^ (h / 2) * 2 ^ (h / 2))) e
      ∙ ap (λ (z : ℕ). z * (2 ^ (h / 2) * 2 ^ (h / 2))) (mul-one q)
      ∙ ap (λ (z : ℕ). q * z) (sym (pow-add 2 (h / 2) (h / 2)) ∙ ap (λ (z : ℕ). 2 ^ z) (halves h e))
  | inr e ↦
      ap (λ (r : ℕ). q * (1 + r) * (2 ^ (h / 2) * 2 ^ (h / 2))) e
      ∙ twice q (2 ^ (h / 2))
      ∙ ap (λ (z : ℕ). q * z) (ap (λ (z : ℕ). 2 * z) (sym (pow-add 2 (h / 2) (h / 2))) ∙ sym (pow-succ' 2 (h / 2 + h / 2)) ∙ ap (λ (z : ℕ). 2 ^ z) (halves' h e))
]

-- ---- how far it goes up: by pairs of digits, to 47 or 48 of them
abbrev pub pairs : ℕ → ℕ
pairs m = (count_leading_zeros 64 m - 16) / 2

module _ (m : ℕ) (p : 0 < m) (l : m < 2 ^ 25) where
  leads : (j : ℕ) × (count_leading_zeros 64 m + suc j ≡ 64) × (2 ^ j ≤ m) × (m < 2 ^ suc j) × (j < 25)
  leads =
      let (j, s, lo, hi) = leading_top 64 m p (lt_of_lt_of_le l (lit≤ tt)) in
      (j, s, lo, hi, pow_lt_back j 25 (lt_of_le_of_lt lo l))

  pub enough : 16 ≤ count_leading_zeros 64 m
  enough = let (j, s, lo, hi, f) = leads in omega (arith, s, f)

  pub few-pairs : pairs m ≤ 23
  few-pairs = let (j, s, lo, hi, f) = leads in omega (arith, s)

  pub raised-low : 2 ^ 46 ≤ m * 2 ^ (2 * pairs m)
  raised-low =
      let (j, s, lo, hi, f) = leads in
      let g : 46 ≤ j + 2 * pairs m = omega (arith, s, f) in
      le_trans (pow_mono g) (le_trans (le_of_eq (pow-add 2 j (2 * pairs m))) (mul-le-mul_right (2 ^ (2 * pairs m)) lo))

  pub raised-high : m * 2 ^ (2 * pairs m) < 2 ^ 48
  raised-high =
      let (j, s, lo, hi, f) = leads in
      let g : suc j + 2 * pairs m ≤ 48 = omega (arith, s, f) in
      lt_of_lt_of_le (shl_lt (suc j) (2 * pairs m) hi) (pow_mono g)

raised : (m p k : ℕ) → m * 2 ^ (2 * p) * (2 ^ k * 2 ^ k) ≡ m * (2 ^ (p + k) * 2 ^ (p + k))
raised m p k =
    let two : 2 * p ≡ p + p = omega arith in
    ap (λ (z : ℕ). m * z * (2 ^ k * 2 ^ k)) (ap (λ (z : ℕ). 2 ^ z) two ∙ pow-add 2 p p)
    ∙ regroup (2 ^ p) (2 ^ k)
    ∙ ap (λ (z : ℕ). m * (z * z)) (sym (pow-add 2 p k))
  where
    regroup : (a b : ℕ) → m * (a * a) * (b * b) ≡ m * (a * b * (a * b))
    regroup a b = omega arith

module _ (q h : ℕ) (p : 0 < q) (l : q < 2 ^ 24) (g : 149 ≤ h) where
  abbrev pub first : ℕ
  first = q * (1 + h % 2)

  pub first-pos : 0 < first
  first-pos = mul-pos p (omega arith)

  pub first_small : first < 2 ^ 25
  first_small =
      let two : 1 + h % 2 ≤ 2 = omega arith in
      omega (arith, mul-le-mul_left q two)

  pub raised-same : first * 2 ^ (2 * pairs first) * (2 ^ (h / 2 - pairs first) * 2 ^ (h / 2 - pairs first)) ≡ q * 2 ^ h
  raised-same =
      let back : pairs first + (h / 2 - pairs first) ≡ h / 2 = omega (arith, few-pairs first first-pos first_small) in
      raised first (pairs first) (h / 2 - pairs first) ∙ ap (λ (z : ℕ). first * (2 ^ z * 2 ^ z)) back ∙ start q h

  pub scaled-up : h / 2 - pairs first ≤ 201 → ScaledTo (q * 2 ^ h) (first * 2 ^ (2 * pairs first)) (h / 2 - pairs first)
  scaled-up few = record {
    same = raised-same;
    low = raised-low first first-pos first_small;
    high = raised-high first first-pos first_small;
    few = few;
  }

-- ---- from the fields to the radicand
pub rad_norm : (e t m k : ℕ) → (e ≡ 0 → ⊥) → ScaledTo ((2 ^ 23 + t) * 2 ^ (e + 148)) m k → ScaledTo (significand binary32 e t * 2 ^ 149) m k
rad_norm zero t m k n h = absurd (n refl)
rad_norm (suc x) t m k n h =
    subst (λ (v : ℕ). ScaledTo v m k) (ap (λ (z : ℕ). (2 ^ 23 + t) * 2 ^ z) (move x) ∙ ap (λ (z : ℕ). (2 ^ 23 + t) * z) (pow-add 2 x 149)
    ∙ sym (mul_assoc (2 ^ 23 + t) (2 ^ x) (2 ^ 149))) h
  where
    move : (x : ℕ) → suc x + 148 ≡ x + 149
    move x = omega arith

-- ---- the whole number nearest to a root
root-lo : (m s : ℕ) → 2 ^ 46 ≤ m → m < (s + 1) * (s + 1) → 2 ^ 23 ≤ s
root-lo m s h l = go (here_or_on s (2 ^ 23))
  where
    no : s < 2 ^ 23 → ⊥
    no g = not-le_of_lt (lt_of_le_of_lt h l) (mul-le-mul (next g) (next g))
      where
        next : s < 2 ^ 23 → s + 1 ≤ 2 ^ 23
        next g = omega arith

    go : (s < 2 ^ 23) ⊎ (2 ^ 23 ≤ s) → 2 ^ 23 ≤ s
    go (inl g) = absurd (no g)
    go (inr g) = g

root-hi : (m s : ℕ) → s * s ≤ m → m < 2 ^ 48 → s < 2 ^ 24
root-hi m s h l = lt_of_not-le (λ (g : 2 ^ 24 ≤ s). not-le_of_lt (lt_of_le_of_lt h l) (mul-le-mul g g))

pub root-up : (n m k s : ℕ) → ScaledTo n m k → s * s ≤ m → m < (s + 1) * (s + 1) → s < m - s * s → RootBits n (k * 2 ^ 23 + (s + 1))
root-up n m k s w lo hi g =
    let a : 2 ^ 23 ≤ s = root-lo m s w.low hi in
    let b : s < 2 ^ 24 = root-hi m s lo w.high in
    record { m = m; k = k; q = s + 1; scaled = w; low = omega arith; high = omega arith; under = omega arith; over = omega arith; is = refl }

pub root-down : (n m k s : ℕ) → ScaledTo n m k → s * s ≤ m → m < (s + 1) * (s + 1) → m - s * s ≤ s → RootBits n (k * 2 ^ 23 + s)
root-down n m k s w lo hi g =
    let a : 2 ^ 23 ≤ s = root-lo m s w.low hi in
    let b : s < 2 ^ 24 = root-hi m s lo w.high in
    record { m = m; k = k; q = s; scaled = w; low = a; high = omega arith; under = omega arith; over = omega arith; is = refl }

-- ---- the values of a format as whole numbers of units
abbrev pub Shape : ℕ → Type 0
Shape b = (n : ℕ) × (x : ℕ) × (n < 2 ^ 24) × (b ≡ n * 2 ^ x)

pub shape : (y : Float) (b : ℕ) → T (fits binary32 y) → HasValue y false b (2 ^ 149) → Shape b
shape nan b f h = absurd h
shape (inf s) b f h = absurd h
shape (fin s m e) b f h =
    let p = parts binary32 s m e f in
    let (j, q) = places m e 149 p.fine in
    (m, j, p.few, eq_of_mul-eq-mul_right (down e) (down_pos e) b (m * 2 ^ j) (sym h.1 ∙ q))

-- from 2 ^ (23 + k) units on, a value is a multiple of 2 ^ k of them
multiple : (b k : ℕ) → Shape b → 2 ^ 23 * 2 ^ k ≤ b → (j : ℕ) × (b ≡ j * 2 ^ k)
multiple b k (n, x, l, e) h =
    let g : k ≤ x =
    le_of_suc-le-suc (lt_of_not-le (λ (g : suc x ≤ k). not-le_of_lt (subst (λ (z : ℕ). z < 2 ^ (24 + x)) (sym e) (shl_lt 24 x l))
    (le_trans (pow_mono (less x k g)) (le_trans (le_of_eq (pow-add 2 23 k)) h)))) in (
      n * 2 ^ (x - k),
      e ∙ ap (λ (z : ℕ). n * 2 ^ z) (sym (back x k g))
          ∙ ap (λ (z : ℕ). n * z) (pow-add 2 (x - k) k) ∙ sym (mul_assoc n (2 ^ (x - k)) (2 ^ k)),
    )
  where
    less : (x k : ℕ) → suc x ≤ k → 24 + x ≤ 23 + k
    less x k h = omega arith

    back : (x k : ℕ) → k ≤ x → x - k + k ≡ x
    back x k h = omega arith

-- ---- nearer than any other
module _ (n m q p : ℕ) (p-pos : 0 < p) (same : m * (p * p) ≡ n) where
  above-mid : (b : ℕ) → m ≤ q * q + q → suc q * p ≤ b → 4 * n < (b + q * p) * (b + q * p)
  above-mid b h l =
      let s : (2 * q + 1) * p ≤ b + q * p = omega arith in
      let i : 4 * m < (2 * q + 1) * (2 * q + 1) = omega arith in
      lt_of_lt_of_le
      (subst (λ (z : ℕ). 4 * z < (2 * q + 1) * (2 * q + 1) * (p * p)) same
      (lt_of_le_of_lt (le_of_eq (sym (mul_assoc 4 m (p * p)))) (mul-lt-mul_of_pos_right i (mul-pos p-pos p-pos))))
      (le_trans (le_of_eq (mul-mul-mul_comm (2 * q + 1) (2 * q + 1) p p)) (mul-le-mul s s))

  below-mid : (b w : ℕ) → q ≡ suc w → q * q < m + q → b ≤ w * p → (b + q * p) * (b + q * p) < 4 * n
  below-mid b w e h l =
      let z : q * p ≡ suc w * p = ap (λ (x : ℕ). x * p) e in
      let s : b + q * p ≤ (2 * w + 1) * p = omega arith in
      let h' : suc w * suc w < m + suc w = subst (λ (x : ℕ). x * x < m + x) e h in
      let i : (2 * w + 1) * (2 * w + 1) < 4 * m = omega arith in
      lt_of_le_of_lt
      (le_trans (mul-le-mul s s) (le_of_eq (sym (mul-mul-mul_comm (2 * w + 1) (2 * w + 1) p p))))
      (subst (λ (z : ℕ). (2 * w + 1) * (2 * w + 1) * (p * p) < 4 * z) same
      (lt_of_lt_of_le (mul-lt-mul_of_pos_right i (mul-pos p-pos p-pos)) (le_of_eq (mul_assoc 4 m (p * p)))))

  -- q is the least of its binade, and √m is no less
  at_least : (b : ℕ) → q * q ≤ m → b < q * p → (b + q * p) * (b + q * p) < 4 * n
  at_least b h l =
      let c = q * p in
      let s : b + c < 2 * c = omega arith in
      let c_pos : 0 < 2 * c = omega arith in
      lt_of_le_of_lt (mul-le-mul_left (b + c) (le_of_lt s))
      (lt_of_lt_of_le (mul-lt-mul_of_pos_right s c_pos)
      (subst (λ (z : ℕ). 2 * c * (2 * c) ≤ 4 * z) same (le_trans (le_of_eq (square q p)) (mul-le-mul_left 4 (mul-le-mul_right (p * p) h)))))
    where
      square : (q p : ℕ) → 2 * (q * p) * (2 * (q * p)) ≡ 4 * (q * q * (p * p))
      square q p = omega arith

cut : (q w : ℕ) → q ≡ suc w → (2 ^ 23 < q) → 2 ^ 23 ≤ w
cut q w e h = omega arith

suc-of : (q : ℕ) → 0 < q → q ≡ suc (q - 1)
suc-of q h = omega arith

-- ---- the value that the bits stand for
units-fits : (q k : ℕ) → q ≤ 2 ^ 24 → q * 2 ^ k < 2 ^ 277 → T (fits binary32 (units binary32 false q k))
unfolding units
units-fits q k h l =
    cond-fits binary32 (ltb (q * 2 ^ k) (2 ^ 277)) (odd 25 false q k 149) (inf false)
    (odd-fits binary32 25 false q k (lt_of_le_of_lt h (lit< tt)) h l) (inf-fits binary32 false)

in-range : (q k : ℕ) → q ≤ 2 ^ 24 → k ≤ 201 → q * 2 ^ k < 2 ^ 277
in-range q k h l = lt_of_le_of_lt (mul-le-mul h (pow_mono l)) (lit< tt)

pub of_bits-units : (q k : ℕ) → 2 ^ 23 ≤ q → q ≤ 2 ^ 24 → k ≤ 201 → of_bits binary32 (k * 2 ^ 23 + q) ≡ units binary32 false q k
of_bits-units q k lo hi l =
    ap (of_bits binary32) (sym (finite-bits false q k hi (λ l. absurd (not-le_of_lt l lo)) (in-range q k hi l) ∙ zero-add (k * 2 ^ 23 + q)))
    ∙ of_bits-to_bits binary32 (units binary32 false q k) (units-fits q k hi (in-range q k hi l))

-- the value of a root's bits
pub bits-value : (n r : ℕ) (w : RootBits n r) → HasValue (of_bits binary32 r) false (w.q * 2 ^ w.k) (2 ^ 149)
bits-value n r w =
    let k = w.k in
    let q = w.q in
    subst (λ (b : ℕ). HasValue (of_bits binary32 b) false (q * 2 ^ k) (2 ^ 149)) w.is
    (subst (λ (v : Float). HasValue v false (q * 2 ^ k) (2 ^ 149)) (sym (of_bits-units q k w.low w.high w.scaled.few))
    (units_val binary32 false q k (in-range q k w.high w.scaled.few)))

pub near-root : (x : Float) (a r : ℕ) → HasValue x false a (2 ^ 149) → RootBits (a * 2 ^ 149) r → NearRoot x (of_bits binary32 r)
near-root x a r h w =
    let m = w.m in
    let k = w.k in
    let q = w.q in
    let s = w.scaled.same in
    record {
      a = a;
      c = q * 2 ^ k;
      x-is = h;
      r-is = bits-value (a * 2 ^ 149) r w;
      r-fits = of_bits-fits binary32 r;
      below = λ y b f v l. below (a * 2 ^ 149) m k q b s w.low w.scaled.low w.under (shape y b f v) l;
      above = λ y b f v l. above (a * 2 ^ 149) m k q b s w.low w.over (shape y b f v) l;
    }
  where
    above : (n m k q b : ℕ) → m * (2 ^ k * 2 ^ k) ≡ n → 2 ^ 23 ≤ q → m ≤ q * q + q → Shape b → q * 2 ^ k < b
        → 4 * n < (b + q * 2 ^ k) * (b + q * 2 ^ k)
    above n m k q b s lo h z l =
        let g = multiple b k z (le_trans (mul-le-mul_right (2 ^ k) lo) (le_of_lt l)) in
        above-mid n m q (2 ^ k) (pow_pos k) s b h
        (le_trans (mul-le-mul_right (2 ^ k) (lt_of_mul-lt-mul_right (2 ^ k) (subst (λ (t : ℕ). q * 2 ^ k < t) g.1 l)))
        (le_of_eq (sym g.1)))

    under_it : (k q b w : ℕ) → q ≡ suc w → 2 ^ 23 ≤ w → Shape b → b < q * 2 ^ k
        → (b < 2 ^ 23 * 2 ^ k) ⊎ (2 ^ 23 * 2 ^ k ≤ b) → b ≤ w * 2 ^ k
    under_it k q b w e lo z l (inl g) = le_trans (le_of_lt g) (mul-le-mul_right (2 ^ k) lo)
    under_it k q b w e lo z l (inr g) =
        let j = multiple b k z g in
        le_trans (le_of_eq j.1)
        (mul-le-mul_right (2 ^ k) (le_of_suc-le-suc (subst (λ (t : ℕ). j.0 < t) e
        (lt_of_mul-lt-mul_right (2 ^ k) (subst (λ (t : ℕ). t < q * 2 ^ k) j.1 l)))))

    below : (n m k q b : ℕ) → m * (2 ^ k * 2 ^ k) ≡ n → 2 ^ 23 ≤ q → 2 ^ 46 ≤ m → q * q < m + q
        → Shape b → b < q * 2 ^ k → (b + q * 2 ^ k) * (b + q * 2 ^ k) < 4 * n
    below n m k q b s lo h u z l = elim (eq-or-lt_of_le lo) [
      | inl e ↦ at_least n m q (2 ^ k) (pow_pos k) s b (le_trans (le_of_eq (ap (λ (t : ℕ). t * t) (sym e))) h) l
      | inr g ↦
          let e : q ≡ suc (q - 1) = suc-of q (le_trans (lit≤ tt) lo) in
          below-mid n m q (2 ^ k) (pow_pos k) s b (q - 1) e u
          (under_it k q b (q - 1) e (cut q (q - 1) e g) z l (here_or_on b (2 ^ 23 * 2 ^ k)))
    ]
