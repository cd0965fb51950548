-- `sqrt_of`, which rounds a root through a half unit, is what the code works out. Assumes nothing.
use mathlib.Core.Path.{◌≡◌, refl, sym, ap, ◌∙◌, subst}
use mathlib.Core.Logic.{◌⊎◌, inl, inr}
use Prim.Native.Nat.{ℕ, zero, suc, ◌+◌, ◌-◌, ◌*◌, ◌/◌, ◌%◌, ◌^◌, ◌≤◌, ◌<◌, zero-le, compare}
use native.Mathlib.Nat.{le_trans, le_of_lt, le_of_eq, lt_of_le_of_lt, lt_of_lt_of_le, lt_of_not-le, not-le_of_lt, eq-or-lt_of_le, pow-succ'}
use native.Mathlib.Nat.{mul_assoc, mul-one, mul_right_comm, mul-mul-mul_comm, mul-pos, mul-le-mul, mul-le-mul_right, mul-lt-mul_of_pos_right}
use native.Mathlib.Nat.{lt_of_mul-lt-mul_right, mul-div_cancel, mod-lt, div-add-mod'}
use native.Mathlib.Omega.{arith}
use mathlib.Core.Bool.{Bool, true, false, cond}
use lib.Dec.{T, leb, eqb, lit<, lit≤}
use lib.Pow.{pow-add, pow_pos, shl_lt}
use lib.Ieee.{Float, nan, inf, fin, binary32, up, down, size, nearest, units, round, of_bits}
use lib.Ieee.Fits.{down_pos, round_is}
use lib.Ieee.Exact.{HasValue}
use lib.Ieee.Nearest.{closest, closest_same, div_same}
use lib.Ieee.Positive.{positive, value_pos}
use borrow.Author.Tests.{leb-true, leb-false, eqb-true}
use Rattle.float_root.specs.Root.{root_to, twice_root, sqrt_of}
use Rattle.float_root.specs.Steps.{RootBits}
use Rattle.float_bits.proofs.Laws.{here_or_on, size_exact, sub24, nearest-lt, nearest-gt}
use Rattle.float_root.proofs.Roots.{of_bits-units}

-- ---- the root digit by digit
abbrev RootOf : ℕ → ℕ → Type 0
RootOf r n = (r * r ≤ n) × (n < (r + 1) * (r + 1))

pub root-to : (k n : ℕ) → n < 4 ^ k → RootOf (root_to k n) n
unfolding root_to
root-to zero n h = (zero-le, h)
root-to (suc k) n h =
    let r = root_to k (n / 4) in
    let l : n / 4 < 4 ^ k = omega (arith, pow-succ' 4 k) in
    next n r (root-to k (n / 4) l) (leb ((2 * r + 1) * (2 * r + 1)) n) refl
  where
    next : (n r : ℕ) → RootOf r (n / 4) → (b : Bool) → leb ((2 * r + 1) * (2 * r + 1)) n ≡ b → RootOf (cond b (2 * r + 1) (2 * r)) n
    next n r h true e = (leb-true ((2 * r + 1) * (2 * r + 1)) n e, omega (arith, h.1))
    next n r h false e = (omega (arith, h.0), leb-false ((2 * r + 1) * (2 * r + 1)) n e)

-- ---- what twice the root lies between
less-root : (x y : ℕ) → x * x < y * y → x < y
less-root x y h = lt_of_not-le (λ (g : y ≤ x). not-le_of_lt h (mul-le-mul g g))

module _ (n r : ℕ) (h : RootOf r n) where
  abbrev Twice : Bool → ℕ
  Twice b = 2 * r + cond b 0 1

  over : (x : ℕ) → x * x < n → (b : Bool) → eqb (r * r) n ≡ b → 2 * x < Twice b
  over x l true e = let g : x < r = less-root x r (lt_of_lt_of_le l (le_of_eq (sym (eqb-true (r * r) n e)))) in omega arith
  over x l false e = let g : x < r + 1 = less-root x (r + 1) (lt_of_lt_of_le l (le_of_lt h.1)) in omega arith

  under : (y : ℕ) → n < y * y → (b : Bool) → Twice b < 2 * y
  under y l b = let g : r < y = less-root r y (lt_of_le_of_lt h.0 l) in go b g
    where
      go : (b : Bool) → r < y → Twice b < 2 * y
      go true g = omega arith
      go false g = omega arith

  reach : (z : ℕ) → z * z ≤ n → (b : Bool) → 2 * z ≤ Twice b
  reach z l b = let g : z < r + 1 = less-root z (r + 1) (lt_of_le_of_lt l h.1) in go b g
    where
      go : (b : Bool) → z < r + 1 → 2 * z ≤ Twice b
      go true g = omega arith
      go false g = omega arith

module _ (n : ℕ) (l : n < 4 ^ 213) where
  twice-over : (x : ℕ) → x * x < n → 2 * x < twice_root n
  unfolding twice_root
  twice-over x h = over n (root_to 213 n) (root-to 213 n l) x h (eqb (root_to 213 n * root_to 213 n) n) refl

  twice-under : (y : ℕ) → n < y * y → twice_root n < 2 * y
  unfolding twice_root
  twice-under y h = under n (root_to 213 n) (root-to 213 n l) y h (eqb (root_to 213 n * root_to 213 n) n)

  twice-reach : (z : ℕ) → z * z ≤ n → 2 * z ≤ twice_root n
  unfolding twice_root
  twice-reach z h = reach n (root_to 213 n) (root-to 213 n l) z h (eqb (root_to 213 n * root_to 213 n) n)

-- ---- a / u lies within a half of q
between : (w q u : ℕ) → w * u < q * u + u → q * u < w * u + u → w ≡ q
between w q u a b =
    let c : w < q + 1 = lt_of_mul-lt-mul_right u (omega arith) in
    let d : q < w + 1 = lt_of_mul-lt-mul_right u (omega arith) in
    omega arith

closest-is : (a u q : ℕ) → 0 < u → 2 * (q * u) < 2 * a + u → 2 * a < 2 * (q * u) + u → closest a u ≡ q
closest-is a u q p lo hi = go (a / u) (a % u) (div-add-mod' a u) (mod-lt a p) (here_or_on (a % u * 2) u)
  where
    tie : (w d : ℕ) → w * u + d ≡ a → u ≡ d * 2 → ⊥
    tie w d e c =
        let g : w < q = lt_of_mul-lt-mul_right u (omega arith) in
        let h : (w + 1) * u ≤ q * u = mul-le-mul_right u (omega arith) in
        omega arith

    go : (w d : ℕ) → w * u + d ≡ a → d < u → (d * 2 < u) ⊎ (u ≤ d * 2) → nearest w (compare (d * 2) u) ≡ q
    go w d e l (inl c) = nearest-lt w (d * 2) u c ∙ between w q u (omega arith) (omega arith)
    go w d e l (inr c) = elim (eq-or-lt_of_le c) [
      | inl t ↦ absurd (tie w d e t)
      | inr t ↦ nearest-gt w (d * 2) u t ∙ between (w + 1) q u (omega arith) (omega arith)
    ]

-- ---- the rounding of twice the root
-- x = (2w + 1) p lies below √n and y = (2w + 3) p above it, where n = m * (2p * 2p) and w + 1 is nearest to √m
low-mid : (m w p : ℕ) → 0 < p → (w + 1) * (w + 1) < m + (w + 1) → (2 * w + 1) * p * ((2 * w + 1) * p) < m * (2 * p * (2 * p))
low-mid m w p P h =
    let i : (2 * w + 1) * (2 * w + 1) < 4 * m = omega arith in
    lt_of_le_of_lt (le_of_eq (mul-mul-mul_comm (2 * w + 1) p (2 * w + 1) p))
    (lt_of_lt_of_le (mul-lt-mul_of_pos_right i (mul-pos P P)) (le_of_eq (quads m p)))
  where
    quads : (m p : ℕ) → 4 * m * (p * p) ≡ m * (2 * p * (2 * p))
    quads m p = omega arith

high-mid : (m q p : ℕ) → 0 < p → m ≤ q * q + q → m * (2 * p * (2 * p)) < (2 * q + 1) * p * ((2 * q + 1) * p)
high-mid m q p P h =
    let i : 4 * m < (2 * q + 1) * (2 * q + 1) = omega arith in
    lt_of_le_of_lt (le_of_eq (quads m p))
    (lt_of_lt_of_le (mul-lt-mul_of_pos_right i (mul-pos P P)) (le_of_eq (sym (mul-mul-mul_comm (2 * q + 1) p (2 * q + 1) p))))
  where
    quads : (m p : ℕ) → m * (2 * p * (2 * p)) ≡ 4 * m * (p * p)
    quads m p = omega arith

-- t is twice the root: the kept digits are w + 1
kept : (t w p : ℕ) → 0 < p → 2 * ((2 * w + 1) * p) < t → t < 2 * ((2 * (w + 1) + 1) * p) → closest t (2 * (2 * p)) ≡ w + 1
kept t w p P lo hi = closest-is t (2 * (2 * p)) (w + 1) (omega arith) (omega arith) (omega arith)

halved : (t a : ℕ) → 2 * 2 ^ a ≤ t → t < 2 * 2 ^ suc a → size (t / 2) ≡ suc a
halved t a lo hi = size_exact a (t / 2) (omega arith) (omega arith)

-- q * 2 ^ k units, q nearest to √m and n = m * 4 ^ k, is what twice the root of n is rounded to
module _ (n m w j : ℕ) (few : n < 4 ^ 213) (same : m * (2 ^ suc j * 2 ^ suc j) ≡ n) (lo : 2 ^ 46 ≤ m) (hi : m < 2 ^ 48)
    (under : (w + 1) * (w + 1) < m + (w + 1)) (over : m ≤ (w + 1) * (w + 1) + (w + 1)) where
  same' : m * (2 * 2 ^ j * (2 * 2 ^ j)) ≡ n
  same' = ap (λ (z : ℕ). m * (z * z)) (sym (pow-succ' 2 j)) ∙ same

  digits : closest (twice_root n) (2 * 2 ^ suc j) ≡ w + 1
  digits =
      ap (λ (z : ℕ). closest (twice_root n) (2 * z)) (pow-succ' 2 j)
      ∙ kept (twice_root n) w (2 ^ j) (pow_pos j)
      (twice-over n few ((2 * w + 1) * 2 ^ j)
      (subst (λ (z : ℕ). (2 * w + 1) * 2 ^ j * ((2 * w + 1) * 2 ^ j) < z) same' (low-mid m w (2 ^ j) (pow_pos j) under)))
      (twice-under n few ((2 * (w + 1) + 1) * 2 ^ j)
      (subst (λ (z : ℕ). z < (2 * (w + 1) + 1) * 2 ^ j * ((2 * (w + 1) + 1) * 2 ^ j)) same' (high-mid m (w + 1) (2 ^ j) (pow_pos j) over)))

  -- 2 ^ (i + k) squared
  square : (i : ℕ) → 2 ^ (i + suc j) * 2 ^ (i + suc j) ≡ 2 ^ i * 2 ^ i * (2 ^ suc j * 2 ^ suc j)
  square i = ap (λ (z : ℕ). z * z) (pow-add 2 i (suc j)) ∙ mul-mul-mul_comm (2 ^ i) (2 ^ suc j) (2 ^ i) (2 ^ suc j)

  sized : size (twice_root n / 2) ≡ suc (23 + suc j)
  sized =
      halved (twice_root n) (23 + suc j)
      (twice-reach n few (2 ^ (23 + suc j)) (le_trans (le_of_eq (square 23))
      (le_trans (mul-le-mul_right (2 ^ suc j * 2 ^ suc j) lo) (le_of_eq same))))
      (twice-under n few (2 ^ suc (23 + suc j))
      (subst (λ (z : ℕ). n < 2 ^ z * 2 ^ z) (one_up j)
      (lt_of_le_of_lt (le_of_eq (sym same)) (lt_of_lt_of_le
      (mul-lt-mul_of_pos_right hi (mul-pos (pow_pos (suc j)) (pow_pos (suc j)))) (le_of_eq (sym (square 24)))))))
    where
      one_up : (j : ℕ) → 24 + suc j ≡ suc (23 + suc j)
      one_up j = omega arith

  rounds : round binary32 false (twice_root n) (2 ^ 150) ≡ units binary32 false (w + 1) (suc j)
  rounds =
      let t = twice_root n in
      round_is binary32 false t (2 ^ 150)
      ∙ ap (λ (z : ℕ). units binary32 false (closest (t * 2 ^ 149) (2 ^ 150 * 2 ^ z)) z)
      (sub24 (size (t * 2 ^ 149 / 2 ^ 150)) (suc j) (ap size (div_same (t * 2 ^ 149) (2 ^ 150) t 2 (pow_pos 150) (lit< tt) (mul_assoc t (2 ^ 149) 2)) ∙ sized))
      ∙ ap (λ (z : ℕ). units binary32 false z (suc j))
      (closest_same (t * 2 ^ 149) (2 ^ 150 * 2 ^ suc j) t (2 * 2 ^ suc j) (mul-pos (pow_pos 150) (pow_pos (suc j))) (mul-pos (lit< tt) (pow_pos (suc j)))
      (mul_assoc t (2 ^ 149) (2 * 2 ^ suc j) ∙ ap (λ (z : ℕ). t * z) (sym (mul_assoc (2 ^ 149) 2 (2 ^ suc j))))
      ∙ digits)

-- ---- the code's bits
pub root-rounds : (n r : ℕ) → n < 4 ^ 213 → 2 ^ 149 ≤ n → RootBits n r → round binary32 false (twice_root n) (2 ^ 150) ≡ of_bits binary32 r
root-rounds n r few big w =
    go w.k w.q w.scaled.same w.low w.high w.under w.over w.scaled.few w.is
  where
    go : (k q : ℕ) → w.m * (2 ^ k * 2 ^ k) ≡ n → 2 ^ 23 ≤ q → q ≤ 2 ^ 24 → q * q < w.m + q → w.m ≤ q * q + q → k ≤ 201 → k * 2 ^ 23 + q ≡ r
        → round binary32 false (twice_root n) (2 ^ 150) ≡ of_bits binary32 r
    go zero q s lo hi u o f e = absurd (not-le_of_lt (lt_of_lt_of_le w.scaled.high (lit≤ tt)) (le_trans big (le_of_eq (sym s ∙ mul-one w.m))))
    go (suc j) q s lo hi u o f e =
        let p : q ≡ (q - 1) + 1 = omega arith in
        rounds n w.m (q - 1) j few s w.scaled.low w.scaled.high (subst (λ (z : ℕ). z * z < w.m + z) p u) (subst (λ (z : ℕ). w.m ≤ z * z + z) p o)
        ∙ ap (λ (z : ℕ). units binary32 false z (suc j)) (sym p)
        ∙ sym (of_bits-units q (suc j) lo hi f)
        ∙ ap (of_bits binary32) e

-- ---- by the value
whole : (v a d : ℕ) → 0 < d → v * 2 ^ 149 ≡ a * d → v * 2 ^ 298 / d ≡ a * 2 ^ 149
whole v a d p h =
    ap (λ (z : ℕ). z / d) (sym (mul_assoc v (2 ^ 149) (2 ^ 149)) ∙ ap (λ (z : ℕ). z * 2 ^ 149) h ∙ mul_right_comm a d (2 ^ 149))
    ∙ mul-div_cancel (a * 2 ^ 149) p

sqrt-val : (x : Float) (a : ℕ) → HasValue x false a (2 ^ 149) → T (positive x) → sqrt_of x ≡ round binary32 false (twice_root (a * 2 ^ 149)) (2 ^ 150)
unfolding sqrt_of
sqrt-val nan a h p = absurd h
sqrt-val (inf s) a h p = absurd h
sqrt-val (fin true m e) a h p = absurd p
sqrt-val (fin false zero e) a h p = absurd p
sqrt-val (fin false (suc m) e) a h p = ap (λ (z : ℕ). round binary32 false (twice_root z) (2 ^ 150)) (whole (suc m * up e) a (down e) (down_pos e) h.1)

pub root-value : (x : Float) (a r : ℕ) → HasValue x false a (2 ^ 149) → T (positive x) → a < 2 ^ 277 → RootBits (a * 2 ^ 149) r → sqrt_of x ≡ of_bits binary32 r
root-value x a r h p l w =
    let A : 0 < a = value_pos x a (2 ^ 149) p (pow_pos 149) h in
    sqrt-val x a h p ∙ root-rounds (a * 2 ^ 149) r (shl_lt 277 149 l) (mul-le-mul_right (2 ^ 149) A) w
