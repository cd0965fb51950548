-- The samples of a band, each a value times the factor, and the exact sum of their squares. Assumes nothing.
use mathlib.Core.Path.{◌≡◌, refl, sym, ap, ap₂, ◌∙◌, subst}
use mathlib.Core.Bool.{Bool, false}
use mathlib.Core.Logic.{inl, inr}
use mathlib.Core.List.{List, [], ◌∷◌, ◌++◌}
use Prim.Native.Nat.{ℕ, zero, suc, ◌+◌, ◌-◌, ◌*◌, ◌/◌, ◌^◌, ◌≤◌, ◌<◌}
use native.Mathlib.Nat.{le_trans, le_of_eq, lt_of_le_of_lt, add_assoc, add-zero, zero-add, zero-mul, one-mul}
use native.Mathlib.Nat.{mul_assoc, mul_comm, mul-le-mul, mul-le-mul_left, mul-le-mul_right, le_of_mul-le-mul_right, mul-div_cancel}
use native.Mathlib.Omega.{arith}
use lib.Dec.{lit<, lit≤}
use lib.Pow.{pow_pos}
use lib.Ieee.{Float, nan, inf, fin, binary32, unlike, down, round}
use lib.Ieee.Fits.{down_pos}
use lib.Ieee.Exact.{HasValue}
use lib.Ieee.Scale.{grid}
use Rattle.std.proofs.lemmas.Bool.{cases_lt}
use Rattle.loops.specs.Front.{tab, length-tab, get_or-tab}
use Rattle.buffers.specs.Buffers.{times}
use Rattle.float_near.specs.Near.{Near}
use Rattle.float_near.specs.Rounded.{Rounded}
use Rattle.float_near.proofs.Half.{holds-above}
use Rattle.float_near.proofs.Operations.{round-grid, round-near, mul_at}
use Rattle.loudness.specs.Energy.{count, Counted, AllCounted, energy}
use Rattle.loudness.proofs.Sum.{squares}
use Rattle.loudness.proofs.Factor.{one149}

-- ---- one sample
pub count-is : (x : Float) (s : Bool) (a : ℕ) → HasValue x s a (2 ^ 149) → count x ≡ a
unfolding count
count-is nan s a h = absurd h
count-is (inf t) s a h = absurd h
count-is (fin t m e) s a h = ap (λ (z : ℕ). z / down e) h.1 ∙ mul-div_cancel a (down_pos e)

pub counted : (x : Float) (s : Bool) (a : ℕ) → HasValue x s a (2 ^ 149) → Counted x
counted x s a h = (s, subst (λ (z : ℕ). HasValue x s z (2 ^ 149)) (sym (count-is x s a h)) h)

-- a sample that is near a value's magnitude a times the factor's G
abbrev Sample : Float → ℕ → Type 0
Sample x b = Counted x × Near (2 ^ 24) (count x) b

sample_of : (x : Float) (s : Bool) (y b : ℕ) → HasValue x s y (2 ^ 149) → Near (2 ^ 24) y b → Sample x b
sample_of x s y b h n = (counted x s y h, subst (λ (z : ℕ). Near (2 ^ 24) z b) (sym (count-is x s y h)) n)

cancel : (c y b : ℕ) → 0 < c → Near (2 ^ 24) (y * (1 * c)) (b * c) → Near (2 ^ 24) y b
cancel c y b p n = record {
  low = le_of_mul-le-mul_right {k = c} (omega (arith, n.low)) p;
  high = le_of_mul-le-mul_right {k = c} (omega (arith, n.high)) p;
}

module _ (v g : Float) (s : Bool) (a G : ℕ) (few : a ≤ 2048) (is : HasValue v s a 1) (by : HasValue g false G one149)
    (over : one149 ≤ 2 ^ 18 * G) (under : G ≤ 4 * one149) where
  rounds : times g v ≡ round binary32 (unlike s false) (a * G) (1 * one149)
  rounds = mul_at binary32 v g s false a 1 G one149 (lit< tt) (pow_pos 149) is by

  -- a zero stays one
  none : a ≡ 0 → Sample (times g v) (a * G)
  none e =
      let y = grid binary32 (a * G) (1 * one149) in
      let z : a * G ≡ 0 = ap (λ (k : ℕ). k * G) e ∙ zero-mul G in
      let h : y ≤ 0 * 2 ^ 0 = holds-above binary32 (a * G) (1 * one149) (lit< tt) 0 0 (lit< tt)
      (le_of_eq (ap (λ (k : ℕ). k * 2 ^ 149) z ∙ zero-mul (2 ^ 149))) in
      sample_of (times g v) (unlike s false) y (a * G)
      (subst (λ (x : Float). HasValue x (unlike s false) y (2 ^ 149)) (sym rounds)
      (round-grid binary32 (unlike s false) (a * G) (1 * one149) (lt_of_le_of_lt h (lit< tt))))
      (record { low = omega arith; high = omega arith })

  some : 1 ≤ a → Sample (times g v) (a * G)
  some h =
      let r : Rounded binary32 (times g v) (unlike s false) (a * G) (1 * one149) =
      subst (λ (x : Float). Rounded binary32 x (unlike s false) (a * G) (1 * one149)) (sym rounds)
      (round-near binary32 (unlike s false) (a * G) (1 * one149) (lit< tt) normal in-range) in
      sample_of (times g v) (unlike s false) r.units (a * G) r.is (cancel one149 r.units (a * G) (pow_pos 149) r.near)
    where
      normal : 2 ^ 23 * (1 * one149) ≤ a * G * 2 ^ 149
      normal =
          let far : 2 ^ 41 ≤ 2 ^ 149 = lit≤ tt in
          le_trans (mul-le-mul_left (2 ^ 23) over)
          (le_trans (le_of_eq (sym (mul_assoc (2 ^ 23) (2 ^ 18) G)))
          (le_trans (mul-le-mul far (le_trans (le_of_eq (sym (one-mul G))) (mul-le-mul_right G h))) (le_of_eq (mul_comm (2 ^ 149) (a * G)))))

      in-range : a * G ≤ 2 ^ 127 * (1 * one149)
      in-range = le_trans (mul-le-mul few under) (lit≤ tt)

  pub sample : Sample (times g v) (a * G)
  sample = elim (cases_lt 0 a) [
    | inl h ↦ some h
    | inr h ↦ none (omega arith)
  ]

-- ---- all of them
energy-append : (xs ys : List Float) → energy (xs ++ ys) ≡ energy xs + energy ys
unfolding energy
energy-append [] ys = sym (zero-add (energy ys))
energy-append (x ∷ xs) ys = ap (λ (z : ℕ). count x * count x + z) (energy-append xs ys) ∙ sym (add_assoc (count x * count x) (energy xs) (energy ys))

pub energy-tab : (u : ℕ → Float) (n : ℕ) → energy (tab u n) ≡ squares (λ (i : ℕ). count (u i)) n
unfolding tab squares energy
energy-tab u zero = refl
energy-tab u (suc n) = energy-append (tab u n) (u n ∷ []) ∙ ap₂ ◌+◌ (energy-tab u n) (add-zero (count (u n) * count (u n)))

pub all-counted : (u : ℕ → Float) (n : ℕ) → ((i : ℕ) → i < n → Counted (u i)) → AllCounted (tab u n)
all-counted u n h i l =
    let k : i < n = omega (arith, length-tab u n) in
    subst Counted (sym (get_or-tab u n i nan k)) (h i k)

-- the squares' sums, if each is near
module _ (a y : ℕ → ℕ) (G : ℕ) (near : (i : ℕ) → Near (2 ^ 24) (y i) (a i * G)) where
  pub squares-low : (n : ℕ) → (2 ^ 24 - 1) * (2 ^ 24 - 1) * (squares a n * (G * G)) ≤ 2 ^ 24 * 2 ^ 24 * squares y n
  unfolding squares
  squares-low zero = omega arith
  squares-low (suc n) =
      let k = (near n).low in
      let h : (2 ^ 24 - 1) * (a n * G) ≤ 2 ^ 24 * y n = omega arith in
      omega (arith, squares-low n, mul-le-mul h h)

  pub squares-high : (n : ℕ) → 2 ^ 24 * 2 ^ 24 * squares y n ≤ (2 ^ 24 + 1) * (2 ^ 24 + 1) * (squares a n * (G * G))
  unfolding squares
  squares-high zero = omega arith
  squares-high (suc n) =
      let k = (near n).high in
      let h : 2 ^ 24 * y n ≤ (2 ^ 24 + 1) * (a n * G) = omega arith in
      omega (arith, squares-high n, mul-le-mul h h)
