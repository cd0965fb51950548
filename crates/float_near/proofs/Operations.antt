-- Each float operation rounds once: of operands that are a / c and b / d it gives the exact result's fraction, rounded.
-- The root's bound is `sqrt-within`, in float_root. Assumes nothing.
use mathlib.Core.Path.{◌≡◌, sym, ap, ◌∙◌, subst}
use Prim.Native.Nat.{ℕ, zero, suc, ◌+◌, ◌-◌, ◌*◌, ◌^◌, ◌≤◌, ◌<◌}
use native.Mathlib.Nat.{le_trans, le_of_eq, lt_of_le_of_lt, one-mul, mul-pos, mul-mul-mul_comm, mul-le-mul_right, lt_irrefl}
use native.Mathlib.Omega.{arith}
use mathlib.Core.Bool.{Bool, true, false, cond, true≢false}
use lib.Dec.{eqb, eqb-suc-zero, lit<}
use lib.Pow.{pow-add, pow-lt}
use lib.Ieee.{Float, nan, inf, fin, Format, binary32, binary64, prec, emax, low, unlike, up, down, round, add, mul, div}
use lib.Ieee.Fits.{round_is, down_pos, up_pos}
use lib.Ieee.Exact.{HasValue, units_val}
use lib.Ieee.Order.{drop, kept}
use lib.Ieee.Positive.{first_pos}
use lib.Ieee.Scale.{grid, overflow, round_same, normal_of_fraction}
use Rattle.float_near.specs.Rounded.{Rounded}
use Rattle.float_near.proofs.Half.{grid-near, holds-above}

-- ---- what is rounded without overflow has `grid` for its units, whatever its sign
pub round-grid : (f : Format) (s : Bool) (a c : ℕ) → grid f a c < overflow f → HasValue (round f s a c) s (grid f a c) (2 ^ low f)
round-grid f s a c h =
    subst (λ (x : Float). HasValue x s (grid f a c) (2 ^ low f)) (sym (round_is f s a c))
    (units_val f s (kept (prec f) (a * 2 ^ low f) c) (drop (prec f) (a * 2 ^ low f) c) h)

-- a fraction from 2 ^ (prec - 1) units to 2 ^ emax
pub round-near : (f : Format) (s : Bool) (a c : ℕ) → 0 < c → 2 ^ (prec f - 1) * c ≤ a * 2 ^ low f → a ≤ 2 ^ emax f * c → Rounded f (round f s a c) s a c
round-near f s a c C lo hi =
    let top : a * 2 ^ low f ≤ 1 * 2 ^ (low f + emax f) * c =
    le_trans (mul-le-mul_right (2 ^ low f) hi) (le_of_eq (regroup (2 ^ emax f) c (2 ^ low f) ∙ ap (λ (z : ℕ). 1 * z * c) (sym (pow-add 2 (low f) (emax f))))) in
    let most : grid f a c ≤ 2 ^ (low f + emax f) = le_trans (holds-above f a c C 1 (low f + emax f) (one f) top) (le_of_eq (one-mul (2 ^ (low f + emax f)))) in
    record {
      units = grid f a c;
      is = round-grid f s a c (lt_of_le_of_lt most (pow-lt (under (low f) (emax f))));
      near = grid-near f a c C (normal_of_fraction f a c C lo);
    }
  where
    regroup : (x c y : ℕ) → x * c * y ≡ 1 * (y * x) * c
    regroup x c y = omega arith

    one : (f : Format) → 1 < 2 ^ prec f
    one binary32 = lit< tt
    one binary64 = lit< tt

    under : (l m : ℕ) → l + m < l + suc m
    under l m = omega arith

-- ---- operands by their fractions
module _ (f : Format) (x y : Float) (s t : Bool) (a c b d : ℕ) (C : 0 < c) (D : 0 < d) where
  pub mul_at : HasValue x s a c → HasValue y t b d → mul f x y ≡ round f (unlike s t) (a * b) (c * d)
  unfolding mul
  mul_at h k = go x y h k
    where
      go : (x y : Float) → HasValue x s a c → HasValue y t b d → mul f x y ≡ round f (unlike s t) (a * b) (c * d)
      go nan y h k = absurd h
      go (inf u) y h k = absurd h
      go (fin u m e) nan h k = absurd k
      go (fin u m e) (inf v) h k = absurd k
      go (fin u m e) (fin v n g) h k =
          ap (λ (z : Bool). round f (unlike z v) (m * up e * (n * up g)) (down e * down g)) h.0
          ∙ ap (λ (z : Bool). round f (unlike s z) (m * up e * (n * up g)) (down e * down g)) k.0
          ∙ round_same f (unlike s t) (m * up e * (n * up g)) (down e * down g) (a * b) (c * d) (mul-pos (down_pos e) (down_pos g)) (mul-pos C D)
          (mul-mul-mul_comm (m * up e) (n * up g) c d ∙ ap (λ (z : ℕ). z * (n * up g * d)) h.1
          ∙ ap (λ (z : ℕ). a * down e * z) k.1 ∙ mul-mul-mul_comm a (down e) b (down g))

  pub div-at : 0 < b → HasValue x s a c → HasValue y t b d → div f x y ≡ round f (unlike s t) (a * d) (b * c)
  unfolding div
  div-at B h k = go x y h k
    where
      nonzero : (n : ℕ) (u v : Float) → 0 < n → cond (eqb n 0) u v ≡ v
      nonzero zero u v h = absurd (lt_irrefl 0 h)
      nonzero (suc n) u v h = ap (λ (z : Bool). cond z u v) (eqb-suc-zero n)

      go : (x y : Float) → HasValue x s a c → HasValue y t b d → div f x y ≡ round f (unlike s t) (a * d) (b * c)
      go nan y h k = absurd h
      go (inf u) y h k = absurd h
      go (fin u m e) nan h k = absurd k
      go (fin u m e) (inf v) h k = absurd k
      go (fin u m e) (fin v n g) h k =
          let N : 0 < n = first_pos n (up g) (first_pos (n * up g) d (subst (λ (z : ℕ). 0 < z) (sym k.1) (mul-pos B (down_pos g)))) in
          nonzero n _ _ N
          ∙ ap (λ (z : Bool). round f (unlike z v) (m * up e * down g) (n * up g * down e)) h.0
          ∙ ap (λ (z : Bool). round f (unlike s z) (m * up e * down g) (n * up g * down e)) k.0
          ∙ round_same f (unlike s t) (m * up e * down g) (n * up g * down e) (a * d) (b * c) (mul-pos (mul-pos N (up_pos g)) (down_pos e)) (mul-pos B C)
          (cross (m * up e) (down e) (n * up g) (down g) h.1 k.1)
        where
          cross : (p q r w : ℕ) → p * c ≡ a * q → r * d ≡ b * w → p * w * (b * c) ≡ a * d * (r * q)
          cross p q r w i j = omega (arith, ap (λ (z : ℕ). z * (b * w)) i, ap (λ (z : ℕ). a * q * z) j)

-- the sum of two that are not negative
pub add_at : (f : Format) (x y : Float) (a c b d : ℕ) → 0 < c → 0 < d → HasValue x false a c → HasValue y false b d
    → add f x y ≡ round f false (a * d + b * c) (c * d)
unfolding add
add_at f nan y a c b d C D h k = absurd h
add_at f (inf s) y a c b d C D h k = absurd h
add_at f (fin true m e) y a c b d C D h k = absurd (true≢false h.0)
add_at f (fin false m e) nan a c b d C D h k = absurd k
add_at f (fin false m e) (inf t) a c b d C D h k = absurd k
add_at f (fin false m e) (fin true n g) a c b d C D h k = absurd (true≢false k.0)
add_at f (fin false m e) (fin false n g) a c b d C D h k =
    round_same f false (m * up e * down g + n * up g * down e) (down e * down g) (a * d + b * c) (c * d) (mul-pos (down_pos e) (down_pos g)) (mul-pos C D)
    (cross (m * up e) (down e) (n * up g) (down g) h.1 k.1)
  where
    cross : (p q r w : ℕ) → p * c ≡ a * q → r * d ≡ b * w → (p * w + r * q) * (c * d) ≡ (a * d + b * c) * (q * w)
    cross p q r w i j = omega (arith, ap (λ (z : ℕ). z * (w * d)) i, ap (λ (z : ℕ). z * (q * c)) j)
