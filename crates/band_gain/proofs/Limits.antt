-- What the code asks of the floor of w and learns from it, w being 256 * x and q the steps of x.
use Rattle.std.proofs.Common.{◌≡◌, ℕ, zero, suc, ◌+◌, ◌-◌, ◌*◌, ◌/◌, ◌%◌, ◌<◌, ◌≤◌, Bool, true, false, cond, T, eqb, ℤ, pos, negsuc, ◌+ℤ◌, ◌^◌, min}
use Rattle.std.proofs.Common.{sym, refl, ap, ap₂, ◌∙◌, mod-lt, mul-lt-mul_of_pos_right}
use Rattle.std.proofs.Common.{mul_comm, div-lt_iff_lt-mul, div-add-mod', add-mul, one-mul, mul-one, mul-div_cancel, arith}
use Rattle.std.proofs.Common.{lt→ltb, lt-ltb, le-ltb, eqb-true}
use Rattle.std.proofs.lemmas.Bool.{eqb-false}
use Rattle.std.proofs.lemmas.Nat.{div-mul-add}
use native.Mathlib.Nat.{div-le_of_le-mul, min-eq_left}
use lib.IntN.{neg_ℤ}
use lib.Ieee.{Float, nan, inf, fin, binary64, up, down, lt, le, to_signed}
use lib.Ieee.Exact.{HasValue}
use lib.Ieee.Back.{round_whole}
use lib.Ieee.Fits.{down_pos}
use Rattle.std.specs.Float.{floor, ratio_ceil, round_with}
use Rattle.band_gain.specs.Gain.{floor_from}
use Rattle.band_gain.proofs.Floor.{Fine}

bit : (b : Bool) → cond b 0 1 ≤ 1
bit true = omega arith
bit false = omega arith

-- a fraction's ceiling, by whether its quotient lost something
ceil-is : (a d : ℕ) → 0 < d → ratio_ceil a d ≡ a / d + cond (eqb (a % d) 0) 0 1
ceil-is a d D = go (eqb (a % d) 0) refl
  where
    go : (b : Bool) → eqb (a % d) 0 ≡ b → ratio_ceil a d ≡ a / d + cond b 0 1
    go true e =
        let z : a + d - 1 ≡ a / d * d + (d - 1) = omega (arith, div-add-mod' a d, eqb-true (a % d) 0 e, D) in
        let y : a / d ≡ a / d + 0 = omega arith in
        ap (λ x. x / d) z ∙ div-mul-add (a / d) d (d - 1) (omega (arith, D)) ∙ y
    go false e =
        let p : 0 < a % d = omega (arith, eqb-false (a % d) 0 e) in
        let l : a % d < d = mod-lt a D in
        let z : a + d - 1 ≡ (a / d + 1) * d + (a % d - 1) = omega (arith, div-add-mod' a d, add-mul (a / d) 1 d, one-mul d, p) in
        ap (λ x. x / d) z ∙ div-mul-add (a / d + 1) d (a % d - 1) (omega (arith, l, p))

-- ---- y is a whole number n with its sign
module _ (n : ℕ) (l : n ≤ 38_400) where
  below-le : (x y : Float) → lt x y ≡ true → T (le x y)
  unfolding le
  below-le x y h = rw h tt

  pub cut-lower : (s : Bool) (y : Float) → HasValue y s n 1 → T (le (fin true 1 (pos 63)) y)
  unfolding lt
  cut-lower s nan v = absurd v
  cut-lower s (inf t) v = absurd v
  cut-lower s (fin false m e) v =
      below-le _ _ (lt-ltb 0 (2 ^ 63 * down e + m * up e * 1) (omega (arith, down_pos e)))
  cut-lower s (fin true m e) v =
      below-le _ _ (lt-ltb (m * up e * 1) (2 ^ 63 * down e) (omega (arith, v.1, small e)))
    where
      small : (e : ℤ) → n * down e < 2 ^ 63 * down e
      small e = mul-lt-mul_of_pos_right (omega (arith, l)) (down_pos e)

  pub cut-upper : (s : Bool) (y : Float) → HasValue y s n 1 → T (lt y (fin false 1 (pos 63)))
  unfolding lt
  cut-upper s nan v = absurd v
  cut-upper s (inf t) v = absurd v
  cut-upper s (fin true m e) v = lt→ltb 0 (m * up e * 1 + 2 ^ 63 * down e) (omega (arith, down_pos e))
  cut-upper s (fin false m e) v =
      lt→ltb (m * up e * 1) (2 ^ 63 * down e) (omega (arith, v.1, small e))
    where
      small : (e : ℤ) → n * down e < 2 ^ 63 * down e
      small e = mul-lt-mul_of_pos_right (omega (arith, l)) (down_pos e)

  cut-is : (s : Bool) (y : Float) → HasValue y s n 1 → to_signed 63 y ≡ cond s (neg_ℤ (pos n)) (pos n)
  unfolding to_signed
  cut-is s nan v = absurd v
  cut-is s (inf t) v = absurd v
  cut-is s (fin t m e) v =
      let q : m * up e / down e ≡ n = ap (λ z. z / down e) (sym (mul-one (m * up e)) ∙ v.1) ∙ mul-div_cancel n (down_pos e) in
      ap (λ z. cond z (neg_ℤ (pos (min (m * up e / down e) (2 ^ 63)))) (pos (min (m * up e / down e) (2 ^ 63 - 1)))) v.0
      ∙ ap₂ (λ a b. cond s (neg_ℤ (pos a)) (pos b)) (min-eq_left (omega (arith, q, l)) ∙ q) (min-eq_left (omega (arith, q, l)) ∙ q)

-- counted from 38,400 below 0
counted : (s : Bool) (n : ℕ) → n ≤ 38_400 → pos 38_400 +ℤ cond s (neg_ℤ (pos n)) (pos n) ≡ pos (cond s (38_400 - n) (38_400 + n))
counted false n l = refl
counted true zero l = refl
counted true (suc k) l = ap (λ z. cond z (negsuc (suc k - suc 38_400)) (pos (38_400 - suc k))) (le-ltb 38_400 (suc k) l)

pub total : (s : Bool) (n : ℕ) (y : Float) → n ≤ 38_400 → HasValue y s n 1 → pos 38_400 +ℤ to_signed 63 y ≡ pos (cond s (38_400 - n) (38_400 + n))
total s n y l v = ap (λ z. pos 38_400 +ℤ z) (cut-is n l s y v) ∙ counted s n l

-- ---- the floor of w is q less 38,400
pub record Floored (y : Float) (q : ℕ) : Type 0 where
  pub s : Bool
  pub n : ℕ
  pub few : n ≤ 38_400
  pub value : HasValue y s n 1
  pub is : cond s (38_400 - n) (38_400 + n) ≡ q
  pub most : q ≤ 46_592

pub floored : (w : Float) (q : ℕ) → Fine w q → Floored (floor binary64 w) q
unfolding round_with floor_from
floored nan q f = absurd f
floored (inf s) q f = absurd f
floored (fin false m e) q f =
    let d : m * up e / down e ≤ 8_192 = div-le_of_le-mul (down e) (omega (arith, f.1, mul_comm (down e) 8_192)) in
    record {
      s = false;
      n = m * up e / down e;
      few = omega arith;
      value = round_whole binary64 false (m * up e / down e) (omega arith);
      is = f.0;
      most = omega (arith, f.0);
    }
floored (fin true m e) q f =
    let c = ceil-is (m * up e) (down e) (down_pos e) in
    let d : m * up e / down e < 38_400 = (div-lt_iff_lt-mul (down_pos e)).1 f.1 in
    let b = bit (eqb (m * up e % down e) 0) in
    let h : ratio_ceil (m * up e) (down e) ≤ 38_400 = omega (arith, c, d, b) in
    record {
      s = true;
      n = ratio_ceil (m * up e) (down e);
      few = h;
      value = round_whole binary64 true (ratio_ceil (m * up e) (down e)) (omega (arith, h));
      is = ap (λ z. 38_400 - z) c ∙ f.0;
      most = omega (arith, f.0);
    }
