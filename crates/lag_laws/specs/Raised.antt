-- Each correlation is raised to at least -1 and the running energy to at least 1; NaN becomes that least value.
use Rattle.std.specs.Prelude.{◌≡◌, Bool, cond, List, ℕ, ◌+◌, Float}
use Rattle.std.proofs.Math.Path.{refl, ap}
use Rattle.std.proofs.Common.{◌∙◌}
use Rattle.std.proofs.Math.Bool.{true, false}
use Rattle.std.specs.Float.{binary32}
use Rattle.std.specs.Float.Ieee.{add, sub, lt, neg, is_nan, of_bits}
use Rattle.buffers.specs.Buffers.{one32, square_at}
use Rattle.float_extremes.specs.Extremes.{max_of}
use Rattle.plc_best.specs.Best.{minus_one, next_energy}
use Rattle.plc_correlate.specs.Correlation.{cross_sum, correlation}

-- y is a number that is not below itself, as every number but NaN is
module _ (x y : Float) (n : is_nan y ≡ false) (k : lt y y ≡ false) where
  raised-least : lt (max_of x y) y ≡ false
  unfolding max_of
  raised-least = go (is_nan x) (lt x y) refl
    where
      go : (p q : Bool) → lt x y ≡ q → lt (cond p y (cond (is_nan y) x (cond q y x))) y ≡ false
      go true q e = k
      go false true e = ap (λ z. lt (cond z x y) y) n ∙ k
      go false false e = ap (λ z. lt (cond z x x) y) n ∙ e

  raised-number : is_nan (max_of x y) ≡ false
  unfolding max_of
  raised-number = go (is_nan x) (lt x y) refl
    where
      go : (p q : Bool) → is_nan x ≡ p → is_nan (cond p y (cond (is_nan y) x (cond q y x))) ≡ false
      go true q e = n
      go false true e = ap (λ z. is_nan (cond z x y)) n ∙ n
      go false false e = ap (λ z. is_nan (cond z x x)) n ∙ e

raised-nan : (x y : Float) → is_nan x ≡ true → max_of x y ≡ y
unfolding max_of
raised-nan x y e = ap (λ z. cond z y (cond (is_nan y) x (cond (lt x y) y x))) e

minus_one-number : is_nan minus_one ≡ false
unfolding is_nan neg of_bits
minus_one-number = refl

minus_one-level : lt minus_one minus_one ≡ false
unfolding lt neg of_bits
minus_one-level = refl

one_number : is_nan one32 ≡ false
unfolding is_nan of_bits
one_number = refl

one-level : lt one32 one32 ≡ false
unfolding lt of_bits
one-level = refl

module _ (x y : List Float) (n i : ℕ) where
  pub correlation-least : lt (correlation x y n i) minus_one ≡ false
  unfolding correlation
  correlation-least = raised-least (cross_sum x y i n) minus_one minus_one-number minus_one-level

  pub correlation-number : is_nan (correlation x y n i) ≡ false
  unfolding correlation
  correlation-number = raised-number (cross_sum x y i n) minus_one minus_one-number minus_one-level

  pub correlation-nan : is_nan (cross_sum x y i n) ≡ true → correlation x y n i ≡ minus_one
  unfolding correlation
  correlation-nan e = raised-nan (cross_sum x y i n) minus_one e

module _ (y : List Float) (len : ℕ) (syy : Float) (i : ℕ) where
  -- the energy before it is raised
  abbrev moved : Float
  moved = add binary32 syy (sub binary32 (square_at y (i + len)) (square_at y i))

  pub energy-least : lt (next_energy y len syy i) one32 ≡ false
  unfolding next_energy
  energy-least = raised-least moved one32 one_number one-level

  pub energy-number : is_nan (next_energy y len syy i) ≡ false
  unfolding next_energy
  energy-number = raised-number moved one32 one_number one-level

  pub energy-nan : is_nan moved ≡ true → next_energy y len syy i ≡ one32
  unfolding next_energy
  energy-nan e = raised-nan moved one32 e
