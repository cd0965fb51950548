-- What is known of settings that pass.
use mathlib.Core.Path.{◌≡◌, refl, ap, sym, ◌∙◌}
use mathlib.Core.Bool.{Bool, true, false, cond, ◌&&◌, ◌||◌}
use Prim.Native.Nat.{ℕ, zero, suc, ◌*◌, ◌/◌, ◌%◌, ◌^◌, ◌≤◌, ◌<◌}
use native.Mathlib.Omega.{arith}
use native.Mathlib.Nat.{pow-le-pow_right, le_trans, mul-le-mul_right, div-le_self}
use lib.Dec.{leb, ltb, eqb, lit<}
use borrow.Author.Tests.{leb-true, ltb-true, le-leb, eqb-true, eqb-false, eq-eqb}
use Rattle.loops.specs.Logic.{and-true}
use Rattle.custom_mode.specs.Mode.{bands}
use Rattle.settings.specs.Number.{or_else, within}
use Rattle.settings.specs.Settings.{factor, frame, check_lm, check_channels, check_start, check_end, check_downsample, check_settings, block_factor, needed}
use Rattle.settings.specs.declared.Settings.{Settings}

pub or-zero : (a b : ℕ) → or_else a b ≡ 0 → (a ≡ 0) × (b ≡ 0)
unfolding or_else
or-zero zero b e = (refl, e)
or-zero (suc a) b e = omega arith

-- a check with the number n + 1 that passed
pub passes : (b : Bool) (n : ℕ) → cond b 0 (suc n) ≡ 0 → b ≡ true
passes true n e = refl
passes false n e = let z : ⊥ = omega arith in absurd z

-- settings that `settings_pass` takes
pub good : (k : Settings) (b : Bool) → b ≡ eqb (check_settings k) 0 → b ≡ true → check_settings k ≡ 0
good k b e t = eqb-true (check_settings k) 0 (sym e ∙ t)

pub record Passed (k : Settings) : Type 0 where
  pub lm : k.lm ≤ 3
  pub one : 1 ≤ k.channels
  pub two : k.channels ≤ 2
  pub start : k.start < bands
  pub above : k.start < k.end
  pub end : k.end ≤ bands
  pub downsample : check_downsample k.downsample ≡ 0

pub passed : (k : Settings) → check_settings k ≡ 0 → Passed k
unfolding check_settings
passed k e =
    let a = or-zero (check_lm k.lm) _ e in
    let b = or-zero (check_channels k.channels) _ a.1 in
    let c = or-zero (check_start k.start) _ b.1 in
    let d = or-zero (check_end k.start k.end) _ c.1 in
    let x = and-true (leb 1 k.channels) (leb k.channels 2) (passes (within 1 2 k.channels) 1 b.0) in
    let y = and-true (ltb k.start k.end) (leb k.end bands) (passes (ltb k.start k.end && leb k.end bands) 3 d.0) in
    record {
      lm = leb-true k.lm 3 (passes (leb k.lm 3) 0 a.0);
      one = leb-true 1 k.channels x.0;
      two = leb-true k.channels 2 x.1;
      start = ltb-true k.start bands (passes (ltb k.start bands) 2 c.0);
      above = ltb-true k.start k.end y.0;
      end = leb-true k.end bands y.1;
      downsample = d.1;
    }

-- each downsampling factor divides every frame
module _ (m d : ℕ) where
  by_number : 1 ≤ d → d ≤ 4 → 120 * m % d ≡ 0
  by_number l h = go (eqb d 1) (eqb d 2) (eqb d 3) refl refl refl
    where
      go : (a b c : Bool) → eqb d 1 ≡ a → eqb d 2 ≡ b → eqb d 3 ≡ c → 120 * m % d ≡ 0
      go true b c p q r = let e : 120 * m % 1 ≡ 0 = omega arith in ap (λ z. 120 * m % z) (eqb-true d 1 p) ∙ e
      go false true c p q r = let e : 120 * m % 2 ≡ 0 = omega arith in ap (λ z. 120 * m % z) (eqb-true d 2 q) ∙ e
      go false false true p q r = let e : 120 * m % 3 ≡ 0 = omega arith in ap (λ z. 120 * m % z) (eqb-true d 3 r) ∙ e
      go false false false p q r =
          let f : d ≡ 4 = omega (arith, eqb-false d 1 p, eqb-false d 2 q, eqb-false d 3 r) in
          let e : 120 * m % 4 ≡ 0 = omega arith in
          ap (λ z. 120 * m % z) f ∙ e

  divides : check_downsample d ≡ 0 → (1 ≤ d) × (120 * m % d ≡ 0)
  divides z = go (eqb d 6) refl z
    where
      go : (b : Bool) → eqb d 6 ≡ b → cond (b || within 1 4 d) 0 (suc 4) ≡ 0 → (1 ≤ d) × (120 * m % d ≡ 0)
      go true p w = let e : 120 * m % 6 ≡ 0 = omega arith in (omega (arith, eqb-true d 6 p), ap (λ w. 120 * m % w) (eqb-true d 6 p) ∙ e)
      go false p w =
          let x = and-true (leb 1 d) (leb d 4) (passes (within 1 4 d) 4 w) in
          (leb-true 1 d x.0, by_number (leb-true 1 d x.0) (leb-true d 4 x.1))

pub factor-most : (lm : ℕ) → block_factor lm ≤ 8
unfolding block_factor
factor-most lm = go (leb lm 3) refl
  where
    go : (b : Bool) → leb lm 3 ≡ b → 2 ^ cond b lm 3 ≤ 8
    go true e = pow-le-pow_right {n = 2} (lit< tt) {i = lm} {j = 3} (leb-true lm 3 e)
    go false e = omega arith

module _ (k : Settings) (good : check_settings k ≡ 0) where
  -- the code's block factor is m
  pub factor-is : block_factor k.lm ≡ factor k
  unfolding block_factor factor
  factor-is = ap (λ b. 2 ^ cond b k.lm 3) (le-leb k.lm 3 (passed k good).lm)

  pub frame-low : 120 ≤ frame k
  unfolding frame factor
  frame-low = omega (arith, pow-le-pow_right {n = 2} (lit< tt) {i = 0} {j = k.lm} (omega arith))

  pub frame-high : frame k ≤ 960
  unfolding frame factor
  frame-high = omega (arith, pow-le-pow_right {n = 2} (lit< tt) {i = k.lm} {j = 3} (passed k good).lm)

  -- passed, and not stereo
  pub one-channel : eqb k.channels 2 ≡ false → k.channels ≡ 1
  one-channel e = omega (arith, passed k good, eqb-false k.channels 2 e)

  pub downsample_low : 1 ≤ k.downsample
  downsample_low = (divides 0 k.downsample (passed k good).downsample).0

  pub frame_divides : frame k % k.downsample ≡ 0
  unfolding frame
  frame_divides = (divides (factor k) k.downsample (passed k good).downsample).1

  pub needed-is : needed k ≡ k.channels * (frame k / k.downsample)
  unfolding needed
  needed-is = ap (λ b. cond b (k.channels * (frame k / k.downsample)) 0) (eq-eqb (check_settings k) 0 good)

  pub needed-most : needed k ≤ 1920
  needed-most =
      let p = passed k good in
      let h : k.channels * (frame k / k.downsample) ≤ 1920 =
      le_trans (mul-le-mul_right (frame k / k.downsample) p.two) (omega (arith, div-le_self (frame k) k.downsample, frame-high)) in
      omega (arith, needed-is)

  -- a frame by the code
  pub frame_is : (n : ℕ) → n ≡ 120 * block_factor k.lm → n ≡ frame k
  unfolding frame
  frame_is n e = e ∙ ap (λ m. 120 * m) factor-is

  pub needed-code : (n : ℕ) → n ≡ 120 * block_factor k.lm → k.channels * (n / k.downsample) ≡ needed k
  needed-code n e = ap (λ z. k.channels * (z / k.downsample)) (frame_is n e) ∙ sym needed-is
