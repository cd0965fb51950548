-- What the loops over the bands rest on.
use mathlib.Core.Path.{◌≡◌, refl, ap, ap₂, ◌∙◌}
use mathlib.Core.Bool.{Bool, true, false, cond, not, ◌&&◌}
use mathlib.Core.List.{List, ◌++◌, map}
use Prim.Native.Nat.{ℕ, ◌+◌, ◌*◌, ◌/◌, ◌≤◌, ◌<◌, min}
use native.Mathlib.Omega.{arith}
use lib.ListN.{take, drop}
use lib.Ieee.{Float}
use lib.Dec.{leb, eqb}
use borrow.Author.Tests.{lt-ltb, le-ltb, ne_eqb, leb-true, leb-false}
use Rattle.loops.specs.Fold.{fold_range, range-more}
use Rattle.buffers.specs.Buffers.{times}
use Rattle.noise_shape.specs.Shape.{lo, lo-in, width}
use Rattle.noise_spectrum.specs.Spectrum.{bound, bound-in, gain_of_band, gain_turn}

-- one more band times its gain
pub gains_more : (m start i k a : ℕ) (g : Float) (energies bins₀ bins y : List Float)
    → bins ≡ fold_range (gain_turn m energies) bins₀ start i → start ≤ i → a ≡ lo m i → k ≡ width m i → g ≡ gain_of_band energies i
    → y ≡ map (times g) (take k (drop a bins))
    → take a bins ++ (y ++ drop k (drop a bins)) ≡ fold_range (gain_turn m energies) bins₀ start (i + 1)
unfolding gain_turn
gains_more m start i k a g energies bins₀ bins y e h ea ek eg ey =
    ap (λ v. take a bins ++ (v ++ drop k (drop a bins))) (ey ∙ ap (λ x. map (times x) (take k (drop a bins))) eg)
    ∙ ap₂ (λ p q. take p bins ++ (map (times (gain_of_band energies i)) (take q (drop p bins)) ++ drop q (drop p bins))) ea ek
    ∙ range-more (gain_turn m energies) bins₀ bins start i e h

-- the bound, x being the edge of end
module _ (m end d x : ℕ) (e : x ≡ lo m end) (h : end ≤ 21) where
  within : (r : ℕ) → r ≡ bound m end d → (r ≡ bound m end d) × (r ≤ m * 100)
  within r p = (p, omega (arith, bound-in m end d h))

  bound-part : (d ≡ 1 → ⊥) → 120 * m / d < x → (120 * m / d ≡ bound m end d) × (120 * m / d ≤ m * 100)
  unfolding bound
  bound-part n l = within (120 * m / d) (rw (ne_eqb d 1 n, lt-ltb (120 * m / d) (lo m end) (omega arith)))

  bound-far : x ≤ 120 * m / d → (x ≡ bound m end d) × (x ≤ m * 100)
  unfolding bound
  bound-far l = within x (rw (le-ltb (120 * m / d) (lo m end) (omega arith)) (go (not (eqb d 1))))
    where
      go : (b : Bool) → x ≡ cond (b && false) (120 * m / d) (lo m end)
      go true = e
      go false = e

  -- without downsampling the rate ends past the edge
  past : 120 * m / d < x → d ≡ 1 → ⊥
  past l q = let w : 120 * m / d ≡ 120 * m / 1 = ap (λ z. 120 * m / z) q in omega (arith, lo-in m end h, w)

  pub bound-lower : (r : ℕ) → r ≡ min x (120 * m / d) → (r ≡ bound m end d) × (r ≤ m * 100)
  bound-lower r q = go (leb x (120 * m / d)) refl
    where
      go : (b : Bool) → leb x (120 * m / d) ≡ b → (r ≡ bound m end d) × (r ≤ m * 100)
      go true t =
          let l : x ≤ 120 * m / d = leb-true x (120 * m / d) t in
          let p : r ≡ x = omega arith in
          let f = bound-far l in (p ∙ f.0, omega arith)
      go false t =
          let l : 120 * m / d < x = leb-false x (120 * m / d) t in
          let p : r ≡ 120 * m / d = omega arith in
          let f = bound-part (past l) l in (p ∙ f.0, omega arith)
