-- What `noise_shape` puts into each band stays there, so each is as loud as a drawn band is. Assumes nothing.
use mathlib.Core.Path.{◌≡◌, refl, sym, ap, ◌∙◌, subst}
use mathlib.Core.Logic.{inl, inr}
use mathlib.Core.Bool.{Bool}
use mathlib.Core.List.{List}
use Prim.Native.Nat.{ℕ, zero, suc, ◌+◌, ◌-◌, ◌*◌, ◌≤◌, ◌<◌}
use native.Mathlib.Nat.{mul-le-mul_left, mul-le-mul_right}
use native.Mathlib.Omega.{arith}
use lib.Dec.{leb}
use lib.ListN.{length, take, drop}
use lib.Seq.{take_at, take-take}
use borrow.Author.Tests.{leb-true}
use Rattle.std.proofs.lemmas.Bool.{cases_lt}
use Rattle.std.proofs.lemmas.List.{drop-take}
use lib.Ieee.{Float}
use Rattle.loops.specs.Fold.{fold_to, fold_range}
use Rattle.loops.specs.Below.{below, below_at}
use Rattle.loops.specs.Part.{put, take_put, drop-put}
use Rattle.draw.specs.Draw.{draws}
use Rattle.custom_mode.specs.Mode.{bands, last_edge, edge, edges}
use Rattle.noise_shape.specs.Shape.{lo, width, band_noise, length-band_noise, Shape, noise_turn, noise_shape, edge-up, band_in, turn, seed_after, size-after}
use Rattle.loudness.specs.Energy.{UnitEnergy, NoEnergy}
use Rattle.loudness.specs.Loudness.{widest, asked}
use Rattle.loudness.proofs.Loudness.{loudness}
use Rattle.noise_levels.specs.Bands.{band_of, EveryBand}

-- ---- a part of a list that is replaced, and one ahead of it
part-put : (a n : ℕ) (y h : List Float) → length y ≡ n → a ≤ length h → take n (drop a (put a n y h)) ≡ y
part-put a n y h e l = ap (take n) (drop-put a n y h l) ∙ take_at y (drop (a + n) h) n e

part-ahead : (a n b k : ℕ) (y h : List Float) → a + n ≤ b → b ≤ length h → take n (drop a (put b k y h)) ≡ take n (drop a h)
part-ahead a n b k y h l r =
    sym (drop-take a n (put b k y h))
    ∙ ap (drop a) (sym (take-take (a + n) b (put b k y h) l) ∙ ap (take (a + n)) (take_put b k y h r) ∙ take-take (a + n) b h l)
    ∙ drop-take a n h

-- a band ends where the next begins
pub band_ends : (m i : ℕ) → i < bands → lo m i + width m i ≡ lo m (i + 1)
band_ends m i h = let v = band_in m i h in omega arith

-- ---- the bands of a shape after n of them, from the start band on
module _ (m start : ℕ) (a : Shape) (big : m * last_edge ≤ length a.bins) where
  -- a band is put behind those before it, and within the bins
  module _ (n : ℕ) (h : start + n < bands) where
    abbrev sofar : Shape
    sofar = fold_to (turn m start) a n

    abbrev at : ℕ
    at = lo m (start + n)

    abbrev wide : ℕ
    wide = width m (start + n)

    abbrev new : List Float
    new = band_noise wide sofar.seed

    fits : at + wide ≤ length sofar.bins
    fits = let v = band_in m (start + n) h in omega (arith, size-after m start a n (omega arith) big)

    new_band : band_of m (start + n) (put at wide new sofar.bins) ≡ band_noise wide (draws (at - lo m start) a.seed)
    new_band =
        part-put at wide new sofar.bins (length-band_noise wide sofar.seed) (omega (arith, fits))
        ∙ ap (band_noise wide) (seed_after m start a n (omega arith))

    old_band : (j : ℕ) → j < n → band_of m (start + j) (put at wide new sofar.bins) ≡ band_of m (start + j) sofar.bins
    old_band j l =
        let v = band_in m (start + j) (omega arith) in
        let e : start + j + 1 + (n - j - 1) ≡ start + n = omega arith in
        let ahead : lo m (start + j + 1) ≤ at =
        subst (λ (z : ℕ). lo m (start + j + 1) ≤ lo m z) e (mul-le-mul_left m (edge-up (start + j + 1) (n - j - 1) (omega arith))) in
        let f = fits in
        part-ahead (lo m (start + j)) (width m (start + j)) at wide new sofar.bins (omega arith) (omega arith)

  drawn_band : (n j : ℕ) → start + n ≤ bands → j < n
      → band_of m (start + j) (fold_to (turn m start) a n).bins ≡ band_noise (width m (start + j)) (draws (lo m (start + j) - lo m start) a.seed)
  unfolding fold_to noise_turn
  drawn_band zero j h l = let z : ⊥ = omega arith in absurd z
  drawn_band (suc n) j h l = elim (cases_lt j n) [
    | inl k ↦ old_band n (omega arith) j k ∙ drawn_band n j (omega arith) k
    | inr k ↦
        let e : n ≡ j = omega arith in
        subst (λ (z : ℕ). band_of m (start + z) (noise_turn m (fold_to (turn m start) a n) (start + n)).bins
        ≡ band_noise (width m (start + z)) (draws (lo m (start + z) - lo m start) a.seed)) e
        (new_band n (omega arith))
  ]

-- the bins of a band are at most 176
slim : ℕ → Bool
slim i = leb (edge (i + 1)) (edge i + 22)

pub width-most : (m i : ℕ) → m ≤ 8 → i < bands → width m i ≤ widest
unfolding below slim edge edges
width-most m i h l =
    let v = band_in m i l in
    let s : edge (i + 1) ≤ edge i + 22 = leb-true (edge (i + 1)) (edge i + 22) (below_at slim bands i refl l) in
    omega (arith, mul-le-mul_left m s, mul-le-mul_right 22 h)

-- and the widest has so many
pub widest-reached : width 8 20 ≡ widest
unfolding edge edges
widest-reached = refl

module _ (m start seed : ℕ) (bins : List Float) (big : m * last_edge ≤ length bins) where
  pub shape_band : (i : ℕ) → start ≤ i → i < bands
      → band_of m i (noise_shape m start seed bins).bins ≡ band_noise (width m i) (draws (lo m i - lo m start) seed)
  unfolding noise_shape fold_range
  shape_band i h l =
      let e : start + (i - start) ≡ i = omega arith in
      subst (λ (z : ℕ). band_of m z (noise_shape m start seed bins).bins ≡ band_noise (width m z) (draws (lo m z - lo m start) seed)) e
      (drawn_band m start (record { bins = bins; seed = seed }) big (bands - start) (i - start) (omega arith) (omega arith))

  pub shape-levels : m ≤ 8 → EveryBand m start seed (noise_shape m start seed bins).bins
  shape-levels few i h l =
      let d = loudness (width m i) (draws (lo m i - lo m start) seed) (width-most m i few l) in
      let e = sym (shape_band i h l) in
      record {
        heard = λ x. subst (UnitEnergy asked) e (d.heard x);
        silent = λ x. subst NoEnergy e (d.silent x);
        either = d.either;
      }
