-- What the transform is given in each bin: the shape's, times its band's gain. Assumes nothing.
use mathlib.Core.Path.{◌≡◌, refl, sym, ap, ◌∙◌, subst}
use mathlib.Core.Logic.{◌⊎◌, inl, inr}
use mathlib.Core.List.{List, map}
use Prim.Native.Nat.{ℕ, zero, suc, ◌+◌, ◌-◌, ◌*◌, ◌≤◌, ◌<◌}
use native.Mathlib.Nat.{mul-le-mul_left}
use native.Mathlib.Omega.{arith}
use lib.ListN.{length, get_or, take, drop, replicate, get_or-append, get_or-map, length-drop, length-map, length-replicate}
use lib.Seq.{length-take-le, get_or-take, get_or-drop}
use lib.Ieee.{Float, nan, mul}
use Rattle.std.proofs.lemmas.Bool.{cases_lt}
use Rattle.loops.specs.Fold.{fold_to, fold_range, fold-holds}
use Rattle.loops.specs.PartRead.{put_before, put_inside, put_behind}
use Rattle.buffers.specs.Buffers.{zero32, times}
use Rattle.custom_mode.specs.Mode.{short_block, bands, last_edge}
use Rattle.noise_shape.specs.Shape.{lo, width, noise_shape, edge-up, band_in, length-noise_shape}
use Rattle.noise_levels.proofs.Bands.{band_ends}
use Rattle.noise_spectrum.specs.Spectrum.{gain_of_band, gain_turn, bound, cleared, spectrum_over, spectrum, length-gain_turn, bound-in}

-- ---- the gains
module _ (m : ℕ) (energies : List Float) where
  abbrev gained : List Float → ℕ → List Float
  gained b i = map (times (gain_of_band energies i)) (take (width m i) (drop (lo m i) b))

  module _ (b : List Float) (big : m * last_edge ≤ length b) (i : ℕ) (l : i < bands) where
    room : lo m i + width m i ≤ length b
    room = let v = band_in m i l in omega arith

    gained-sized : length (gained b i) ≡ width m i
    gained-sized =
        length-map (take (width m i) (drop (lo m i) b)) (times (gain_of_band energies i))
        ∙ length-take-le (width m i) (drop (lo m i) b) (omega (arith, room, length-drop (lo m i) b))

    -- a turn takes its own band's bins times the gain, and leaves the others
    turn-own : (j : ℕ) → lo m i ≤ j → j < lo m (i + 1) → get_or (gain_turn m energies b i) j nan ≡ times (gain_of_band energies i) (get_or b j nan)
    unfolding gain_turn mul
    turn-own j h k =
        let p = j - lo m i in
        let e : lo m i + p ≡ j = omega arith in
        let w : p < width m i = omega (arith, band_ends m i l) in
        put_inside (lo m i) (width m i) (gained b i) b (omega (arith, room)) nan p j e (omega (arith, gained-sized, w))
        ∙ get_or-map (times (gain_of_band energies i)) (take (width m i) (drop (lo m i) b)) p nan
        ∙ ap (times (gain_of_band energies i))
        (get_or-take (width m i) (drop (lo m i) b) p nan w ∙ get_or-drop (lo m i) b p nan
        ∙ ap (λ (z : ℕ). get_or b z nan) e)

    turn-other : (j : ℕ) → (j < lo m i) ⊎ (lo m (i + 1) ≤ j) → get_or (gain_turn m energies b i) j nan ≡ get_or b j nan
    unfolding gain_turn
    turn-other j (inl h) = put_before (lo m i) (width m i) (gained b i) b (omega (arith, room)) nan j h
    turn-other j (inr h) =
        put_behind (lo m i) (width m i) (gained b i) b (omega (arith, room)) nan j gained-sized (omega (arith, band_ends m i l))

  -- the turns from the start band on
  module _ (start : ℕ) (b : List Float) (big : m * last_edge ≤ length b) where
    abbrev turns : List Float → ℕ → List Float
    turns s k = gain_turn m energies s (start + k)

    big-after : (n : ℕ) → start + n ≤ bands → m * last_edge ≤ length (fold_to turns b n)
    big-after n h =
        fold-holds (λ (s : List Float). m * last_edge ≤ length s) turns b n big
        (λ s k l q. let z : start + k < bands = omega arith in omega (arith, length-gain_turn m energies s (start + k) z q))

    -- bins that no band so far has are as they were
    not_yet : (n j : ℕ) → start + n ≤ bands → lo m (start + n) ≤ j → get_or (fold_to turns b n) j nan ≡ get_or b j nan
    unfolding fold_to
    not_yet zero j h l = refl
    not_yet (suc n) j h l =
        let i = start + n in
        let e : start + suc n ≡ i + 1 = omega arith in
        let g : lo m (i + 1) ≤ j = subst (λ (z : ℕ). lo m z ≤ j) e l in
        let v = band_in m i (omega arith) in
        turn-other (fold_to turns b n) (big-after n (omega arith)) i (omega arith) j (inr g)
        ∙ not_yet n j (omega arith) (omega arith)

    gained-at : (n p j : ℕ) → start + n ≤ bands → p < n → lo m (start + p) ≤ j → j < lo m (start + p + 1)
        → get_or (fold_to turns b n) j nan ≡ times (gain_of_band energies (start + p)) (get_or b j nan)
    unfolding fold_to
    gained-at zero p j h l lo-j hi-j = let z : ⊥ = omega arith in absurd z
    gained-at (suc n) p j h l lo-j hi-j = elim (cases_lt p n) [
      | inl k ↦
          let e : start + p + 1 + (n - p - 1) ≡ start + n = omega arith in
          let u : lo m (start + p + 1) ≤ lo m (start + n) =
          subst (λ (z : ℕ). lo m (start + p + 1) ≤ lo m z) e (mul-le-mul_left m (edge-up (start + p + 1) (n - p - 1) (omega arith))) in
          turn-other (fold_to turns b n) (big-after n (omega arith)) (start + n) (omega arith) j (inl (omega arith)) ∙ gained-at n p j (omega arith) k lo-j hi-j
      | inr k ↦
          let e : p ≡ n = omega arith in
          let lo-n : lo m (start + n) ≤ j = subst (λ (z : ℕ). lo m (start + z) ≤ j) e lo-j in
          let hi-n : j < lo m (start + n + 1) = subst (λ (z : ℕ). j < lo m (start + z + 1)) e hi-j in
          turn-own (fold_to turns b n) (big-after n (omega arith)) (start + n) (omega arith) j lo-n hi-n
          ∙ ap (times (gain_of_band energies (start + n))) (not_yet n j (omega arith) lo-n)
          ∙ ap (λ (z : ℕ). times (gain_of_band energies (start + z)) (get_or b j nan)) (sym e)
    ]

-- ---- the spectrum
below-bound : (c : ℕ) (bins : List Float) (j : ℕ) → c ≤ length bins → j < c → get_or (cleared c bins) j nan ≡ get_or bins j nan
unfolding cleared
below-bound c bins j h l =
    get_or-append (take c bins) (replicate (length bins - c) zero32) nan j (omega (arith, length-take-le c bins h)) ∙ get_or-take c bins j nan l

pub spectrum-at : (m start end downsample seed : ℕ) (energies : List Float) (i j : ℕ) → start ≤ i → i < end → end ≤ bands
    → lo m i ≤ j → j < lo m (i + 1) → j < bound m end downsample
    → get_or (spectrum m start end downsample seed energies) j nan
    ≡ times (gain_of_band energies i) (get_or (noise_shape m start seed (replicate (short_block * m) zero32)).bins j nan)
unfolding spectrum spectrum_over fold_range
spectrum-at m start end downsample seed energies i j h k l lo-j hi-j b =
    let zeros = replicate (short_block * m) zero32 in
    let bins = (noise_shape m start seed zeros).bins in
    let sized : length zeros ≡ short_block * m = length-replicate (short_block * m) zero32 in
    let same : length bins ≡ length zeros = length-noise_shape m start seed zeros (omega arith) (omega arith) in
    let big : m * last_edge ≤ length bins = omega arith in
    let n = end - start in
    let p = i - start in
    let e : start + p ≡ i = omega arith in
    below-bound (bound m end downsample) (fold_to (turns m energies start bins big) bins n) j
    (omega (arith, bound-in m end downsample l, big-after m energies start bins big n (omega arith))) b
    ∙ gained-at m energies start bins big n p j (omega arith) (omega arith) (subst (λ (z : ℕ). lo m z ≤ j) (sym e) lo-j)
    (subst (λ (z : ℕ). j < lo m (z + 1)) (sym e) hi-j)
    ∙ ap (λ (z : ℕ). times (gain_of_band energies z) (get_or bins j nan)) e
