-- The spectrum of a noise block: each band below end times its gain, and zeros from the bound on.
use Rattle.std.specs.Prelude.{◌≡◌, refl, Bool, true, false, cond, not, ◌&&◌, ℕ, zero, suc, ◌+◌, ◌*◌, ◌-◌, ◌/◌, ◌≤◌, ◌<◌, eqb, ltb, leb}
use Rattle.std.specs.Prelude.{List, ◌++◌, map, length, get_or, take, drop, replicate, Float}
use Rattle.std.proofs.Common.{◌∙◌, arith, length-append, length-drop, length-take-le, ltb-true}
use Rattle.std.proofs.lemmas.List.{length-replicate, length-map}
use Rattle.std.specs.Float.{nan, binary32}
use Rattle.std.specs.Float.Ieee.{add}
use Rattle.loops.specs.Fold.{fold_to, fold_range}
use Rattle.loops.specs.Part.{put, length-put}
use Rattle.buffers.specs.Buffers.{zero32, times}
use Rattle.custom_mode.specs.Mode.{short_block, bands, max_bands, last_edge, mean}
use Rattle.band_gain.specs.Gain.{gain_of}
use Rattle.noise_shape.specs.Shape.{lo, width, Shape, noise_shape, band_in, lo-in, length-noise_shape}

-- the gain of band i, from a channel's 25 energies
unfoldable pub gain_of_band : List Float → ℕ → Float
gain_of_band energies i = gain_of (add binary32 (get_or energies i nan) (mean i))

-- band i times its gain
unfoldable pub gain_turn : ℕ → List Float → List Float → ℕ → List Float
gain_turn m energies bins i = put (lo m i) (width m i) (map (times (gain_of_band energies i)) (take (width m i) (drop (lo m i) bins))) bins

-- where the spectrum ends: at the edge of end, or where downsampling ends it, if that is lower
unfoldable pub bound : ℕ → ℕ → ℕ → ℕ
bound m end downsample =
    let part = short_block * m / downsample in
    cond (not (eqb downsample 1) && ltb part (lo m end)) part (lo m end)

-- zeros from b on
unfoldable pub cleared : ℕ → List Float → List Float
cleared b bins = take b bins ++ replicate (length bins - b) zero32

-- over the bins of a block the noise of the bands from start to just below end, times their gains, and the seed after all draws
unfoldable pub spectrum_over : ℕ → ℕ → ℕ → ℕ → ℕ → List Float → List Float → Shape
spectrum_over m start end downsample seed energies bins =
    let s = noise_shape m start seed bins in
    record {
      bins = cleared (bound m end downsample) (fold_range (gain_turn m energies) s.bins start end);
      seed = s.seed;
    }

-- the bins of that where they come as zeros
unfoldable pub spectrum : ℕ → ℕ → ℕ → ℕ → ℕ → List Float → List Float
spectrum m start end downsample seed energies = (spectrum_over m start end downsample seed energies (replicate (short_block * m) zero32)).bins

-- end at least start and at most 21, and a factor of downsampling
unfoldable pub span_fits : ℕ → ℕ → ℕ → Bool
span_fits start end downsample = leb start end && (leb end bands && leb 1 downsample)

-- that, and a block factor of at most 8
unfoldable pub spectrum_fits : ℕ → ℕ → ℕ → ℕ → Bool
spectrum_fits m start end downsample = leb m 8 && span_fits start end downsample

-- with so many energies and so many bins lent
unfoldable pub spectrum_takes : ℕ → ℕ → ℕ → ℕ → ℕ → ℕ → Bool
spectrum_takes m start end downsample energies size = spectrum_fits m start end downsample && (eqb energies max_bands && eqb size (short_block * m))

pub length-gain_turn : (m : ℕ) (energies bins : List Float) (i : ℕ) → i < bands → m * last_edge ≤ length bins
    → length (gain_turn m energies bins i) ≡ length bins
unfolding gain_turn
length-gain_turn m energies bins i h l =
    let v = band_in m i h in
    let part = take (width m i) (drop (lo m i) bins) in
    length-put (lo m i) (width m i) (map (times (gain_of_band energies i)) part) bins
    (length-map part (times (gain_of_band energies i))
    ∙ length-take-le (width m i) (drop (lo m i) bins) (omega (arith, length-drop (lo m i) bins))) (omega arith)

gains_size : (m start : ℕ) (energies bins : List Float) (n : ℕ) → start + n ≤ bands → m * last_edge ≤ length bins
    → length (fold_to (λ (b : List Float) (k : ℕ). gain_turn m energies b (start + k)) bins n) ≡ length bins
unfolding fold_to
gains_size m start energies bins zero h l = refl
gains_size m start energies bins (suc n) h l =
    let e : length (fold_to (λ (b : List Float) (k : ℕ). gain_turn m energies b (start + k)) bins n) ≡ length bins =
    gains_size m start energies bins n (omega arith) l in
    length-gain_turn m energies (fold_to (λ (b : List Float) (k : ℕ). gain_turn m energies b (start + k)) bins n) (start + n) (omega arith) (omega arith) ∙ e

pub length_gains : (m start end : ℕ) (energies bins : List Float) → start ≤ end → end ≤ bands → m * last_edge ≤ length bins
    → length (fold_range (gain_turn m energies) bins start end) ≡ length bins
unfolding fold_range
length_gains m start end energies bins h k l = gains_size m start energies bins (end - start) (omega arith) l

pub length-cleared : (b : ℕ) (bins : List Float) → b ≤ length bins → length (cleared b bins) ≡ length bins
unfolding cleared
length-cleared b bins h =
    omega (arith, length-append (take b bins) (replicate (length bins - b) zero32), length-take-le b bins h, length-replicate (length bins - b) zero32)

-- the bound lies within the bins of the last band
pub bound-in : (m end downsample : ℕ) → end ≤ bands → bound m end downsample ≤ m * last_edge
unfolding bound
bound-in m end downsample h = go (not (eqb downsample 1)) (ltb (short_block * m / downsample) (lo m end)) refl
  where
    go : (a b : Bool) → ltb (short_block * m / downsample) (lo m end) ≡ b → cond (a && b) (short_block * m / downsample) (lo m end) ≤ m * last_edge
    go true true e = omega (arith, lo-in m end h, ltb-true (short_block * m / downsample) (lo m end) e)
    go true false e = lo-in m end h
    go false b e = lo-in m end h

pub length-spectrum : (m start end downsample seed : ℕ) (energies : List Float) → start ≤ end → end ≤ bands
    → length (spectrum m start end downsample seed energies) ≡ short_block * m
unfolding spectrum spectrum_over
length-spectrum m start end downsample seed energies h k =
    let z = replicate (short_block * m) zero32 in
    let bins = (noise_shape m start seed z).bins in
    let g = fold_range (gain_turn m energies) bins start end in
    let lz : length z ≡ short_block * m = length-replicate (short_block * m) zero32 in
    let lb : length bins ≡ length z = length-noise_shape m start seed z (omega arith) (omega arith) in
    let lg : length g ≡ length bins = length_gains m start end energies bins h k (omega arith) in
    length-cleared (bound m end downsample) g (omega (arith, bound-in m end downsample k)) ∙ lg ∙ lb ∙ lz
