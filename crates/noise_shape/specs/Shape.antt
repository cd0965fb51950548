-- Noise in every band from start to the last, each brought to unit energy, though the end band may be lower.
use Rattle.std.specs.Prelude.{◌≡◌, List, Bool, ◌&&◌, leb, Float}
use Rattle.std.proofs.Math.Path.{refl, ap, sym}
use Rattle.std.proofs.Common.{◌∙◌, add-zero}
use Prim.Native.Nat.{ℕ, zero, suc, ◌+◌, ◌*◌, ◌-◌, ◌≤◌, ◌<◌}
use Rattle.std.proofs.Math.Nat.{mul-le-mul_left, mul-sub, sub_self}
use native.Mathlib.Omega.{arith}
use Rattle.std.proofs.Math.ListN.{length}
use Rattle.loops.specs.Fold.{fold_to, fold_range}
use Rattle.loops.specs.Part.{put, length-put}
use Rattle.buffers.specs.Buffers.{one32}
use Rattle.draw.specs.Draw.{draws, draws-none}
use Rattle.draw.proofs.Draws.{draws-add}
use Rattle.draw.specs.Noise.{noise_band, length-noise_band}
use Rattle.band_quant.specs.Renormalise.{renormalise_vector, length-renormalise_vector}
use Rattle.custom_mode.specs.Mode.{bands, last_edge, edges, edge}
use Rattle.custom_mode.specs.Bands.{edges-rise}

-- the first bin of band i and the number of its bins, at block factor m
abbrev pub lo : ℕ → ℕ → ℕ
lo m i = m * edge i

abbrev pub width : ℕ → ℕ → ℕ
width m i = lo m (i + 1) - lo m i

-- n values of noise at unit energy
unfoldable pub band_noise : ℕ → ℕ → List Float
band_noise n seed = renormalise_vector (noise_band n seed) one32

pub length-band_noise : (n seed : ℕ) → length (band_noise n seed) ≡ n
unfolding band_noise
length-band_noise n seed = length-renormalise_vector (noise_band n seed) one32 ∙ length-noise_band n seed

-- the bins and the running seed
pub record Shape : Type 0 where
  pub bins : List Float
  pub seed : ℕ

abbrev pub shaped : List Float → ℕ → Shape
shaped bins seed = record { bins = bins; seed = seed }

unfoldable pub noise_turn : ℕ → Shape → ℕ → Shape
noise_turn m s i = record {
  bins = put (lo m i) (width m i) (band_noise (width m i) s.seed) s.bins;
  seed = draws (width m i) s.seed;
}

-- over bins that are all zero: noise in the bands from start to 20
unfoldable pub noise_shape : ℕ → ℕ → ℕ → List Float → Shape
noise_shape m start seed bins = fold_range (noise_turn m) (record { bins = bins; seed = seed }) start bands

-- a block factor of at most 8, a start of at most 21, and bins for all bands
unfoldable pub shape_takes : ℕ → ℕ → ℕ → Bool
shape_takes m start size = leb m 8 && (leb start bands && leb (m * last_edge) size)

-- the bands from one on do not fall
pub edge-up : (i n : ℕ) → i + n ≤ bands → edge i ≤ edge (i + n)
edge-up i zero h = let e : i + 0 ≡ i = add-zero i in rw e (omega arith)
edge-up i (suc n) h =
    let e : i + suc n ≡ i + n + 1 = omega arith in
    let r = edges-rise (i + n) (omega arith) in
    rw e (omega (arith, edge-up i n (omega arith)))

-- a band lies within the bins of all bands
pub band_in : (m i : ℕ) → i < bands → (lo m i ≤ lo m (i + 1)) × (lo m (i + 1) ≤ m * last_edge)
band_in m i h =
    let r = edges-rise i h in
    (mul-le-mul_left m r.0, mul-le-mul_left m r.1)

pub lo-in : (m i : ℕ) → i ≤ bands → lo m i ≤ m * last_edge
unfolding edge edges
lo-in m i h = let e : i + (bands - i) ≡ bands = omega arith in mul-le-mul_left m (rw e at (edge-up i (bands - i) (omega arith)))

module _ (m start : ℕ) where
  abbrev pub turn : Shape → ℕ → Shape
  turn s k = noise_turn m s (start + k)

  pub seed_after : (a : Shape) (n : ℕ) → start + n ≤ bands → (fold_to turn a n).seed ≡ draws (lo m (start + n) - lo m start) a.seed
  unfolding fold_to turn noise_turn
  seed_after a zero h =
      let e : lo m (start + 0) - lo m start ≡ 0 = ap (λ z. lo m z - lo m start) (add-zero start) ∙ sub_self (lo m start) in
      sym (draws-none a.seed) ∙ ap (λ z. draws z a.seed) (sym e)
  seed_after a (suc n) h =
      let w = width m (start + n) in
      let d = lo m (start + n) - lo m start in
      let u : lo m start ≤ lo m (start + n) = mul-le-mul_left m (edge-up start n (omega arith)) in
      let v = band_in m (start + n) (omega arith) in
      let k : start + suc n ≡ start + n + 1 = omega arith in
      let x : d + w ≡ lo m (start + n + 1) - lo m start = omega arith in
      let e : d + w ≡ lo m (start + suc n) - lo m start = x ∙ ap (λ z. lo m z - lo m start) (sym k) in
      ap (draws w) (seed_after a n (omega arith)) ∙ sym (draws-add d w a.seed) ∙ ap (λ z. draws z a.seed) e

  pub size-after : (a : Shape) (n : ℕ) → start + n ≤ bands → m * last_edge ≤ length a.bins → length (fold_to turn a n).bins ≡ length a.bins
  unfolding fold_to turn noise_turn
  size-after a zero h l = refl
  size-after a (suc n) h l =
      let b : length (fold_to turn a n).bins ≡ length a.bins = size-after a n (omega arith) l in
      let v = band_in m (start + n) (omega arith) in
      let s = (fold_to turn a n).seed in
      let w = width m (start + n) in
      length-put (lo m (start + n)) w (band_noise w s) (fold_to turn a n).bins (length-band_noise w s) (omega arith) ∙ b

  -- a noise block moves the seed on by m * (last_edge - edge start) draws
  pub noise_seed_lem : (seed : ℕ) (bins : List Float) → start ≤ bands → (noise_shape m start seed bins).seed ≡ draws (m * (last_edge - edge start)) seed
  unfolding noise_shape fold_range turn edge edges
  noise_seed_lem seed bins h =
      let e : start + (bands - start) ≡ bands = omega arith in
      seed_after (record { bins = bins; seed = seed }) (bands - start) (omega arith)
      ∙ ap (λ z. draws (lo m z - lo m start) seed) e
      ∙ ap (λ z. draws z seed) (sym (mul-sub m last_edge (edge start)))

  pub length-noise_shape : (seed : ℕ) (bins : List Float) → start ≤ bands → m * last_edge ≤ length bins
      → length (noise_shape m start seed bins).bins ≡ length bins
  unfolding noise_shape fold_range turn
  length-noise_shape seed bins h l = size-after (record { bins = bins; seed = seed }) (bands - start) (omega arith) l
