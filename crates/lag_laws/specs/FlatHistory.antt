-- Histories of 2,048 samples that are all zero, of either sign, or all NaN, stay so when downsampled: their lag is 720.
use Rattle.std.specs.Prelude.{◌≡◌, Bool, true, false, cond, ◌&&◌, List, [], ◌∷◌, ℕ, zero, suc, ◌+◌, ◌*◌, ◌-◌, ◌<◌, ltb, eqb, pos, negsuc, length, get_or, set, replicate, Float}
use Rattle.std.proofs.Math.Path.{refl, ap}
use Rattle.std.proofs.Common.{◌∙◌, sym, true≢false, arith, ltb-true}
use Rattle.std.specs.Float.Ieee.{nan, binary32, add, sub, mul, div, lt, eq, neg, of_bits, of_int, unlike}
use Rattle.std.specs.Float.{inf, fin}
use Rattle.std.proofs.lemmas.Bool.{eqb-false}
use Rattle.loops.specs.Fold.{fold_to, fold-holds}
use Rattle.loops.specs.Front.{tab, tab-same, get_or-tab, length-tab}
use Rattle.loops.specs.Nan.{add-nan}
use Rattle.loops.specs.Sum.{sum_to}
use Rattle.buffers.specs.Buffers.{zero32}
use Rattle.plc.specs.Const.{floor32}
use Rattle.plc.specs.Autocorr.{lag_term, lag_to, lag_sum, celt_autocorr}
use Rattle.plc_lag_window.specs.LagWindow.{lag_factor, lag_windowed, lag_value, lag_window}
use Rattle.plc_lpc.specs.Lpc.{lpc_to, celt_lpc}
use Rattle.plc_pad.specs.Past.{past}
use Rattle.plc_fir.specs.Fir.{fir_at, celt_fir, length-celt_fir}
use Rattle.plc_whiten.specs.Whiten.{tilt, damping_to, damped, whitener, length-whitener, whiten_lp}
use Rattle.plc_downsample.specs.Downsample.{half32, smoothed_at, smoothed, summed_at, smoothed_pair, nan-first, nan-second, pitch_downsample, pitch_downsample_pair}
use Rattle.plc_search.specs.Search.{pitch_search}
use Rattle.lag_laws.specs.NoPitch.{SignedZero, zero-mul, zero-add, silent, all-nan}

-- every one of the first n
abbrev pub Each : (Float → Type 0) → ℕ → List Float → Type 0
Each P n x = (i : ℕ) → i < n → P (get_or x i nan)

-- ---- what keeps zeros
add-zeros : (s t : Bool) → add binary32 (fin s 0 (pos 0)) (fin t 0 (pos 0)) ≡ fin (s && t) 0 (pos 0)
unfolding add
add-zeros true true = refl
add-zeros true false = refl
add-zeros false true = refl
add-zeros false false = refl

sum-zero : (a b : Float) → SignedZero a → SignedZero b → SignedZero (add binary32 a b)
sum-zero a b p q =
    record {
      sign = p.sign && q.sign;
      is = ap (λ z. add binary32 z b) p.is ∙ ap (add binary32 (fin p.sign 0 (pos 0))) q.is ∙ add-zeros p.sign q.sign;
    }

-- what a factor makes of a zero
abbrev Fades : Float → Type 0
Fades c = (v : Float) → SignedZero v → SignedZero (mul binary32 c v)

zero_fades : (c : Float) → SignedZero c → Fades c
zero_fades c p v q =
    record {
      sign = unlike p.sign q.sign;
      is = ap (λ z. mul binary32 z v) p.is ∙ ap (mul binary32 (fin p.sign 0 (pos 0))) q.is ∙ zero-mul p.sign q.sign;
    }

half-zero : (s : Bool) → mul binary32 half32 (fin s 0 (pos 0)) ≡ fin s 0 (pos 0)
unfolding mul of_bits
half-zero true = refl
half-zero false = refl

half_fades : Fades half32
half_fades v q = record { sign = q.sign; is = ap (mul binary32 half32) q.is ∙ half-zero q.sign }

tilt-zero : (s : Bool) → mul binary32 tilt (fin s 0 (pos 0)) ≡ fin s 0 (pos 0)
unfolding mul of_bits
tilt-zero true = refl
tilt-zero false = refl

tilt_fades : Fades tilt
tilt_fades v q = record { sign = q.sign; is = ap (mul binary32 tilt) q.is ∙ tilt-zero q.sign }

zero32-zero : SignedZero zero32
unfolding of_bits
zero32-zero = record { sign = false; is = refl }

-- ---- smoothing
smoothed-zero : (x : List Float) → Each SignedZero 2048 x → (i : ℕ) → i < 1024 → SignedZero (smoothed_at x i)
unfolding smoothed_at
smoothed-zero x a i h = go (eqb i 0) (eqb-false i 0)
  where
    go : (b : Bool) → (b ≡ false → i ≡ 0 → ⊥)
        → SignedZero
        (cond b (mul binary32 half32 (add binary32 (mul binary32 half32 (get_or x 1 nan)) (get_or x 0 nan)))
        (mul binary32 half32
        (add binary32 (mul binary32 half32 (add binary32 (get_or x (2 * i - 1) nan) (get_or x (2 * i + 1) nan))) (get_or x (2 * i) nan))))
    go true k = half_fades _ (sum-zero _ _ (half_fades _ (a 1 (omega arith))) (a 0 (omega arith)))
    go false k =
        half_fades _
        (sum-zero _ _ (half_fades _ (sum-zero _ _ (a (2 * i - 1) (omega arith)) (a (2 * i + 1) (omega arith)))) (a (2 * i) (omega arith)))

-- ---- the whitener of zeros
lag_zero : (x : List Float) (lag : ℕ) → Each SignedZero (length x) x → lag_sum x lag ≡ zero32
unfolding lag_to sum_to
lag_zero x lag a =
    fold-holds (λ s. s ≡ zero32) _ zero32 (length x - lag) refl
    (λ s k h e.
    let t : SignedZero (lag_term x lag k) = zero_fades _ (a (lag + k) (omega arith)) _ (a k (omega arith)) in
    ap (λ z. add binary32 z (lag_term x lag k)) e ∙ ap (add binary32 zero32) t.is ∙ zero-add t.sign)

-- the correlations of silence: the noise floor alone
abbrev floor_only : List Float
floor_only = set (tab (λ (i : ℕ). zero32) 5) 0 (add binary32 zero32 floor32)

autocorr_zero : (x : List Float) → Each SignedZero (length x) x → celt_autocorr x 5 ≡ floor_only
unfolding celt_autocorr
autocorr_zero x a =
    ap (λ z. set z 0 (add binary32 (lag_sum x 0) floor32)) (tab-same (lag_sum x) (λ (i : ℕ). zero32) 5 (λ i h. lag_zero x i a))
    ∙ ap (λ z. set (tab (λ (i : ℕ). zero32) 5) 0 (add binary32 z floor32)) (lag_zero x 0 a)

unfoldable is_zero : Float → Bool
is_zero nan = false
is_zero (inf s) = false
is_zero (fin s zero (pos zero)) = true
is_zero (fin s zero (pos (suc k))) = false
is_zero (fin s zero (negsuc k)) = false
is_zero (fin s (suc m) e) = false

is-zero : (v : Float) → is_zero v ≡ true → SignedZero v
unfolding is_zero
is-zero nan e = absurd (true≢false (sym e))
is-zero (inf s) e = absurd (true≢false (sym e))
is-zero (fin s zero (pos zero)) e = record { sign = s; is = refl }
is-zero (fin s zero (pos (suc k))) e = absurd (true≢false (sym e))
is-zero (fin s zero (negsuc k)) e = absurd (true≢false (sym e))
is-zero (fin s (suc m) e') e = absurd (true≢false (sym e))

-- the coefficients that the noise floor alone gives
abbrev floor_whitener : List Float
floor_whitener = damped (celt_lpc (lag_window floor_only) 4)

floor-zero : (j : ℕ) → j < 4 → is_zero (get_or floor_whitener j nan) ≡ true
unfolding is_zero damped damping_to celt_lpc lpc_to lag_window lag_value lag_windowed lag_factor tab fold_to sum_to add sub mul div lt eq neg of_bits of_int
floor-zero zero h = refl
floor-zero (suc zero) h = refl
floor-zero (suc (suc zero)) h = refl
floor-zero (suc (suc (suc zero))) h = refl
floor-zero (suc (suc (suc (suc j)))) h = let z : ⊥ = omega arith in absurd z

whitener_fades : (x : List Float) → Each SignedZero (length x) x → Each Fades 4 (whitener x)
unfolding whitener
whitener_fades x a j h =
    rw (autocorr_zero x a) (zero_fades (get_or floor_whitener j nan) (is-zero (get_or floor_whitener j nan) (floor-zero j h)))

-- ---- filters
module _ (num mem x : List Float) where
  past-zero : Each SignedZero (length num) mem → Each SignedZero (length x) x → (i j : ℕ) → i < length x → j < length num → SignedZero (past x mem i j)
  past-zero m a i j h k = go (ltb j i) (ltb-true j i)
    where
      go : (b : Bool) → (b ≡ true → j < i) → SignedZero (cond b (get_or x (i - 1 - j) nan) (get_or mem (j - i) nan))
      go true t = let l : j < i = t refl in a (i - 1 - j) (omega arith)
      go false t = m (j - i) (omega arith)

  fir_zero : Each Fades (length num) num → Each SignedZero (length num) mem → Each SignedZero (length x) x → Each SignedZero (length x) (celt_fir num mem x)
  unfolding celt_fir fir_at sum_to
  fir_zero n m a i h =
      rw (get_or-tab (fir_at num mem x) (length x) i nan h)
      (fold-holds SignedZero (λ (s : Float) (j : ℕ). add binary32 s (mul binary32 (get_or num j nan) (past x mem i j))) (get_or x i nan) (length num) (a i h)
      (λ s j k z. sum-zero s (mul binary32 (get_or num j nan) (past x mem i j)) z (n j k (past x mem i j) (past-zero m a i j h k))))

  nan-add : (y : Float) → add binary32 nan y ≡ nan
  unfolding add
  nan-add y = refl

  fir_nan : Each (λ v. v ≡ nan) (length x) x → Each (λ v. v ≡ nan) (length x) (celt_fir num mem x)
  unfolding celt_fir fir_at sum_to
  fir_nan a i h =
      get_or-tab (fir_at num mem x) (length x) i nan h
      ∙ fold-holds (λ s. s ≡ nan) (λ (s : Float) (j : ℕ). add binary32 s (mul binary32 (get_or num j nan) (past x mem i j))) (get_or x i nan) (length num) (a i h)
      (λ s j k e. ap (λ z. add binary32 z (mul binary32 (get_or num j nan) (past x mem i j))) e ∙ nan-add (mul binary32 (get_or num j nan) (past x mem i j)))

zeros : Each SignedZero 4 (replicate 4 zero32)
zeros zero h = zero32-zero
zeros (suc zero) h = zero32-zero
zeros (suc (suc zero)) h = zero32-zero
zeros (suc (suc (suc zero))) h = zero32-zero
zeros (suc (suc (suc (suc j)))) h = let z : ⊥ = omega arith in absurd z

tilts : Each Fades 1 (tilt ∷ [])
tilts zero h = tilt_fades
tilts (suc j) h = let z : ⊥ = omega arith in absurd z

one-zero : Each SignedZero 1 (zero32 ∷ [])
one-zero zero h = zero32-zero
one-zero (suc j) h = let z : ⊥ = omega arith in absurd z

-- the order-4 filter's output
abbrev filtered : List Float → List Float
filtered lp = celt_fir (whitener lp) (replicate 4 zero32) lp

length-filtered : (lp : List Float) → length (filtered lp) ≡ length lp
length-filtered lp = length-celt_fir (whitener lp) (replicate 4 zero32) lp

whiten_lp-zero : (lp : List Float) → Each SignedZero (length lp) lp → Each SignedZero (length lp) (whiten_lp lp)
unfolding whiten_lp
whiten_lp-zero lp a i h =
    let w : Each SignedZero (length lp) (filtered lp) =
    fir_zero (whitener lp) (replicate 4 zero32) lp (λ j k. whitener_fades lp a j (omega (arith, length-whitener lp)))
    (λ j k. zeros j (omega (arith, length-whitener lp))) a in
    fir_zero (tilt ∷ []) (zero32 ∷ []) (filtered lp) tilts one-zero (λ j k. w j (omega (arith, length-filtered lp))) i (omega (arith, length-filtered lp))

whiten_lp-nan : (lp : List Float) → Each (λ v. v ≡ nan) (length lp) lp → Each (λ v. v ≡ nan) (length lp) (whiten_lp lp)
unfolding whiten_lp
whiten_lp-nan lp a i h =
    fir_nan (tilt ∷ []) (zero32 ∷ []) (filtered lp)
    (λ j k. fir_nan (whitener lp) (replicate 4 zero32) lp a j (omega (arith, length-filtered lp))) i (omega (arith, length-filtered lp))

-- ---- the lag
at_720 : (y : List Float) → pitch_search y ≡ 0 → 720 - pitch_search y ≡ 720
at_720 y e = ap (λ z. 720 - z) e

-- where the smoothed samples are zeros, or all NaN
module _ (f : ℕ → Float) where
  tab-zero : ((i : ℕ) → i < 1024 → SignedZero (f i)) → 720 - pitch_search (whiten_lp (tab f 1024)) ≡ 720
  tab-zero a =
      at_720 (whiten_lp (tab f 1024))
      (silent (whiten_lp (tab f 1024))
      (λ i h.
      whiten_lp-zero (tab f 1024) (λ j k. let l : j < 1024 = omega (arith, length-tab f 1024) in rw (get_or-tab f 1024 j nan l) (a j l)) i
      (omega (arith, length-tab f 1024))))

  tab-nan : ((i : ℕ) → i < 1024 → f i ≡ nan) → 720 - pitch_search (whiten_lp (tab f 1024)) ≡ 720
  tab-nan a =
      at_720 (whiten_lp (tab f 1024))
      (all-nan (whiten_lp (tab f 1024))
      (λ i h.
      whiten_lp-nan (tab f 1024) (λ j k. let l : j < 1024 = omega (arith, length-tab f 1024) in get_or-tab f 1024 j nan l ∙ a j l) i
      (omega (arith, length-tab f 1024))))

half-nan : mul binary32 half32 nan ≡ nan
unfolding mul of_bits
half-nan = refl

smoothed-nan : (x : List Float) → Each (λ v. v ≡ nan) 2048 x → (i : ℕ) → i < 1024 → smoothed_at x i ≡ nan
unfolding smoothed_at
smoothed-nan x a i h = go (eqb i 0)
  where
    go : (b : Bool)
        → cond b (mul binary32 half32 (add binary32 (mul binary32 half32 (get_or x 1 nan)) (get_or x 0 nan)))
        (mul binary32 half32
        (add binary32 (mul binary32 half32 (add binary32 (get_or x (2 * i - 1) nan) (get_or x (2 * i + 1) nan))) (get_or x (2 * i) nan)))
        ≡ nan
    go true =
        ap (λ z. mul binary32 half32 (add binary32 (mul binary32 half32 (get_or x 1 nan)) z)) (a 0 (omega arith))
        ∙ ap (mul binary32 half32) (add-nan (mul binary32 half32 (get_or x 1 nan))) ∙ half-nan
    go false =
        let t : Float = mul binary32 half32 (add binary32 (get_or x (2 * i - 1) nan) (get_or x (2 * i + 1) nan)) in
        ap (λ z. mul binary32 half32 (add binary32 t z)) (a (2 * i) (omega arith)) ∙ ap (mul binary32 half32) (add-nan t) ∙ half-nan

-- one channel
pub silent_history : (x : List Float) → Each SignedZero 2048 x → 720 - pitch_search (pitch_downsample x) ≡ 720
unfolding pitch_downsample smoothed
silent_history x a = tab-zero (smoothed_at x) (smoothed-zero x a)

pub nan_history : (x : List Float) → Each (λ v. v ≡ nan) 2048 x → 720 - pitch_search (pitch_downsample x) ≡ 720
unfolding pitch_downsample smoothed
nan_history x a = tab-nan (smoothed_at x) (smoothed-nan x a)

-- two channels; one that is all NaN is enough
pub silent-pair : (x y : List Float) → Each SignedZero 2048 x → Each SignedZero 2048 y → 720 - pitch_search (pitch_downsample_pair x y) ≡ 720
unfolding pitch_downsample_pair smoothed_pair summed_at
silent-pair x y a b =
    tab-zero (summed_at x y)
    (λ i h. sum-zero (smoothed_at x i) (smoothed_at y i) (smoothed-zero x a i h) (smoothed-zero y b i h))

-- either channel of NaN is enough
pub nan-pair : (x y : List Float) → Each (λ v. v ≡ nan) 2048 y → 720 - pitch_search (pitch_downsample_pair x y) ≡ 720
unfolding pitch_downsample_pair smoothed_pair
nan-pair x y b =
    tab-nan (summed_at x y) (λ i h. nan-second x y i (smoothed-nan y b i h))

pub nan-pair-first : (x y : List Float) → Each (λ v. v ≡ nan) 2048 x → 720 - pitch_search (pitch_downsample_pair x y) ≡ 720
unfolding pitch_downsample_pair smoothed_pair
nan-pair-first x y a =
    tab-nan (summed_at x y) (λ i h. nan-first x y i (smoothed-nan x a i h))
