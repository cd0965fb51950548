-- The comb filter with constant taps: the overlap by the taps one pitch period back.
use Rattle.std.specs.Prelude.{◌≡◌, ℕ, ◌+◌, ◌-◌, Bool, ◌&&◌, List, get_or, length, eqb, Float}
use Rattle.std.specs.Float.{nan, binary32}
use Rattle.std.specs.Float.Ieee.{add, mul, neg}
use Rattle.loops.specs.Front.{tab, length-tab}
use Rattle.history.specs.History.{half, overlap}
use Rattle.post_filter.specs.declared.Filter.{Filter}
use Rattle.post_filter.specs.Limits.{filter_fits}
use Rattle.post_filter.specs.Gains.{comb_gains}

-- a tap: the negated gain times the tapset's factor k
unfoldable pub tap_gain : Filter → ℕ → Float
tap_gain f k = mul binary32 (neg f.gain) (get_or (comb_gains f.tapset) k nan)

-- the two samples k away from a
unfoldable pub pair_at : List Float → ℕ → ℕ → Float
pair_at x a k = add binary32 (get_or x (a - k) nan) (get_or x (a + k) nan)

-- x[i], and then tap by tap, one period t back: ((x[i] + g0 × x[a]) + g1 × (x[a - 1] + x[a + 1])) + g2 × (x[a - 2] + x[a + 2])
unfoldable pub comb_at : List Float → ℕ → ℕ → Float → Float → Float → Float
comb_at x i t g0 g1 g2 =
    let a = i - t in
    add binary32
    (add binary32 (add binary32 (get_or x i nan) (mul binary32 g0 (get_or x a nan))) (mul binary32 g1 (pair_at x a 1)))
    (mul binary32 g2 (pair_at x a 2))

-- the overlap after the first 1,024, each sample from x as it was
unfoldable pub comb_filter_to : List Float → ℕ → Float → Float → Float → List Float
comb_filter_to x t g0 g1 g2 = tab (λ (i : ℕ). comb_at x (half + i) t g0 g1 g2) overlap

-- the same by a filter's setting
unfoldable pub comb_filtered : Filter → List Float → List Float
comb_filtered f x = comb_filter_to x f.period (tap_gain f 0) (tap_gain f 1) (tap_gain f 2)

pub length-comb_filtered : (f : Filter) (x : List Float) → length (comb_filtered f x) ≡ overlap
unfolding comb_filtered comb_filter_to
length-comb_filtered f x = length-tab _ overlap

-- how many samples are written and read, and which setting is taken
unfoldable pub comb_takes : ℕ → ℕ → Filter → Bool
comb_takes n m f = eqb n overlap && (eqb m (half + overlap) && filter_fits f)
