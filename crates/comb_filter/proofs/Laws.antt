-- Laws of plain variables that the proofs cite.
use Rattle.std.proofs.Common.{◌≡◌, ap, ◌∙◌, true, List, ℕ, ◌+◌, ◌<◌, ◌≤◌, length, get_or, arith}
use Rattle.std.proofs.lemmas.Bool.Decides.{nat_tests}
use Rattle.std.specs.Float.{Float, nan}
use Rattle.loops.specs.Front.{front, tab, tab-all, get_or-tab}
use Rattle.post_filter.specs.declared.Filter.{Filter}
use Rattle.post_filter.specs.Limits.{filter_fits, fits_each}
use Rattle.history.specs.History.{half, overlap}
use Rattle.comb_filter.specs.Comb.{tap_gain, comb_at, comb_filter_to, comb_filtered, comb_takes}

pub comb-yes : (n m : ℕ) (f : Filter) → n ≡ overlap → m ≡ half + overlap → filter_fits f ≡ true → comb_takes n m f ≡ true
unfolding comb_takes
comb-yes n m f p q r = grind (arith, nat_tests)

-- the taps of each sample of the overlap lie before it
pub within : (n i : ℕ) (f : Filter) → filter_fits f ≡ true → n ≡ half + overlap → i < overlap
    → (f.period + 2 ≤ half + i) × (half + i < n) × (2 < f.period)
within n i f e l h = let p = fits_each f e in (omega (arith, p.1), omega arith, omega (arith, p.0))

-- the sample at each place of the overlap, by a setting's own taps
abbrev pub sample : List Float → ℕ → List Float → ℕ → Float
sample x t g k = comb_at x (half + k) t (get_or g 0 nan) (get_or g 1 nan) (get_or g 2 nan)

pub filtered-all : (f : Filter) (x dst dst₀ : List Float) (g : List Float) (i : ℕ) → g ≡ tab (tap_gain f) 3
    → dst ≡ front (tab (sample x f.period g) i) dst₀ i → length dst₀ ≡ i → length dst₀ ≡ overlap → dst ≡ comb_filtered f x
unfolding comb_filtered comb_filter_to tab
filtered-all f x dst dst₀ g i p e l m =
    tab-all _ nan dst₀ dst i e l ∙ ap (tab (sample x f.period g)) m
    ∙ ap (λ z. tab (sample x f.period z) overlap) p
    ∙ simp (get_or-tab (tap_gain f) 3 0 nan (omega arith), get_or-tab (tap_gain f) 3 1 nan (omega arith), get_or-tab (tap_gain f) 3 2 nan (omega arith))
