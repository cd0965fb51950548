-- the padded buffer of the all-zero filter, and its taps row by row
use mathlib.Core.Path.{◌≡◌, refl, ap, ◌∙◌, sym}
use mathlib.Core.List.{List}
use Prim.Native.Nat.{ℕ, ◌+◌, ◌-◌, ◌≤◌}
use native.Mathlib.Omega.{arith}
use lib.ListN.{length, get_or}
use lib.Ieee.{Float, nan, binary32, add}
use Rattle.loops.specs.Front.{tab, tab-same, tab-list, get_or-tab}
use Rattle.loops.specs.Part.{put}
use Rattle.loops.specs.PartRead.{put_before, put_inside}
use Rattle.loops.specs.Sum.{sum-none, sum_more}
use Rattle.plc_pad.specs.Pad.{Remembers, Holds, tap, taps_row}

-- samples copied behind the memory
module _ (mem xs pad y : List Float) (n : ℕ) (l : 24 ≤ length pad) where
  pub remembers_put : Remembers pad mem → length mem ≤ 24 → Remembers (put 24 n y pad) mem
  remembers_put r m k h = put_before 24 n y pad l nan (23 - k) (omega arith) ∙ r k h

  pub holds-put : y ≡ xs → Holds (put 24 n y pad) xs (length xs)
  holds-put e i h = put_inside 24 n y pad l nan i (24 + i) refl (omega (arith, ap length e)) ∙ ap (λ z. get_or z i nan) e

-- tap j on each sample of xs, row by row
abbrev pub tap_on : List Float → List Float → List Float → ℕ → ℕ → Float
tap_on num pad xs j i = add binary32 (get_or xs i nan) (tap num pad i j)

pub tap-more : (num pad xs ys zs : List Float) (n j : ℕ) → ys ≡ tab (taps_row num pad xs j) n → zs ≡ tab (tap_on num pad ys j) n
    → zs ≡ tab (taps_row num pad xs (j + 1)) n
tap-more num pad xs ys zs n j e f =
    f ∙ tab-same (tap_on num pad ys j) (taps_row num pad xs (j + 1)) n
    (λ i h. sum_more binary32 (tap num pad i) (get_or xs i nan) (get_or ys i nan) j (ap (λ z. get_or z i nan) e ∙ get_or-tab (taps_row num pad xs j) n i nan h))

pub tap-none : (num pad xs : List Float) → xs ≡ tab (taps_row num pad xs 0) (length xs)
tap-none num pad xs =
    sym (tab-list nan xs) ∙ tab-same (λ (i : ℕ). get_or xs i nan) (taps_row num pad xs 0) (length xs) (λ i h. sym (sum-none binary32 (tap num pad i) (get_or xs i nan)))
