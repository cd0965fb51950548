-- The window on both ends, as celt_autocorr puts it there
use Rattle.std.specs.Prelude.{◌≡◌, List, ℕ, ◌-◌, length, get_or, set, Float}
use Rattle.std.proofs.Common.{length-set}
use Rattle.std.specs.Float.{nan, binary32}
use Rattle.std.specs.Float.Ieee.{mul}
use Rattle.loops.specs.Fold.{fold_to, fold-keeps}

-- window[i] on the sample i from either end
abbrev pub window_turn : List Float → List Float → List Float → ℕ → List Float
window_turn x window xx i =
    set (set xx i (mul binary32 (get_or x i nan) (get_or window i nan))) (length x - i - 1)
    (mul binary32 (get_or x (length x - i - 1) nan) (get_or window i nan))

-- x with the window on its first and last samples
unfoldable pub windowed_ends : List Float → List Float → List Float
windowed_ends x window = fold_to (window_turn x window) x (length window)

pub length-windowed_ends : (x window : List Float) → length (windowed_ends x window) ≡ length x
unfolding windowed_ends
length-windowed_ends x window = fold-keeps length (window_turn x window) x (length window) (λ s i. simp length-set)
