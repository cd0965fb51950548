-- The concealed tail folded into the overlap, so that the next frame's transform undoes it.
use Rattle.std.specs.Prelude.{◌≡◌, ℕ, ◌-◌, Bool, cond, ◌&&◌, List, get_or, length, ltb, eqb, Float}
use Rattle.std.specs.Float.{nan, binary32}
use Rattle.std.specs.Float.Ieee.{add, mul}
use Rattle.loops.specs.Front.{tab, length-tab}
use Rattle.history.specs.History.{overlap}

-- the overlap's last place
abbrev pub last : ℕ
last = 119

-- how far place k is from the nearer end
unfoldable pub from_end : ℕ → ℕ
from_end k = cond (ltb k 60) k (last - k)

-- places k and 119 - k share a sum, each times the window turned round: w[119 - k] × (w[i] × x[119 - i] + w[119 - i] × x[i])
unfoldable pub fold_at : List Float → List Float → ℕ → Float
fold_at w x k =
    let i = from_end k in
    mul binary32 (get_or w (last - k) nan)
    (add binary32 (mul binary32 (get_or w i nan) (get_or x (last - i) nan)) (mul binary32 (get_or w (last - i) nan) (get_or x i nan)))

unfoldable pub folded : List Float → List Float → List Float
folded w x = tab (fold_at w x) overlap

pub length-folded : (w x : List Float) → length (folded w x) ≡ overlap
unfolding folded
length-folded w x = length-tab _ overlap

-- how many samples the overlap and the concealed tail have
unfoldable pub fold_takes : ℕ → ℕ → Bool
fold_takes over x = eqb over overlap && eqb x overlap
