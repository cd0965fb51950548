-- What `find_best_pitch` answers.
use mathlib.Core.Path.{◌≡◌, ap, ◌∙◌}
use mathlib.Core.List.{List}
use Prim.Native.Nat.{ℕ, ◌+◌, ◌≤◌}
use native.Mathlib.Omega.{arith}
use lib.Ieee.{Float}
use lib.ListN.{length}
use borrow.Author.Tests.{le-leb}
use Rattle.std.specs.Prelude.{Option, Some}
use Rattle.plc_best.specs.Best.{find_best_pitch, best_pitches}

-- a pair, where y reaches far enough
pub found : {r : Option (ℕ × ℕ)} (xcorr y : List Float) (len n : ℕ) → length xcorr ≡ n → len + n ≤ length y → r ≡ best_pitches xcorr y len (length xcorr)
    → r ≡ Some ((find_best_pitch xcorr y len n).first.at, (find_best_pitch xcorr y len n).second.at)
unfolding best_pitches
found xcorr y len n l h e =
    e ∙ ap (best_pitches xcorr y len) l ∙ simp (le-leb n (length xcorr) (omega arith), le-leb (len + n) (length y) h)
