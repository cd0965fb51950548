-- The circle's cosines, quadrant by quadrant.
use mathlib.Core.Path.{◌≡◌}
use Prim.Native.Nat.{ℕ, ◌-◌, ◌≤◌, ◌<◌}
use native.Mathlib.Omega.{arith}
use lib.ListN.{get_or}
use lib.Ieee.{nan, neg}
use borrow.Author.Tests.{le-leb, lt-leb}
use Rattle.cosine_table.specs.Cosines.{cosines}
use Rattle.cosine_circle.specs.Circle.{cos_at}

pub first : (j : ℕ) → j ≤ 1920 → cos_at j ≡ get_or cosines j nan
unfolding cos_at
first j h = simp (le-leb j 1920 h)

pub second : (j : ℕ) → 1920 < j → j ≤ 3840 → cos_at j ≡ neg (get_or cosines (3840 - j) nan)
unfolding cos_at
second j g h = simp (lt-leb j 1920 g, le-leb j 3840 h)

pub third : (j : ℕ) → 3840 < j → j ≤ 5760 → cos_at j ≡ neg (get_or cosines (j - 3840) nan)
unfolding cos_at
third j g h = simp (lt-leb j 1920 (omega arith), lt-leb j 3840 g, le-leb j 5760 h)

pub fourth : (j : ℕ) → 5760 < j → cos_at j ≡ get_or cosines (7680 - j) nan
unfolding cos_at
fourth j h = simp (lt-leb j 1920 (omega arith), lt-leb j 3840 (omega arith), lt-leb j 5760 h)
