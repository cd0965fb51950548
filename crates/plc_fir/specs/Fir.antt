-- celt_fir_inplace, by output
use Rattle.std.specs.Prelude.{◌≡◌, refl, Bool, ◌&&◌, List, ◌++◌, ℕ, ◌≤◌, eqb, leb, length, get_or, take, drop, Float}
use Rattle.std.proofs.Common.{arith, length-append, length-take, length-drop, drop_at, length-take-le}
use Rattle.std.specs.Float.{nan, binary32}
use Rattle.std.specs.Float.Ieee.{mul}
use Rattle.loops.specs.Front.{tab, length-tab}
use Rattle.loops.specs.Sum.{sum_to}
use Rattle.plc_pad.specs.Past.{past}

-- x[i] + num[0] * x[i - 1] + num[1] * x[i - 2] + ..
unfoldable pub fir_at : List Float → List Float → List Float → ℕ → Float
fir_at num mem x i = sum_to binary32 (λ (j : ℕ). mul binary32 (get_or num j nan) (past x mem i j)) (get_or x i nan) (length num)

-- the all-zero filter: num, the inputs before the start (most recent first), the inputs
unfoldable pub celt_fir : List Float → List Float → List Float → List Float
celt_fir num mem x = tab (fir_at num mem x) (length x)

pub length-celt_fir : (num mem x : List Float) → length (celt_fir num mem x) ≡ length x
unfolding celt_fir
length-celt_fir num mem x = length-tab _ _

-- the same with the inputs before place `from` left as they are
unfoldable pub celt_fir_from : ℕ → List Float → List Float → List Float → List Float
celt_fir_from from num mem x = take from x ++ drop from (celt_fir num mem x)

pub length-celt_fir_from : (from : ℕ) (num mem x : List Float) → length (celt_fir_from from num mem x) ≡ length x
unfolding celt_fir_from
length-celt_fir_from from num mem x =
    omega (
      arith,
      length-append (take from x) (drop from (celt_fir num mem x)),
      length-take from x,
      length-drop from (celt_fir num mem x),
      length-celt_fir num mem x,
    )

pub celt_fir_from-0 : (num mem x : List Float) → celt_fir_from 0 num mem x ≡ celt_fir num mem x
unfolding celt_fir_from
celt_fir_from-0 num mem x = refl

-- from place `from` on it is the filter
pub drop-celt_fir_from : (from : ℕ) (num mem x : List Float) → from ≤ length x → drop from (celt_fir_from from num mem x) ≡ drop from (celt_fir num mem x)
unfolding celt_fir_from
drop-celt_fir_from from num mem x h = drop_at (take from x) (drop from (celt_fir num mem x)) from (length-take-le from x h)

-- the lengths of num, mem and x that are taken
abbrev pub fir_takes : ℕ → ℕ → ℕ → Bool
fir_takes num mem x = eqb num mem && leb num 24 && leb x 1024
