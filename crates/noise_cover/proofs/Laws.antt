-- What laying a block over a tail rests on.
use mathlib.Core.Path.{◌≡◌, ap, ap₂, ◌∙◌}
use mathlib.Core.Bool.{true, false}
use mathlib.Core.List.{List, ◌++◌}
use Prim.Native.Nat.{ℕ, ◌+◌, ◌-◌, ◌≤◌, ◌<◌}
use native.Mathlib.Omega.{arith}
use lib.ListN.{length, get_or, take, drop, length-drop}
use lib.Seq.{take_all, drop-drop}
use lib.Ieee.{Float, nan, binary32, add}
use borrow.Author.Tests.{le-leb, lt-leb, eq-eqb, ne_eqb}
use lib.Dec.{leb, eqb}
use Rattle.loops.specs.Logic.{and_both, and_first, and_second}
use Rattle.loops.specs.Front.{tab}
use Rattle.noise_cover.specs.Cover.{overlapped, lay_takes}

-- the value j of the overlap-add
abbrev pub sum_at : List Float → List Float → ℕ → Float
sum_at block over j = add binary32 (get_or block j nan) (get_or over j nan)

-- the old overlap is the last 120 samples of what stands behind the first 120
pub over_is : (tail rest : List Float) → 240 ≤ length tail → rest ≡ drop 120 tail
    → take (length rest - (length tail - 240)) (drop (length tail - 240) rest) ≡ drop (length tail - 120) tail
over_is tail rest h e =
    let a = length tail - 240 in
    let n : 120 + a ≡ length tail - 120 = omega arith in
    take_all (length rest - a) (drop a rest) (omega (arith, length-drop a rest))
    ∙ ap (drop a) e ∙ drop-drop a 120 tail ∙ ap (λ z. drop z tail) n

-- the overlap-add, and then the rest of the block
pub lay_is : (block over first rest : List Float) → first ≡ tab (sum_at block over) 120 → rest ≡ drop 120 block
    → first ++ rest ≡ overlapped block over ++ drop 120 block
unfolding overlapped
lay_is block over first rest e f = ap₂ ◌++◌ e f

-- what lay takes
pub lay-takes : (n m : ℕ) → 240 ≤ n → m ≡ n → lay_takes n m ≡ true
unfolding lay_takes
lay-takes n m h e = and_both (leb 240 n) (eqb m n) (le-leb 240 n h) (eq-eqb m n e)

pub lay-short : (n m : ℕ) → n < 240 → lay_takes n m ≡ false
unfolding lay_takes
lay-short n m h = and_first (leb 240 n) (eqb m n) (lt-leb 240 n h)

pub lay-other : (n m : ℕ) → (m ≡ n → ⊥) → lay_takes n m ≡ false
unfolding lay_takes
lay-other n m h = and_second (leb 240 n) (eqb m n) (ne_eqb m n h)
