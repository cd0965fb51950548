-- The sums before the index have their term.
use Rattle.loops.specs.Front.{front, tab}
use lib.Ieee.{Float, nan, binary32, add, mul}
use mathlib.Core.Path.{◌≡◌}
use mathlib.Core.List.{List}
use Prim.Native.Nat.{ℕ}
use lib.ListN.{get_or}
use Rattle.plc_correlate.proofs.add_products.Given as goal

abbrev pub term : Float → List Float → List Float → ℕ → Float
term v y s k = add binary32 (get_or s k nan) (mul binary32 v (get_or y k nan))

abbrev pub invariant-loop-i : goal.invariant-loop-i
invariant-loop-i l = l.sums ≡ front (tab (term l.v l.y l.initial.sums) l.i) l.initial.sums l.i
