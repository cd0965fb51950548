-- What pair_sums takes.
use mathlib.Core.Path.{◌≡◌}
use mathlib.Core.Bool.{true}
use mathlib.Core.List.{List}
use lib.ListN.{length}
use lib.Ieee.{Float}
use borrow.Author.Tests.{eq-eqb}
use Rattle.loops.specs.Logic.{and_both}
use Rattle.cosine_circle.specs.Circle.{is_frame_size}
use Rattle.mdct_pairs.specs.Pairs.{pair_takes}

-- a frame's inputs and as much room
pub takes : (xs was : List Float) → is_frame_size (length xs) ≡ true → length was ≡ length xs → pair_takes (length xs) (length was) ≡ true
unfolding pair_takes
takes xs was f l = and_both _ _ f (eq-eqb (length was) (length xs) l)
