-- The newest end after a frame.
use Rattle.std.specs.Prelude.{◌≡◌, ℕ, ◌-◌, ◌≤◌, List, ◌++◌, length, drop, Float}
use Rattle.std.proofs.Common.{arith, length-append, length-drop}

-- a frame makes room at the oldest end and comes in as the newest
unfoldable pub rolled : List Float → List Float → List Float
rolled frame newest = drop (length frame) newest ++ frame

pub length-rolled : (frame newest : List Float) → length frame ≤ length newest → length (rolled frame newest) ≡ length newest
unfolding rolled
length-rolled frame newest h = omega (arith, length-append (drop (length frame) newest) frame, length-drop (length frame) newest)

-- all but the first n moved to the start; the last n still stand
unfoldable pub moved_back : ℕ → List Float → List Float
moved_back n newest = drop n newest ++ drop (length newest - n) newest
