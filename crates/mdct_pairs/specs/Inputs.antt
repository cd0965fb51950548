-- The code's table of inputs: no answer is defined by it.
use Rattle.std.specs.Prelude.{List, cond, ℕ, ◌*◌, ◌/◌, ◌%◌, eqb, length, get_or, Float}
use Rattle.std.specs.Float.{nan}
use Rattle.std.specs.Float.Ieee.{neg}
use Rattle.loops.specs.Front.{tab}

-- Each input twice, for output t and for n + t. The latter reads the circle a quarter on, and three quarters on for every other input,
-- which is the quarter's cosine with its sign turned: so that input has it turned.
unfoldable pub input_at : List Float → ℕ → Float
input_at xs i = cond (eqb (i % 4) 3) (neg (get_or xs (i / 2) nan)) (get_or xs (i / 2) nan)

unfoldable pub inputs_of : List Float → List Float
inputs_of xs = tab (input_at xs) (2 * length xs)
