-- A float sum taken in order, one rounding for each addition.
use Rattle.std.specs.Prelude.{◌≡◌, ℕ, ◌+◌, ◌<◌, Float}
use Rattle.std.proofs.Common.{ap}
use Rattle.std.specs.Float.{Format}
use Rattle.std.specs.Float.Ieee.{add}
use Rattle.loops.specs.Fold.{fold_to, fold_more, fold-none, fold_same}

-- (..((a + t 0) + t 1) + ..) + t (n - 1), each sum rounded to the format f
unfoldable pub sum_to : Format → (ℕ → Float) → Float → ℕ → Float
sum_to f t a n = fold_to (λ (s : Float) (j : ℕ). add f s (t j)) a n

pub sum-none : (f : Format) (t : ℕ → Float) (a : Float) → sum_to f t a 0 ≡ a
unfolding sum_to
sum-none f t a = fold-none _ a

-- one more term, as a loop's invariant asks for it
pub sum_more : (f : Format) (t : ℕ → Float) (a s : Float) (n : ℕ) → s ≡ sum_to f t a n → add f s (t n) ≡ sum_to f t a (n + 1)
unfolding sum_to
sum_more f t a s n e = fold_more (λ (s : Float) (j : ℕ). add f s (t j)) a s n e

-- sums of equal terms are equal
pub sum_same : (f : Format) (t u : ℕ → Float) (a : Float) (n : ℕ) → ((j : ℕ) → j < n → t j ≡ u j) → sum_to f t a n ≡ sum_to f u a n
unfolding sum_to
sum_same f t u a n e = fold_same _ _ a n (λ s j h. ap (add f s) (e j h))
