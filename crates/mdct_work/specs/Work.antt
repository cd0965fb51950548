-- The sums of the inverse transform with the products that they take: a product counts itself, and a sum has those of its parts.
use Rattle.std.specs.Prelude.{List, [], ◌∷◌, map, ℕ, ◌+◌, ◌*◌, ◌/◌, ◌%◌, get_or, Float}
use Rattle.std.specs.Float.{nan, binary64}
use Rattle.std.specs.Float.Ieee.{of_bits, add, mul}
use Rattle.loops.specs.Fold.{fold_to}
use Rattle.loops.specs.Front.{tab}
use Rattle.cosine_circle.specs.Circle.{cos_at}
use Rattle.mdct.specs.Imdct.{angle}

-- a value, and how many products were made for it
pub record Work : Type 0 where
  pub value : Float
  pub products : ℕ

abbrev pub nothing : Work
nothing = record { value = of_bits binary64 0; products = 0 }

unfoldable pub product : Float → Float → Work
product x y = record { value = mul binary64 x y; products = 1 }

unfoldable pub plus : Work → Work → Work
plus a b = record { value = add binary64 a.value b.value; products = a.products + b.products }

-- the sum of output t
unfoldable pub sum_work : ℕ → List Float → ℕ → Work
sum_work n xs t = fold_to (λ (s : Work) (k : ℕ). plus s (product (get_or xs k nan) (cos_at (angle n t k)))) nothing n

-- the values of a list, and the products made for all of it
unfoldable pub values : List Work → List Float
values ws = map (λ (w : Work). w.value) ws

unfoldable pub total : List Work → ℕ
total [] = 0
total (w ∷ ws) = w.products + total ws

-- every sum: what the direct sum works out
unfoldable pub all_sums : ℕ → List Float → List Work
all_sums n xs = tab (sum_work n xs) (2 * n)

-- half of them, in pairs: those of outputs t and n + t, for each t below n / 2
unfoldable pub pair_sums : ℕ → List Float → List Work
pair_sums n xs = tab (λ (j : ℕ). sum_work n xs (j / 2 + j % 2 * n)) n
