-- A test that is computed at every element of a list, and what it says at each.
use Rattle.std.proofs.Common.{◌∙◌, subst, sym, add-zero, zero-add, add-suc, suc-add, le_of_suc-le-suc, not-suc-le-zero}
use Rattle.std.specs.Prelude.{Bool, true, false, List, [], ◌∷◌, ℕ, zero, suc, ◌+◌, ◌<◌, T, length, get_or}

-- both, the second asked only where the first is true
abbrev pub and_then : Bool → Bool → Bool
and_then true b = b
and_then false b = false

pub and_then-left : (a b : Bool) → T (and_then a b) → T a
and_then-left true b t = tt
and_then-left false b t = t

pub and_then-right : (a b : Bool) → T (and_then a b) → T b
and_then-right true b t = t
and_then-right false b t = absurd t

-- the test f passes at each element and its place, counted from i
unfoldable pub every : {A : Type 0} → (ℕ → A → Bool) → ℕ → List A → Bool
every f i [] = true
every f i (x ∷ xs) = and_then (f i x) (every f (suc i) xs)

from : {A : Type 0} (f : ℕ → A → Bool) (d : A) (xs : List A) (i : ℕ) → T (every f i xs) → (k : ℕ) → k < length xs → T (f (i + k) (get_or xs k d))
unfolding every
from f d [] i t k h = absurd (not-suc-le-zero h)
from f d (x ∷ xs) i t zero h = subst (λ m. T (f m x)) (sym (add-zero i)) (and_then-left (f i x) (every f (suc i) xs) t)
from f d (x ∷ xs) i t (suc k) h =
    subst (λ m. T (f m (get_or xs k d))) (suc-add i k ∙ sym (add-suc i k))
    (from f d xs (suc i) (and_then-right (f i x) (every f (suc i) xs) t) k (le_of_suc-le-suc h))

pub every-at : {A : Type 0} (f : ℕ → A → Bool) (d : A) (xs : List A) → T (every f 0 xs) → (k : ℕ) → k < length xs → T (f k (get_or xs k d))
every-at f d xs t k h = subst (λ m. T (f m (get_or xs k d))) (zero-add k) (from f d xs 0 t k h)
