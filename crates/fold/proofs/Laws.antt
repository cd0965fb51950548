-- Laws of plain variables that the proofs cite.
use Rattle.std.proofs.Common.{◌≡◌, ap, ◌∙◌, true, List, ℕ, ◌-◌, ◌<◌, length, arith}
use Prim.Native.Nat.{min}
use Rattle.std.proofs.lemmas.Bool.Decides.{nat_tests}
use Rattle.std.specs.Float.{Float, nan}
use Rattle.loops.specs.Front.{front, tab, tab-all}
use Rattle.history.specs.History.{overlap}
use Rattle.fold.specs.Fold.{from_end, fold_at, folded, fold_takes}

-- the nearer of the two ends
pub nearer : (k n : ℕ) → n ≡ min k (119 - k) → k < overlap → n ≡ from_end k
unfolding from_end
nearer k n e h = grind (arith, nat_tests)

pub fold-yes : (a b : ℕ) → a ≡ overlap → b ≡ overlap → fold_takes a b ≡ true
unfolding fold_takes
fold-yes a b p q = grind (arith, nat_tests)

-- all places are folded
pub folded-all : (w v x over over₀ : List Float) (k : ℕ) → over ≡ front (tab (fold_at w x) k) over₀ k → length over₀ ≡ k
    → length over₀ ≡ overlap → w ≡ v → over ≡ folded v x
unfolding folded
folded-all w v x over over₀ k e l m p =
    tab-all _ nan over₀ over k e l ∙ ap (tab (fold_at w x)) m ∙ ap (λ z. tab (fold_at z x) overlap) p
