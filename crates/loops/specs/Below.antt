-- A test that is computed at every number below n, and what it says at each.
use Rattle.std.specs.Prelude.{◌≡◌, refl, Bool, true, false, ◌&&◌, ℕ, zero, suc, ◌<◌, eqb}
use Rattle.std.proofs.Common.{ap, ◌∙◌, arith, eqb-true}
use Rattle.std.proofs.lemmas.Bool.{eqb-false}
use Rattle.loops.specs.Logic.{and-true}

unfoldable pub below : (ℕ → Bool) → ℕ → Bool
below p zero = true
below p (suc n) = p n && below p n

pub below_at : (p : ℕ → Bool) (n i : ℕ) → below p n ≡ true → i < n → p i ≡ true
unfolding below
below_at p zero i e h = let z : ⊥ = omega arith in absurd z
below_at p (suc n) i e h = go (below_at p n i here.1) (eqb i n) refl
  where
    here : (p n ≡ true) × (below p n ≡ true)
    here = and-true (p n) (below p n) e

    go : (i < n → p i ≡ true) → (b : Bool) → eqb i n ≡ b → p i ≡ true
    go f true q = ap p (eqb-true i n q) ∙ here.0
    go f false q = f (omega (arith, eqb-false i n q))
