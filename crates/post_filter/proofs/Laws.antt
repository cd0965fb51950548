-- The factors past the last tapset.
use mathlib.Core.Path.{◌≡◌, refl}
use Prim.Native.Nat.{ℕ, zero, suc}
use Rattle.post_filter.specs.Gains.{comb_gains}

pub comb_last : (n : ℕ) → (n ≡ 0 → ⊥) → (n ≡ 1 → ⊥) → comb_gains 2 ≡ comb_gains n
unfolding comb_gains
comb_last zero h k = absurd (h refl)
comb_last (suc zero) h k = absurd (k refl)
comb_last (suc (suc n)) h k = refl
