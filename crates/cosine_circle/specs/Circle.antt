-- A whole circle of cosines, as the sums of a frame size read it.
use Rattle.std.specs.Prelude.{◌≡◌, refl, List, Bool, true, cond, ◌||◌, ℕ, zero, suc, ◌+◌, ◌-◌, ◌*◌, ◌/◌, ◌^◌, ◌≤◌, ◌<◌, eqb, leb, get_or, replicate, Float}
use Rattle.std.proofs.Common.{arith}
use Rattle.std.specs.Float.{nan, binary64}
use Rattle.std.specs.Float.Ieee.{of_bits, neg}
use Rattle.loops.specs.Front.{front, tab}
use Rattle.cosine_table.specs.Cosines.{cosines}

-- the cosine of j parts of a circle of 7,680, for j up to 7,680, folded into the first quadrant
unfoldable pub cos_at : ℕ → Float
cos_at j =
    cond (leb j 1920) (get_or cosines j nan)
    (cond (leb j 3840) (neg (get_or cosines (3840 - j) nan))
    (cond (leb j 5760) (neg (get_or cosines (j - 3840) nan)) (get_or cosines (7680 - j) nan)))

-- whether n is a frame size: 120 * 2 ^ lm for an lm up to 3
unfoldable pub is_frame_size : ℕ → Bool
is_frame_size n = eqb n (120 * 2 ^ 0) || eqb n (120 * 2 ^ 1) || eqb n (120 * 2 ^ 2) || eqb n (120 * 2 ^ 3)

pub size-is-frame : (lm : ℕ) → lm ≤ 3 → is_frame_size (120 * 2 ^ lm) ≡ true
unfolding is_frame_size
size-is-frame zero h = refl
size-is-frame (suc zero) h = refl
size-is-frame (suc (suc zero)) h = refl
size-is-frame (suc (suc (suc zero))) h = refl
size-is-frame (suc (suc (suc (suc lm)))) h = let z : ⊥ = omega arith in absurd z

-- 3,840 places with +0
abbrev pub no_cosines : List Float
no_cosines = replicate 3840 (of_bits binary64 0)

-- for a frame size n the 4 n cosines of a circle, those at odd numbers of half steps, and +0 in the rest of 3,840 places; else +0 in all
unfoldable pub circle_of : ℕ → List Float
circle_of n = cond (is_frame_size n) (front (tab (λ (i : ℕ). cos_at (960 / n * (2 * i + 1))) (4 * n)) no_cosines (4 * n)) no_cosines

-- r starts with the 4 n cosines of a circle that every size n reads, those at odd numbers of half steps
pub record IsCircle (n : ℕ) (r : List Float) : Type 0 where
  pub entry : (i : ℕ) → i < 4 * n → get_or r i nan ≡ cos_at (960 / n * (2 * i + 1))
