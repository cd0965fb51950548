-- The linear congruential generator: `celt_lcg_rand`, and any number of draws.
use Rattle.std.specs.Prelude.{◌≡◌, ℕ, zero, suc, ◌+◌, ◌*◌, ◌%◌, ◌^◌, ◌<◌, refl}
use Rattle.std.proofs.Common.{mod-lt, lit<}

unfoldable pub draw : ℕ → ℕ
draw s = (s * 1_664_525 + 1_013_904_223) % 2 ^ 32

-- the seed d draws further
unfoldable pub draws : ℕ → ℕ → ℕ
draws zero s = s
draws (suc d) s = draws d (draw s)

pub draws-none : (s : ℕ) → draws 0 s ≡ s
unfolding draws
draws-none s = refl

-- a seed is a 32-bit word
pub draw-word : (s : ℕ) → draw s < 2 ^ 32
unfolding draw
draw-word s = mod-lt (s * 1_664_525 + 1_013_904_223) (lit< tt)
