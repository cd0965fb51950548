-- The marked square roots, by computation.
use Rattle.std.specs.Prelude.{◌≡◌, refl, false, pos}
use Rattle.std.specs.Float.{fin, binary32}
use Rattle.std.specs.Float.Ieee.{to_bits, round}
use Rattle.float_root.specs.Root.{sqrt_of, twice_root, root_to}

-- 4 gives 2, and 2 gives the bits 3FB504F3
pub marked-roots : (sqrt_of (fin false 1 (pos 2)) ≡ fin false 1 (pos 1)) × (to_bits binary32 (sqrt_of (fin false 1 (pos 1))) ≡ 0x3fb5_04f3)
unfolding sqrt_of twice_root root_to round to_bits
marked-roots = (refl, refl)
