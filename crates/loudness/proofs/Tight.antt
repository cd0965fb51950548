-- The bound is the best power of two: a band of nine values misses the next one. Assumes nothing.
use Prim.Native.Nat.{◌+◌, ◌*◌, ◌^◌, ◌<◌}
use native.Mathlib.Nat.{lt_of_le_of_lt, lt_irrefl}
use lib.Dec.{lit<}
use lib.Ieee.{add, mul, div, of_bits, of_int}
use Rattle.loops.specs.Fold.{fold_to}
use Rattle.loops.specs.Front.{tab}
use Rattle.loops.specs.Sum.{sum_to}
use Rattle.float_bits.specs.Words.{signed, noise_step, noise_value}
use Rattle.float_narrow.specs.Narrow.{narrow}
use Rattle.float_root.specs.Root.{sqrt_of, twice_root, root_to}
use Rattle.draw.specs.Draw.{draw, draws}
use Rattle.draw.specs.Noise.{noise_band}
use Rattle.band_quant.specs.Renormalise.{energy64, factor_of, renormalise_vector}
use Rattle.noise_shape.specs.Shape.{band_noise}
use Rattle.loudness.specs.Energy.{count, energy, one, UnitEnergy}

-- its exact sum is 1 - 4.57 * 2 ^ -24
below_it : 2 ^ 22 * energy (band_noise 9 0xc2c9_9094) + one < 2 ^ 22 * one
unfolding energy count band_noise renormalise_vector factor_of energy64 noise_band tab sum_to fold_to draws draw noise_value noise_step signed of_int of_bits
    add mul div narrow sqrt_of twice_root root_to
below_it = lit< tt

pub not_closer : UnitEnergy (2 ^ 22) (band_noise 9 0xc2c9_9094) → ⊥
not_closer u = lt_irrefl (2 ^ 22 * one) (lt_of_le_of_lt u.sum.low below_it)
