-- The energy, the factor, and every value times it.
use Rattle.band_quant.proofs.Turn.{renormalised}
use Rattle.band_quant.proofs.renormalise_vector.Goals as goal

pub returns : goal.returns
returns c =
    renormalised _ _ _ _ _ _ c.energy64-e.ensures c.f64_to_f32.ensures c.sqrt_f32.ensures c.scale.ensures
