use mathlib.Core.Path.{ap, ◌∙◌}
use Rattle.buffers.specs.Buffers.{one32}
use Rattle.band_quant.specs.Renormalise.{renormalise_vector}
use Rattle.noise_shape.specs.Shape.{band_noise}
use Rattle.noise_shape.proofs.band_noise.Goals as goal

pub returns : goal.returns
unfolding band_noise
returns c =
    let f = c.noise_fill-s in
    (f.ensures.0, c.renormalise_vector.ensures ∙ ap (λ z. renormalise_vector z one32) f.ensures.1)
