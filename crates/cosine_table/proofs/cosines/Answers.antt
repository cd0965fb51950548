-- `cosine_table::cosines` meets its contract: each literal of the source has the bits that the definition names.
use mathlib.Core.Path.{refl}
use Rattle.cosine_table.specs.Cosines.{cosine_bits, cosines}
use Rattle.cosine_table.proofs.cosines.Goals as goal

pub returns : goal.returns
unfolding cosines cosine_bits
returns c = refl
