-- The band edges rise to the last.
use Rattle.std.specs.Prelude.{refl, Bool, ◌&&◌, ℕ, ◌+◌, ◌≤◌, ◌<◌, leb}
use Rattle.std.proofs.Common.{leb-true}
use Rattle.loops.specs.Logic.{and-true}
use Rattle.loops.specs.Below.{below, below_at}
use Rattle.custom_mode.specs.Mode.{bands, last_edge, edges, edge}

rise : ℕ → Bool
rise i = leb (edge i) (edge (i + 1)) && leb (edge (i + 1)) last_edge

pub edges-rise : (i : ℕ) → i < bands → (edge i ≤ edge (i + 1)) × (edge (i + 1) ≤ last_edge)
unfolding below rise edge edges
edges-rise i h =
    let r = and-true _ _ (below_at rise bands i refl h) in
    (leb-true (edge i) (edge (i + 1)) r.0, leb-true (edge (i + 1)) last_edge r.1)
