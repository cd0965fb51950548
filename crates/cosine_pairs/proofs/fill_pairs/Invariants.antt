-- The pairs of the first r quarters are written.
use mathlib.Core.Path.{◌≡◌}
use Rattle.cosine_pairs.proofs.Pairs.{quarters_to}
use Rattle.cosine_pairs.proofs.fill_pairs.Given as goal

abbrev pub invariant-loop-r : goal.invariant-loop-r
invariant-loop-r l = l.pairs ≡ quarters_to l.n l.initial.pairs l.r
