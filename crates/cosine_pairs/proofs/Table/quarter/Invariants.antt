-- The first p pairs of the quarter are written.
use mathlib.Core.Path.{◌≡◌}
use Rattle.cosine_pairs.proofs.Pairs.{quarter_to}
use Rattle.cosine_pairs.proofs.Table.quarter.Given as goal

abbrev pub invariant-loop-p : goal.invariant-loop-p
invariant-loop-p l = l.part ≡ quarter_to l.self.n l.r l.initial.part l.p
