-- Before band i the bands from start on are drawn.
use mathlib.Core.Path.{◌≡◌}
use Rattle.noise_shape.specs.Shape.{noise_turn, shaped}
use Rattle.loops.specs.Fold.{fold_range}
use Rattle.noise_shape.proofs.shape_each.Given as goal

abbrev pub invariant-loop-i : goal.invariant-loop-i
invariant-loop-i l = fold_range (noise_turn l.m) (shaped l.initial.bins l.initial.s) l.start l.i ≡ shaped l.bins l.s
