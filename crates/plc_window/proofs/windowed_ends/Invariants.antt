-- After i turns both ends have the window on i samples.
use Rattle.std.proofs.Common.{◌≡◌}
use Rattle.loops.specs.Fold.{fold_to}
use Rattle.plc_window.specs.Window.{window_turn}
use Rattle.plc_window.proofs.windowed_ends.Given as goal

abbrev pub invariant-loop-i : goal.invariant-loop-i
invariant-loop-i l = l.xx ≡ fold_to (window_turn l.x l.window) l.x l.i
