use Rattle.std.proofs.Common.{◌≡◌, ℕ, get_or}
use lib.Ieee.{nan}
use Rattle.loops.specs.Front.{front, tab}
use Rattle.plc_lag_window.specs.LagWindow.{lag_value}
use Rattle.plc_lag_window.proofs.lag_window.Given as goal

abbrev pub invariant-loop-i : goal.invariant-loop-i
invariant-loop-i l = l.ac ≡ front (tab (λ (k : ℕ). lag_value (get_or l.initial.ac k nan) k) l.i) l.initial.ac l.i
