-- Each place of the row is the sum of its lag below the longest lag.
use Rattle.std.proofs.Common.{◌≡◌, ◌+◌, length}
use Rattle.loops.specs.Front.{front, tab}
use Rattle.plc.specs.Autocorr.{lag_to, row_at}
use Rattle.plc.proofs.autocorr.first_terms.Given as goal

abbrev pub invariant-loop-a : goal.invariant-loop-a
invariant-loop-a l = l.d ≡ lag_to l.x l.lag (l.lag + length l.yielded)

abbrev pub invariant-loop-j : goal.invariant-loop-j
invariant-loop-j l = l.row ≡ front (tab (row_at l.x (length l.fn.row) l.top) l.j) l.initial.row l.j
