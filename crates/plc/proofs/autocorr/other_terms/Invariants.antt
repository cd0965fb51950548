-- After as many turns as samples were yielded, the row has every lag's sum below the next; inside, the places passed have its term too.
use Rattle.std.proofs.Common.{◌≡◌, ◌+◌, ◌-◌, ◌≤◌, length, drop}
use Rattle.loops.specs.Front.{front, tab}
use Rattle.plc.specs.Autocorr.{row_at, lag_row}
use Rattle.plc.proofs.autocorr.other_terms.Given as goal

abbrev pub invariant-loop-j : goal.invariant-loop-j
invariant-loop-j l = l.row ≡ front (tab (row_at l.x (length l.fn.row) (length l.x - length l.v-iterator.a.rest.now)) l.j) l.initial.row l.j

abbrev pub invariant-loop-v : goal.invariant-loop-v
invariant-loop-v l =
    (l.v-iterator.a.rest.now ≡ drop (length l.fn.row - 1 + length l.yielded) l.x)
    × (l.v-iterator.b.size ≡ length l.fn.row)
    × (l.v-iterator.b.rest.now ≡ drop (length l.yielded) l.x)
    × (length l.fn.row - 1 + length l.yielded ≤ length l.x)
    × (l.row ≡ lag_row l.x (length l.fn.row) (length l.fn.row - 1 + length l.yielded))
