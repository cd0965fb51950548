-- `put_floats` meets its contract: one word after the other.
use Rattle.std.proofs.Common.{◌≡◌, ℕ, get_or, to_bits}
use Rattle.std.specs.Float.{nan, binary32}
use Rattle.loops.specs.Front.{front, tab}
use Rattle.put_state_words.proofs.put_floats.Given as goal

abbrev pub invariant-loop-k : goal.invariant-loop-k
invariant-loop-k l = l.w ≡ front (tab (λ (j : ℕ). to_bits binary32 (get_or l.xs j nan)) l.k) l.initial.w l.k
