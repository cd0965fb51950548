-- `values_at` meets its contract: one value after the other.
use Rattle.std.proofs.Common.{◌≡◌, ◌+◌, ℕ}
use Rattle.loops.specs.Front.{front, tab}
use Rattle.words.specs.Bytes.{word_at}
use Rattle.words.proofs.values_at.Given as goal

abbrev pub invariant-loop-k : goal.invariant-loop-k
invariant-loop-k g l =
    l.out ≡ front (tab (λ (j : ℕ). g.W.Word.of_word (word_at l.b (l.i + j))) l.k) l.initial.out l.k
