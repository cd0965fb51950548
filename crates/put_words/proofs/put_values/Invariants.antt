-- `put_values` meets its contract: one word after the other.
use Rattle.std.proofs.Common.{◌≡◌, ◌*◌, ℕ, get_or, map}
use Rattle.loops.specs.Front.{front}
use Rattle.words.specs.Bytes.{bytes_by}
use Rattle.put_words.proofs.put_values.Given as goal

abbrev pub invariant-loop-i : goal.invariant-loop-i
invariant-loop-i g l = l.b ≡ front (bytes_by (λ (j : ℕ). get_or (map g.W.Word.word_of l.xs) j 0) l.i) l.initial.b (4 * l.i)
