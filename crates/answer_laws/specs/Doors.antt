-- A loss on what a record holds by the direct call: its words and its history on a caller's own memory.
use Rattle.std.specs.Prelude.{cond, List, ◌++◌, ℕ, take, get_or, eqb, Float}
use Rattle.loops.specs.Front.{tab}
use Rattle.words.specs.Bytes.{word_at, words_bytes, floats_bytes}
use Rattle.state_words.specs.Words.{state_length}
use Rattle.record.specs.Record.{history_of}
use Rattle.direct.specs.Direct.{Called, loss_in}

-- the record b, lent p for the samples
unfoldable pub directly : List ℕ → List Float → Called
directly b p = loss_in (tab (word_at b) state_length) (history_of b) p

-- the answer's words and its samples as bytes
unfoldable pub head_from : Called → List ℕ
head_from d = words_bytes d.answer ++ floats_bytes (take (get_or d.answer 2 0) d.pcm)

-- the state's words and the history as bytes; a refused record as it was
unfoldable pub record_from : List ℕ → Called → List ℕ
record_from b d = cond (eqb d.number 0) (words_bytes d.state ++ floats_bytes d.history) b
