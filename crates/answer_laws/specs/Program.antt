-- The concealment program over a whole input, turn by turn: it fills a record, and answers it or what is left of one.
use Rattle.std.specs.Prelude.{cond, List, [], ◌++◌, ℕ, zero, suc, length, take, drop, replicate, ltb}
use Rattle.record.specs.Record.{record_length}
use Rattle.answer_head.specs.Head.{head_most, Headed, answer_tail}
use Rattle.answer.specs.Answer.{answer_record}

-- the buffer that is lent for a head
abbrev pub buffer : List ℕ
buffer = replicate head_most 0

-- what is written of a head: as many bytes as the step returned
abbrev pub head_bytes : Headed → List ℕ
head_bytes h = take h.count h.head

-- a whole record: its head, and the record as the step left it
unfoldable pub whole_step : List ℕ → List ℕ
whole_step b = let a = answer_record b buffer in head_bytes a.headed ++ a.rec

-- at most `turns` turns; the one that finds no whole record is the last
unfoldable pub program : ℕ → List ℕ → List ℕ
program zero b = []
program (suc turns) b =
    cond (ltb (length b) record_length) (head_bytes (answer_tail (length b) buffer))
    (whole_step (take record_length b) ++ program turns (drop record_length b))
