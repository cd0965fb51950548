-- What the concealment program writes for what it reads.
use Rattle.std.specs.Prelude.{Bool, cond, ◌&&◌, List, [], ◌∷◌, ◌++◌, ℕ, zero, suc, ◌/◌, length, take, drop, leb, eqb}
use Rattle.loss.specs.Loss.{Outcome, loss}
use Rattle.words.specs.Bytes.{words_bytes, floats_bytes}
use Rattle.record.specs.Record.{record_length, state_of, history_of, record_of}
use Rattle.answer_head.specs.Head.{samples_most, head_most, cut_of, Headed, headed, headed_by}

-- one loss on a record's state and history, with room for every sample
unfoldable pub loss_of : List ℕ → Outcome
loss_of b = loss (state_of b) (history_of b) samples_most

-- number, kind and sample count, and then the samples
unfoldable pub head_of : Outcome → List ℕ
head_of o = words_bytes (o.report.number ∷ o.report.kind ∷ o.report.samples ∷ []) ++ floats_bytes o.pcm

-- the new record; a refused one as it was read
unfoldable pub record_after : List ℕ → List ℕ
record_after b =
    let o = loss_of b in
    cond (eqb o.report.number 0) (record_of o.state o.history) b

-- the answers to n records and what is left past them
unfoldable pub answers_to : ℕ → List ℕ → List ℕ
answers_to zero b = cut_of (length b)
answers_to (suc n) b = (head_of (loss_of (take record_length b)) ++ record_after (take record_length b)) ++ answers_to n (drop record_length b)

-- all that the program writes for a whole input
unfoldable pub answers : List ℕ → List ℕ
answers b = answers_to (length b / record_length) b

-- ---- what one step leaves of what it is lent

-- the head and the record
pub record Answered : Type 0 where
  pub headed : Headed
  pub rec : List ℕ

abbrev pub with_record : Headed → List ℕ → Answered
with_record h b = record { headed = h; rec = b }

-- other lengths are refused
unfoldable pub takes : List ℕ → List ℕ → Bool
takes b head = eqb (length b) record_length && leb head_most (length head)

-- a record's step
unfoldable pub answer_record : List ℕ → List ℕ → Answered
answer_record b head =
    cond (takes b head) (with_record (headed_by (head_of (loss_of b)) head) (record_after b)) (with_record (headed 0 head) b)
