-- The head of an answer: number, kind, sample count and samples.
use Rattle.std.specs.Prelude.{Bool, cond, ◌&&◌, List, [], ◌∷◌, ◌++◌, ℕ, ◌+◌, ◌*◌, length, take, leb, eqb, Float}
use Rattle.loops.specs.Front.{front}
use Rattle.words.specs.Bytes.{words_bytes, floats_bytes}

-- the samples of the longest answer: two channels of 960
abbrev pub samples_most : ℕ
samples_most = 1920

-- the bytes of a report: number, kind and sample count
abbrev pub report_length : ℕ
report_length = 12

abbrev pub head_most : ℕ
head_most = report_length + 4 * samples_most

-- the answer to what is left past the last whole record: nothing to nothing, and 11, 0, 0 to a record that is cut short
unfoldable pub cut_of : ℕ → List ℕ
cut_of n = cond (eqb n 0) [] (words_bytes (11 ∷ 0 ∷ 0 ∷ []))

-- ---- what one step leaves of what it is lent

-- a buffer for the head: how many bytes of it are the answer, and all of it
pub record Headed : Type 0 where
  pub count : ℕ
  pub head : List ℕ

abbrev pub headed : ℕ → List ℕ → Headed
headed n head = record { count = n; head = head }

-- xs at its front
abbrev pub headed_by : List ℕ → List ℕ → Headed
headed_by xs head = headed (length xs) (front xs head (length xs))

-- whether there is room for a head in m bytes, and its samples are among n
unfoldable pub head_fits : ℕ → ℕ → ℕ → Bool
head_fits samples n m = leb head_most m && (leb samples samples_most && leb samples n)

-- number, kind, sample count and the first so many of the samples; else the buffer stays
unfoldable pub head_written : ℕ → ℕ → ℕ → List Float → List ℕ → Headed
head_written number kind samples pcm head =
    cond (head_fits samples (length pcm) (length head))
    (headed_by (words_bytes (number ∷ kind ∷ samples ∷ []) ++ floats_bytes (take samples pcm)) head) (headed 0 head)

-- the step for what is left past the last whole record, n bytes of it
unfoldable pub answer_tail : ℕ → List ℕ → Headed
answer_tail n head = cond (leb report_length (length head)) (headed_by (cut_of n) head) (headed 0 head)
