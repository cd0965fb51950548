-- The tent's record: 4,497 words, little-endian.
use Rattle.std.specs.Prelude.{Bool, ◌&&◌, List, ◌++◌, ℕ, length, eqb, Float}
use Rattle.history.specs.History.{whole}
use Rattle.state.specs.declared.State.{State}
use Rattle.words.specs.Bytes.{word_at, floats_at, words_bytes, floats_bytes}
use Rattle.state_words.specs.Words.{state_length, state_by, state_words}

-- the first 161 words
unfoldable pub state_of : List ℕ → State
state_of b = state_by (word_at b)

-- both channels' history
unfoldable pub history_of : List ℕ → List Float
history_of b = floats_at b state_length whole

-- a state's bytes
unfoldable pub state_bytes : State → List ℕ
state_bytes s = words_bytes (state_words s)

-- a record's 17,988 bytes
unfoldable pub record_of : State → List Float → List ℕ
record_of s h = state_bytes s ++ floats_bytes h

abbrev pub record_length : ℕ
record_length = 17988

-- a record can be written over b
unfoldable pub writable : List ℕ → List Float → Bool
writable b h = eqb (length b) record_length && eqb (length h) whole
