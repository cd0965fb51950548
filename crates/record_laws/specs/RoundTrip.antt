-- Reading back a written record gives the state and the history again.
use Rattle.std.specs.Prelude.{◌≡◌, ℕ, ◌+◌, ◌*◌, ◌<◌, length, Float}
use Rattle.std.proofs.Math.Path.{refl, ap, ap₂}
use Rattle.std.proofs.Common.{◌∙◌, sym}
use mathlib.Core.List.{List, [], ◌++◌, append-nil}
use native.Mathlib.Omega.{arith}
use Rattle.state.specs.declared.State.{State}
use Rattle.words.specs.Bytes.{word_at, floats_at, words_bytes, floats_bytes}
use Rattle.words.proofs.Laws.{length-bytes}
use Rattle.state_words.specs.Words.{state_length, word_in, state_words}
use Rattle.state_words.proofs.Parts.{state-same}
use Rattle.record.specs.Record.{state_of, history_of, state_bytes, record_of}
use Rattle.record_laws.specs.WordsBack.{word_back, floats-back}
use Rattle.record_laws.specs.StateBack.{Fit, state-words, length-state-words, words_back}

module _ (s : State) (h : List Float) (fit : Fit s h) where
  -- a record's words are its state's words
  word : (i : ℕ) → i < state_length → word_at (record_of s h) i ≡ word_in (state_words s) i
  unfolding record_of state_bytes
  word i l =
      let ws = state_words s in
      let z : i ≡ 0 + i = omega arith in
      ap (word_at (words_bytes ws ++ floats_bytes h)) z
      ∙ word_back (word_in ws) (length ws) [] (floats_bytes h) 0 refl i (omega (arith, length-state-words s h fit)) (state-words s h fit i)

  pub state-back : state_of (record_of s h) ≡ s
  unfolding state_of
  state-back = state-same (word_at (record_of s h)) (word_in (state_words s)) word ∙ words_back s h fit

  state-size : length (state_bytes s) ≡ 4 * state_length
  unfolding state_bytes
  state-size = length-bytes _ (length (state_words s)) ∙ ap (λ z. 4 * z) (length-state-words s h fit)

  pub history_back : history_of (record_of s h) ≡ h
  unfolding history_of record_of
  history_back =
      ap₂ (λ y z. floats_at (state_bytes s ++ y) state_length z) (sym (append-nil (floats_bytes h))) (sym fit.history_size)
      ∙ floats-back h fit.history (state_bytes s) [] state_length state-size
