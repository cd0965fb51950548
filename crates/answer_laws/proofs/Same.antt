-- Both doors give the same: the direct call on a record's words and history, and the step on its bytes.
use mathlib.Core.Path.{◌≡◌, refl, ap, ◌∙◌}
use mathlib.Core.Bool.{Bool, true, false, cond}
use mathlib.Core.List.{List, ◌++◌}
use Prim.Native.Nat.{ℕ}
use lib.ListN.{length}
use lib.Dec.{eqb}
use lib.Ieee.{Float}
use Rattle.loops.specs.Front.{tab, get_or-tab}
use Rattle.words.specs.Bytes.{word_at, words_bytes, floats_bytes}
use Rattle.state_words.specs.Words.{state_length, word_in, state_in, state_words}
use Rattle.state_words.proofs.Parts.{state-same}
use Rattle.record.specs.Record.{state_of, history_of, state_bytes, record_of}
use Rattle.loss.specs.Loss.{Outcome, loss, in_buffer}
use Rattle.loss.proofs.Samples.{loss-samples}
use Rattle.direct.specs.Direct.{called_with, loss_in}
use Rattle.state.specs.Answer.{answer_words}
use Rattle.answer_head.specs.Head.{samples_most}
use Rattle.answer.specs.Answer.{loss_of, head_of, record_after}
use Rattle.answer.proofs.Answers.{front-taken}
use Rattle.answer_laws.specs.Doors.{directly, head_from, record_from}

-- what is asked twice is asked once
cond-twice : {A B : Type 0} (f : A → B) (c : Bool) (x y : A) (z : B) → cond c (f (cond c x y)) z ≡ cond c (f x) z
cond-twice f true x y z = refl
cond-twice f false x y z = refl

module _ (b : List ℕ) (p : List Float) (room : length p ≡ samples_most) where
  words : List ℕ
  words = tab (word_at b) state_length

  same-state : state_in words ≡ state_of b
  unfolding words state_of
  same-state = state-same (word_in words) (word_at b) (λ i l. get_or-tab (word_at b) state_length i 0 l)

  made : Outcome
  made = loss (state_in words) (history_of b) (length p)

  same-loss : made ≡ loss_of b
  unfolding made loss_of
  same-loss = λ i. loss (same-state i) (history_of b) (room i)

  pub same_head : head_from (directly b p) ≡ head_of (loss_of b)
  unfolding head_from directly loss_in called_with in_buffer head_of made words
  same_head =
      ap (λ z. words_bytes (answer_words made.report) ++ floats_bytes z)
      (front-taken made.pcm p made.report.samples (loss-samples (state_in words) (history_of b) (length p)).0)
      ∙ ap head_of same-loss

  pub same-record : record_from b (directly b p) ≡ record_after b
  unfolding record_from directly loss_in called_with in_buffer record_after record_of state_bytes made words
  same-record =
      cond-twice (λ w. words_bytes w ++ floats_bytes made.history) (eqb made.report.number 0) (state_words made.state) words b
      ∙ ap (λ (o : Outcome). cond (eqb o.report.number 0) (record_of o.state o.history) b) same-loss
