-- The answer's bytes, part by part.
use mathlib.Core.Path.{◌≡◌, refl, ap, ◌∙◌, sym, subst}
use mathlib.Core.Bool.{Bool, true, false, cond}
use mathlib.Core.List.{List, [], ◌∷◌, ◌++◌}
use Prim.Native.Nat.{ℕ, ◌*◌, ◌≤◌}
use native.Mathlib.Omega.{arith}
use lib.ListN.{length, take, drop, length-append}
use lib.Seq.{take_at}
use Rattle.std.specs.Prelude.{Result, Ok, Err, slice_index_or}
use Rattle.std.proofs.lemmas.Bool.Decides.{nat_tests}
use lib.Dec.{eqb}
use lib.Ieee.{Float}
use Rattle.loops.specs.Front.{front}
use Rattle.loops.specs.Logic.{cond_either}
use Rattle.loops.specs.Pick.{pick_true, pick-false}
use Rattle.history.specs.History.{whole}
use Rattle.reply.specs.declared.Refused.{Refused}
use Rattle.reply.specs.Reply.{Reply, reply, reply_if, replied, value_or, reply-lent, reply-taken}
use Rattle.settings.specs.declared.Refusal.{Refusal}
use Rattle.settings.specs.Number.{number_of}
use Rattle.settings.proofs.Table.{refusal-counts}
use Rattle.state.specs.Answer.{report_of, answer_words}
use Rattle.state.specs.declared.Answer.{Answer}
use Rattle.state.specs.declared.State.{State}
use Rattle.loss.specs.Loss.{loss, outcome_of, in_buffer}
use Rattle.loss.proofs.Samples.{loss-samples}
use Rattle.words.specs.Bytes.{words_bytes, floats_bytes, floats_at}
use Rattle.words.proofs.Laws.{length-bytes}
use Rattle.record.specs.Record.{record_length, state_of, history_of, record_of}
use Rattle.answer_head.specs.Head.{samples_most, head_most, headed, headed_by, head_fits, head_written}
use Rattle.answer_head.proofs.Heads.{head-fits, head-all}
use Rattle.answer.specs.Answer.{loss_of, head_of, record_after, Answered, with_record, takes, answer_record}

-- what the samples written leave at the front of a buffer
pub front-taken : {A : Type 0} (xs ys : List A) (n : ℕ) → length xs ≡ n → take n (front xs ys (length xs)) ≡ xs
unfolding front
front-taken xs ys n l = take_at xs (drop (length xs) ys) n l

pub outcome-samples : (b : List ℕ)
    → (length (loss_of b).pcm ≡ (loss_of b).report.samples) × ((loss_of b).report.samples ≤ samples_most)
unfolding loss_of
outcome-samples b = loss-samples (state_of b) (history_of b) samples_most

-- the call on what was read is the record's outcome
pub outcome-from : (b : List ℕ) (s : State) (h : List Float) (m n : ℕ) → s ≡ state_of b → h ≡ floats_at b 161 m → m ≡ whole → n ≡ samples_most
    → loss s h n ≡ loss_of b
unfolding loss_of history_of
outcome-from b s h m n e f g k = λ i. loss (e i) ((f ∙ ap (floats_at b 161) g) i) (k i)

-- the record after a call, which left the history g
abbrev pub left : List ℕ → List Float → Result Answer Refusal → List ℕ
left b g (Ok a) = record_of a.state g
left b g (Err e) = b

-- what the steps leave, from what the call left
module _ (b lent : List ℕ) (room : head_most ≤ length lent) where
  abbrev answered : Reply Answered
  answered = reply true (with_record (headed_by (head_of (loss_of b)) lent) (record_after b))

  -- the head that was written, and a record
  with_head : (number kind : ℕ) (xs : List Float) (r : Result ℕ Refused) (h rec : List ℕ)
      → number ≡ (loss_of b).report.number → kind ≡ (loss_of b).report.kind → xs ≡ (loss_of b).pcm → rec ≡ record_after b
      → replied r (headed (value_or 0 r) h) ≡ reply_if (head_fits (length xs) (length xs) (length lent)) (head_written number kind (length xs) xs lent) (headed 0 lent)
      → replied r (with_record (headed (value_or 0 r) h) rec) ≡ answered
  unfolding head_of
  with_head number kind xs r h rec n k x kept wrote =
      let o = loss_of b in
      let m : length xs ≡ o.report.samples = ap length x ∙ (outcome-samples b).0 in
      let fits = head-fits (length xs) (length lent) room (omega (arith, (outcome-samples b).1)) in
      let bytes = reply-lent _ _ _ wrote fits ∙ head-all number kind xs lent fits ∙ (λ i. headed_by (words_bytes (n i ∷ k i ∷ m i ∷ []) ++ floats_bytes (x i)) lent) in
      let taken = reply-taken _ _ _ wrote ∙ fits in
      λ i. reply (taken i) (with_record (bytes i) (kept i))

module _ (b : List ℕ) (p q g : List Float) where
  abbrev call_of : Result Answer Refusal → Type 0
  call_of t = outcome_of (state_of b) t q g ≡ in_buffer p (loss_of b)

  left-is : (t : Result Answer Refusal) → call_of t → left b g t ≡ record_after b
  unfolding record_after in_buffer
  left-is (Ok a) m = λ i. cond (eqb (m i).report.number 0) (record_of (m i).state (m i).history) b
  left-is (Err e) m =
      let o = loss_of b in
      sym (pick-false (eqb (number_of e) 0) (record_of o.state o.history) b (refusal-counts e))
      ∙ (λ i. cond (eqb (m i).report.number 0) (record_of o.state o.history) b)

  -- the call's three words
  module _ (t : Result Answer Refusal) (made : call_of t) (w : List ℕ) (f : (report_of t).samples ≤ 4_294_967_295 → w ≡ answer_words (report_of t)) where
    words-are : w ≡ answer_words (loss_of b).report
    unfolding in_buffer
    words-are = f (omega (arith, ap (λ z. z.report.samples) made, (outcome-samples b).1)) ∙ ap (λ z. answer_words z.report) made

    abbrev word : ℕ → ℕ
    word i = slice_index_or w i 0

    abbrev sound : List Float
    sound = take (word 2) q

    pub count-most : word 2 ≤ samples_most
    count-most = omega (arith, ap (λ z. slice_index_or z 2 0) words-are, (outcome-samples b).1)

    pub step-written : (lent : List ℕ) (room : head_most ≤ length lent) (r : Result ℕ Refused) (h rec : List ℕ) → rec ≡ left b g t
        → replied r (headed (value_or 0 r) h)
        ≡ reply_if (head_fits (length sound) (length sound) (length lent)) (head_written (word 0) (word 1) (length sound) sound lent) (headed 0 lent)
        → replied r (with_record (headed (value_or 0 r) h) rec) ≡ answered b lent room
    unfolding in_buffer
    step-written lent room r h rec e wrote =
        let o = loss_of b in
        let size : word 2 ≡ o.report.samples = ap (λ z. slice_index_or z 2 0) words-are in
        let x : sound ≡ o.pcm = ap (λ z. take (word 2) z.pcm) made ∙ front-taken o.pcm p (word 2) ((outcome-samples b).0 ∙ sym size) in
        with_head b lent room (word 0) (word 1) sound r h rec (ap (λ z. slice_index_or z 0 0) words-are) (ap (λ z. slice_index_or z 1 0) words-are) x
        (e ∙ left-is t made) wrote

-- the public step
module _ (b h : List ℕ) where
  pub accepted : length b ≡ record_length → head_most ≤ length h → takes b h ≡ true
  unfolding takes
  accepted p q = grind (arith, nat_tests)

  pub answers : takes b h ≡ true → with_record (headed_by (head_of (loss_of b)) h) (record_after b) ≡ answer_record b h
  unfolding answer_record
  answers e = sym (pick_true (takes b h) (with_record (headed_by (head_of (loss_of b)) h) (record_after b)) (with_record (headed 0 h) b) e)

  -- of a step that was refused nothing is left either
  pub refused : takes b h ≡ false → with_record (headed 0 h) b ≡ answer_record b h
  unfolding answer_record
  refused e = sym (pick-false (takes b h) (with_record (headed_by (head_of (loss_of b)) h) (record_after b)) (with_record (headed 0 h) b) e)

  -- whether it was refused or not
  pub step-is : {t : Bool} {x : Answered} → reply t x ≡ reply_if (takes b h) (answer_record b h) (with_record (headed 0 h) b) → x ≡ answer_record b h
  unfolding reply_if
  step-is {t} {x} e = go (takes b h) refl (ap (λ z. z.lent) e)
    where
      go : (c : Bool) → takes b h ≡ c → x ≡ cond c (answer_record b h) (with_record (headed 0 h) b) → x ≡ answer_record b h
      go true w q = q
      go false w q = q ∙ refused w

-- an answer's length is at most that of the buffer it needs
head-most : (b : List ℕ) → length (head_of (loss_of b)) ≤ head_most
unfolding head_of
head-most b =
    let o = loss_of b in
    let w = words_bytes (o.report.number ∷ o.report.kind ∷ o.report.samples ∷ []) in
    let lw : length w ≡ 12 = length-bytes _ 3 in
    let lx : length (floats_bytes o.pcm) ≡ 4 * length o.pcm = length-bytes _ _ in
    omega (arith, length-append w (floats_bytes o.pcm), (outcome-samples b).0, (outcome-samples b).1)

pub answer-most : (r : ℕ) (z y b h : List ℕ) → with_record (headed r z) y ≡ answer_record b h → r ≤ head_most
unfolding answer_record
answer-most r z y b h e =
    subst (λ n. n ≤ head_most) (ap (λ a. a.headed.count) (sym e))
    (cond_either (λ (a : Answered). a.headed.count ≤ head_most) (takes b h) _ _ (head-most b) (omega arith))
