-- With turns enough for its input, the program writes exactly `answers`.
use mathlib.Core.Path.{◌≡◌, refl, ap, ap₂, sym, ◌∙◌}
use mathlib.Core.Bool.{Bool, true, false, cond}
use mathlib.Core.List.{List, ◌++◌}
use Prim.Native.Nat.{ℕ, zero, suc, ◌-◌, ◌/◌, ◌<◌, ◌≤◌}
use native.Mathlib.Omega.{arith}
use lib.ListN.{length, take, drop, length-drop, length-replicate}
use lib.Seq.{length-take-le}
use lib.Dec.{ltb, leb}
use borrow.Author.Tests.{ltb-true, ltb-false, le-leb, eq-eqb}
use Rattle.loops.specs.Pick.{pick_true}
use Rattle.record.specs.Record.{record_length}
use Rattle.answer_head.specs.Head.{head_most, report_length, cut_of, headed, headed_by, answer_tail}
use Rattle.answer.specs.Answer.{loss_of, head_of, record_after, answers_to, answers, with_record, takes, answer_record}
use Rattle.answer.proofs.Answers.{front-taken}
use Rattle.answer_laws.specs.Program.{buffer, head_bytes, whole_step, program}

room : head_most ≤ length buffer
room = omega (arith, length-replicate {A = ℕ} head_most 0)

tail_written : (n : ℕ) → head_bytes (answer_tail n buffer) ≡ cut_of n
unfolding answer_tail
tail_written n =
    ap head_bytes (pick_true (leb report_length (length buffer)) (headed_by (cut_of n) buffer) (headed 0 buffer)
    (le-leb report_length (length buffer) (omega (arith, room))))
    ∙ front-taken (cut_of n) buffer _ refl

whole-written : (b : List ℕ) → length b ≡ record_length → whole_step b ≡ head_of (loss_of b) ++ record_after b
unfolding whole_step answer_record takes
whole-written b l =
    let a = with_record (headed_by (head_of (loss_of b)) buffer) (record_after b) in
    let t : takes b buffer ≡ true = simp (eq-eqb (length b) record_length l, le-leb head_most (length buffer) room) in
    ap (λ z. head_bytes z.headed ++ z.rec) (pick_true (takes b buffer) a (with_record (headed 0 buffer) b) t)
    ∙ ap (λ z. z ++ record_after b) (front-taken (head_of (loss_of b)) buffer _ refl)

-- by the whole records of the input
pub program-answers : (turns : ℕ) (b : List ℕ) → length b / record_length < turns → program turns b ≡ answers b
unfolding program answers answers_to
program-answers zero b l = let z : ⊥ = omega arith in absurd z
program-answers (suc turns) b l = go (program-answers turns (drop record_length b)) (ltb (length b) record_length) refl
  where
    go : (length (drop record_length b) / record_length < turns → program turns (drop record_length b) ≡ answers (drop record_length b))
        → (c : Bool) → ltb (length b) record_length ≡ c
        → cond c (head_bytes (answer_tail (length b) buffer)) (whole_step (take record_length b) ++ program turns (drop record_length b))
        ≡ answers_to (length b / record_length) b
    go again true e =
        let none : length b / record_length ≡ 0 = omega (arith, ltb-true (length b) record_length e) in
        tail_written (length b) ∙ sym (ap (λ n. answers_to n b) none)
    go again false e =
        let h : record_length ≤ length b = ltb-false (length b) record_length e in
        let rest : length (drop record_length b) ≡ length b - record_length = length-drop record_length b in
        let more : length b / record_length ≡ suc (length (drop record_length b) / record_length) = omega arith in
        ap₂ ◌++◌ (whole-written (take record_length b) (length-take-le record_length b h)) (again (omega arith))
        ∙ sym (ap (λ n. answers_to n b) more)
