-- Turn by turn the program writes the answers to its whole input.
use Rattle.std.proofs.Common.{◌≡◌, ℕ, suc, ◌+◌, ◌-◌, ◌/◌, ◌<◌, ◌≤◌, List, [], ◌++◌, Bool, true, false, None, Some, IfSome, Result, Ok, Err, OnOk}
use Rattle.std.proofs.Common.{arith, length, take, drop, take_all, drop_at, length-append, refl, sym, ap, subst, ◌∙◌, append_assoc, append-nil}
use Rattle.std.specs.declared.option.Option.{Option}
use Rattle.std.specs.Io.KnownBytes.{Keeps, Appends, Consumes}
use Rattle.std.proofs.KnownBytes.{Appends-nil, Appends-trans}
use Rattle.loops.specs.Pick.{pick_true, pick-false}
use lib.Seq.{take_at}
use lib.Dec.{ltb, leb}
use borrow.Author.Tests.{lt-ltb, le-ltb, le-leb}
use Rattle.std.proofs.lemmas.List.{length-replicate}
use Rattle.std.specs.Result.{IsOk}
use Rattle.reply.specs.declared.Refused.{Refused}
use Rattle.reply.specs.Reply.{replied, reply_if, value_or, reply-lent, reply-taken}
use Rattle.record.specs.Record.{record_length}
use Rattle.answer_head.specs.Head.{head_most, report_length, headed, answer_tail}
use Rattle.answer_head.proofs.Heads.{tail-most}
use Rattle.answer.specs.Answer.{answers, with_record, takes, answer_record}
use Rattle.answer.proofs.Answers.{accepted, step-is, answer-most}
use Rattle.answer_laws.specs.Program.{buffer, head_bytes, whole_step, program}
use Rattle.conceal.specs.Turn.{IsTurn}
use Rattle.answer_laws.proofs.Whole.{program-answers}

-- after k turns of n on an input: what is left of it, and what the output held and holds
pub record HasTurned (n k : ℕ) (xs : List ℕ) (left old new : Option (List ℕ)) : Type 0 where
  pub rest : List ℕ
  pub left_is : Keeps (Some rest) left
  pub done : List ℕ
  pub written : Appends old new done
  pub splits : program n xs ≡ done ++ program (n - k) rest

abbrev pub Turned : ℕ → ℕ → Option (List ℕ) → Option (List ℕ) → Option (List ℕ) → Option (List ℕ) → Type 0
Turned n k input left old new = IfSome input (λ xs. HasTurned n k xs left old new)

pub no-turn : (n : ℕ) (input old : Option (List ℕ)) → Turned n 0 input input old old
no-turn n None old = tt
no-turn n (Some xs) old =
    let e : n ≡ n - 0 = omega arith in
    record { rest = xs; left_is = refl; done = []; written = Appends-nil old; splits = ap (λ t. program t xs) e }

next-whole : (n k : ℕ) (xs : List ℕ) → k < n → record_length ≤ length xs
    → program (n - k) xs ≡ whole_step (take record_length xs) ++ program (n - (k + 1)) (drop record_length xs)
unfolding program
next-whole n k xs l h =
    let e : n - k ≡ suc (n - (k + 1)) = omega arith in
    ap (λ t. program t xs) e ∙ pick-false (ltb (length xs) record_length) _ _ (le-ltb (length xs) record_length h)

next-last : (n k : ℕ) (xs : List ℕ) → k < n → length xs < record_length → program (n - k) xs ≡ head_bytes (answer_tail (length xs) buffer)
unfolding program
next-last n k xs l h =
    let e : n - k ≡ suc (n - (k + 1)) = omega arith in
    ap (λ t. program t xs) e ∙ pick_true (ltb (length xs) record_length) _ _ (lt-ltb (length xs) record_length h)

turn-again : (n k : ℕ) (input mid left old between new : Option (List ℕ)) → k < n → Turned n k input mid old between
    → IfSome mid (λ xs. IsTurn xs left between new true) → Turned n (k + 1) input left old new
turn-again n k None mid left old between new l before turn = tt
turn-again n k (Some xs) None left old between new l before turn = absurd before.left_is
turn-again n k (Some xs) (Some ys) left old between new l before turn =
    let same : ys ≡ before.rest = before.left_is in
    let bytes = whole_step (take record_length ys) in
    record {
      rest = drop record_length ys;
      left_is = turn.1;
      done = before.done ++ bytes;
      written = Appends-trans old between new before.done bytes before.written turn.2;
      splits = before.splits ∙ ap (λ z. before.done ++ program (n - k) z) (sym same) ∙ ap (λ z. before.done ++ z) (next-whole n k ys l turn.0)
          ∙ sym (append_assoc before.done bytes (program (n - (k + 1)) (drop record_length ys)));
    }

turn-last : (n k : ℕ) (input mid left old between new : Option (List ℕ)) → k < n → Turned n k input mid old between
    → IfSome mid (λ xs. IsTurn xs left between new false) → IfSome input (λ xs. length xs / record_length < n → Appends old new (answers xs))
turn-last n k None mid left old between new l before turn = tt
turn-last n k (Some xs) None left old between new l before turn = absurd before.left_is
turn-last n k (Some xs) (Some ys) left old between new l before turn = λ fits.
    let same : ys ≡ before.rest = before.left_is in
    let bytes = head_bytes (answer_tail (length ys) buffer) in
    let all : before.done ++ bytes ≡ answers xs =
    sym (before.splits ∙ ap (λ z. before.done ++ program (n - k) z) (sym same) ∙ ap (λ z. before.done ++ z) (next-last n k ys l turn.0)) ∙ program-answers n xs fits in
    subst (Appends old new) all (Appends-trans old between new before.done bytes before.written turn.1)

module _ (n k : ℕ) (input mid left old between new : Option (List ℕ)) (more : Bool) (before : Turned n k input mid old between)
    (turn : IfSome mid (λ xs. IsTurn xs left between new more)) where
  pub after-turn : k < n → more ≡ true → Turned n (k + 1) input left old new
  after-turn l e = turn-again n k input mid left old between new l before (subst (λ b. IfSome mid (λ xs. IsTurn xs left between new b)) e turn)

  pub after-last : k < n → more ≡ false → IfSome input (λ xs. length xs / record_length < n → Appends old new (answers xs))
  after-last l e = turn-last n k input mid left old between new l before (subst (λ b. IfSome mid (λ xs. IsTurn xs left between new b)) e turn)

-- no turn is left
pub after-all : (n k : ℕ) (input left old new : Option (List ℕ)) → n ≤ k → Turned n k input left old new
    → IfSome input (λ xs. length xs / record_length < n → Appends old new (answers xs))
unfolding program
after-all n k None left old new l before = tt
after-all n k (Some xs) left old new l before = λ fits.
    let none : n - k ≡ 0 = omega arith in
    let all : before.done ≡ answers xs =
    sym (before.splits ∙ ap (λ t. before.done ++ program t before.rest) none ∙ append-nil before.done) ∙ program-answers n xs fits in
    subst (Appends old new) all before.written

-- ---- one turn

-- the record that was filled is the input's first
pub whole-turn : (n : ℕ) (rec : List ℕ) (input left old new : Option (List ℕ)) → length rec ≡ record_length → record_length ≤ n
    → Consumes input left (take n rec) → Appends old new (whole_step rec) → IfSome input (λ xs. IsTurn xs left old new true)
whole-turn n rec None left old new l h p q = tt
whole-turn n rec (Some xs) None old new l h p q = absurd p
whole-turn n rec (Some xs) (Some ys) old new l h p q =
    let all : take n rec ≡ rec = take_all n rec (omega arith) in
    let split : xs ≡ rec ++ ys = p ∙ ap (λ z. z ++ ys) all in
    let first : take record_length xs ≡ rec = ap (take record_length) split ∙ take_at rec ys record_length l in
    let rest : ys ≡ drop record_length xs = sym (ap (drop record_length) split ∙ drop_at rec ys record_length l) in
    (omega (arith, ap length split, length-append rec ys), rest, subst (λ z. Appends old new (whole_step z)) (sym first) q)

-- ---- the two steps are not refused

room : head_most ≤ length buffer
room = omega (arith, length-replicate {A = ℕ} head_most 0)

-- what is left past the last whole record
module _ (n cut : ℕ) (head : List ℕ) (r : Result ℕ Refused)
    (told : replied r (headed (value_or 0 r) head) ≡ reply_if (leb report_length (length buffer)) (answer_tail n buffer) (headed 0 buffer)) where
  fits : leb report_length (length buffer) ≡ true
  fits = let h = room in le-leb report_length (length buffer) (omega arith)

  pub rest-taken : IsOk r
  rest-taken = reply-taken _ _ _ told ∙ fits

  rest-is : r ≡ Ok cut → headed cut head ≡ answer_tail n buffer
  rest-is e = sym (ap (λ z. headed (value_or 0 z) head) e) ∙ reply-lent _ _ _ told fits

  pub rest-most : r ≡ Ok cut → cut ≤ report_length
  rest-most e = tail-most cut n head buffer (rest-is e)

  pub rest-written : r ≡ Ok cut → (old new : Option (List ℕ)) → Appends old new (take cut head) → Appends old new (head_bytes (answer_tail n buffer))
  rest-written e old new = subst (Appends old new) (ap head_bytes (rest-is e))

-- a whole record
module _ (n : ℕ) (head rec b : List ℕ) (r : Result ℕ Refused)
    (told : replied r (with_record (headed (value_or 0 r) head) rec) ≡ reply_if (takes b buffer) (answer_record b buffer) (with_record (headed 0 buffer) b)) where
  pub whole-taken : length b ≡ record_length → IsOk r
  whole-taken l = reply-taken _ _ _ told ∙ accepted b buffer l room

  whole-is : r ≡ Ok n → with_record (headed n head) rec ≡ answer_record b buffer
  whole-is e = sym (ap (λ z. with_record (headed (value_or 0 z) head) rec) e) ∙ step-is b buffer told

  pub whole-most : r ≡ Ok n → n ≤ head_most
  whole-most e = answer-most n head rec b buffer (whole-is e)

  -- the head's bytes, and then the record as the step left it
  pub whole-written : {E : Type 0} (old mid new : Option (List ℕ)) (w : Result Unit E) → r ≡ Ok n
      → Appends old mid (take n head) → OnOk w (Appends mid new rec) → OnOk w (Appends old new (whole_step b))
  unfolding whole_step
  whole-written old mid new (Ok x) e p q =
      subst (Appends old new) (ap (λ a. head_bytes a.headed ++ a.rec) (whole-is e)) (Appends-trans old mid new (take n head) rec p q)
  whole-written old mid new (Err x) e p q = tt
