-- What a call on a caller's memory leaves, from what `decode_lost` left.
use Rattle.std.proofs.Common.{◌≡◌, ℕ, ◌≤◌, List, length, arith, Result, Ok, Err, slice_index_or, ap, sym, ◌∙◌}
use lib.Ieee.{Float}
use lib.Dec.{eqb}
use Rattle.loops.specs.Pick.{pick-false}
use Rattle.settings.specs.declared.Refusal.{Refusal}
use Rattle.settings.specs.Number.{number_of}
use Rattle.settings.proofs.Table.{refusal-counts}
use Rattle.state.specs.declared.State.{State}
use Rattle.state.specs.declared.Answer.{Answer}
use Rattle.state.specs.Answer.{report_of, answer_words}
use Rattle.loss.specs.Loss.{loss, outcome_of, in_buffer}
use Rattle.loss.proofs.Samples.{loss-samples}
use Rattle.state_words.specs.Words.{state_in, state_words}
use Rattle.direct.specs.Direct.{called, called_with, loss_in}

-- the state's words after a call, from those before it
abbrev pub left : List ℕ → Result Answer Refusal → List ℕ
left ws (Ok a) = state_words a.state
left ws (Err e) = ws

module _ (s : State) (h p q g : List Float) (ws : List ℕ) (from : s ≡ state_in ws) where
  lost : in_buffer p (loss s h (length p)) ≡ in_buffer p (loss (state_in ws) h (length p))
  lost = ap (λ z. in_buffer p (loss z h (length p))) from

  pub samples-fit : (r : Result Answer Refusal) → outcome_of s r q g ≡ in_buffer p (loss s h (length p)) → (report_of r).samples ≤ 4_294_967_295
  unfolding in_buffer
  samples-fit (Ok a) m = omega (arith, ap (λ o. o.report.samples) m, (loss-samples s h (length p)).1)
  samples-fit (Err e) m = omega arith

  pub call-is : (r : Result Answer Refusal) → outcome_of s r q g ≡ in_buffer p (loss s h (length p)) → (w st : List ℕ)
      → w ≡ answer_words (report_of r) → st ≡ left ws r → called (slice_index_or w 0 0) w st q g ≡ loss_in ws h p
  unfolding called_with loss_in
  call-is (Ok a) m w st f e = (λ i. called (slice_index_or (f i) 0 0) (f i) (e i) q g) ∙ ap (called_with ws) (m ∙ lost)
  call-is (Err x) m w st f e =
      let kept = sym (pick-false (eqb (number_of x) 0) (state_words s) ws (refusal-counts x)) in
      (λ i. called (slice_index_or (f i) 0 0) (f i) ((e ∙ kept) i) q g) ∙ ap (called_with ws) (m ∙ lost)
