use Rattle.std.proofs.Common.{ap, ◌∙◌, sym}
use borrow.Author.Tests.{eq-eqb, ne_eqb}
use Rattle.std.specs.Prelude.{Ok}
use Rattle.reply.specs.Reply.{ok_if}
use Rattle.std.proofs.lemmas.Result.{err_from_is_err_and, MatchResult-at_ok, MatchResult-at_err}
use Rattle.pitch_lag.specs.Lag.{lag_of}
use Rattle.pitch_lag.proofs.Laws.{search-most, lag_is}
use Rattle.pitch_lag.proofs.find_lag.Goals as goal

pub returns-in_err-history : goal.returns-in_err-history
unfolding ok_if
returns-in_err-history c =
    let a = c.args in
    let x = a.history.now in
    (err_from_is_err_and _ c.from_residual.ensures.1).1
    ∙ sym (ap (λ z. ok_if z (lag_of a.two x))
    (ne_eqb _ _ (MatchResult-at_err _ _ _ c.in_err-history.was c.try_from.ensures.1)))

pub overflow_sub-result : goal.overflow_sub-result
overflow_sub-result c = search-most _ _ c.pitch_search.ensures

pub returns : goal.returns
unfolding ok_if
returns c =
    let a = c.args in
    let h = MatchResult-at_ok _ _ _ c.in_ok-history.was c.try_from.ensures.1 in
    ap Ok (lag_is a.two c.in_ok-history.history.now c.low_pass-low.result _ c.low_pass-low.ensures c.pitch_search.ensures ∙ ap (lag_of a.two) h.same)
    ∙ sym (ap (λ z. ok_if z (lag_of a.two a.history.now)) (eq-eqb _ _ h.long))
