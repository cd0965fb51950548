use Rattle.std.proofs.Common.{◌≡◌, refl, sym, ap, true, false, ◌∙◌, ◌≢◌, List, Float, length, Option, Result, Ok, MatchOption, MutBor, is_ok}
use Rattle.std.specs.Array.{IsWholeChunk}
use Rattle.std.specs.Result.{result_ok}
use Rattle.std.proofs.lemmas.Option.{MatchOption-at_some, MatchOption-at_none}
use Rattle.std.proofs.lemmas.Result.{err_from_is_err_and}
use Rattle.reply.specs.declared.Refused.{Refused}
use Rattle.reply.specs.Reply.{reply, reply-yes, reply-no}
use Rattle.pitch_loss.proofs.Tails.{takes-fits, frame-fits, used-is, takes-size, refuses-size}
use Rattle.pitch_loss.proofs.pitch_loss.Goals as goal

-- the history as an array, past the `?`
as-array : {o : Option (MutBor (List Float))} {r : Result (MutBor (List Float)) Refused} {m : MutBor (List Float)} {x : List Float} → o ≡ result_ok r → r ≡ Ok m
    → MatchOption o (length x ≢ 4336) (λ y. IsWholeChunk x y.now 4336) → IsWholeChunk x m.now 4336
as-array p q = MatchOption-at_some _ _ _ (p ∙ ap result_ok q)

pub returns-in_err-history : goal.returns-in_err-history
returns-in_err-history c =
    let a = c.args in
    let x = a.history.now in
    let n : length x ≢ 4336 = MatchOption-at_none _ _ (c.ok_or.ensures.ok_part ∙ ap result_ok c.in_err-history.was) c.as_mut_array.ensures.cases in
    ap (λ t. reply t x) (ap is_ok (err_from_is_err_and _ c.from_residual.ensures.1).1)
    ∙ reply-no _ _ _ (refuses-size a.k _ a.pitch.lag a.pitch.filter n) refl

pub returns-then-not-takes : goal.returns-then-not-takes
returns-then-not-takes c =
    let a = c.args in
    let h = as-array c.ok_or.ensures.ok_part c.in_ok-history.was c.as_mut_array.ensures.cases in
    reply-no _ _ _ (takes-size a.k _ a.pitch.lag a.pitch.filter h.long (sym c.if-not-takes.ensures)) h.same

pub invariant_of-loss : goal.invariant_of-loss
invariant_of-loss c =
    let f = takes-fits _ _ _ _ (sym c.if-not-takes.ensures) in
    record { frame = frame-fits _ _ f.good c.frame_size.ensures; lag_low = f.lag_low; lag_high = f.lag_high; filter = f.filter }

pub invariant_of-loss-else-is_stereo : goal.invariant_of-loss-else-is_stereo
invariant_of-loss-else-is_stereo c =
    let f = takes-fits _ _ _ _ (sym c.if-not-takes.ensures) in
    record { frame = frame-fits _ _ f.good c.frame_size.ensures; lag_low = f.lag_low; lag_high = f.lag_high; filter = f.filter }

pub returns-then-is_stereo : goal.returns-then-is_stereo
returns-then-is_stereo c =
    let a = c.args in
    let h = as-array c.ok_or.ensures.ok_part c.in_ok-history.was c.as_mut_array.ensures.cases in
    let f = takes-fits _ _ _ _ (sym c.if-not-takes.ensures) in
    reply-yes _ _ _ (takes-size a.k _ a.pitch.lag a.pitch.filter h.long (sym c.if-not-takes.ensures))
    (used-is a.k true _ a.pitch.lag a.pitch.first a.pitch.filter _ _ _ a.pitch.predictor f.good (sym c.is_stereo.ensures ∙ c.if-is_stereo.true)
    c.frame_size.ensures
    h.same
    c.conceal_stereo.ensures)

pub returns-else-is_stereo : goal.returns-else-is_stereo
returns-else-is_stereo c =
    let a = c.args in
    let h = as-array c.ok_or.ensures.ok_part c.in_ok-history.was c.as_mut_array.ensures.cases in
    let f = takes-fits _ _ _ _ (sym c.if-not-takes.ensures) in
    reply-yes _ _ _ (takes-size a.k _ a.pitch.lag a.pitch.filter h.long (sym c.if-not-takes.ensures))
    (used-is a.k false _ a.pitch.lag a.pitch.first a.pitch.filter _ _ _ a.pitch.predictor f.good (sym c.is_stereo.ensures ∙ c.if-is_stereo.false)
    c.frame_size.ensures
    h.same
    c.conceal_mono.ensures)
