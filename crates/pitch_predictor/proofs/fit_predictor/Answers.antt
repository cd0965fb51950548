use Rattle.std.proofs.Common.{◌≡◌, ◌+◌, false, true, List, length, rules}
use lib.Ieee.{Float}
use borrow.Author.Tests.{eq-eqb, ne_eqb}
use Rattle.history.specs.History.{whole}
use Rattle.pitch_fit.specs.Fit.{order}
use Rattle.pitch_predictor.proofs.Laws.{ok-yes, ok-no, first-taken, fit-first, second-taken, fit-second, fit-mono, fit-stereo}
use Rattle.pitch_predictor.proofs.fit_predictor.Goals as goal

pub returns-then-history-ne-WHOLE : goal.returns-then-history-ne-WHOLE
returns-then-history-ne-WHOLE c = ok-no _ _ (ne_eqb _ whole c.if-history-ne-WHOLE.true)

pub returns-in_err-pitch_fit : goal.returns-in_err-pitch_fit
returns-in_err-pitch_fit c =
    let a = c.args in
    let m : length a.predictor ≡ order + order = search rules in
    let no : false ≡ true = first-taken a.history.now (search rules) a.predictor m _ _ c.in_err-pitch_fit.ensures in
    cc

pub returns-in_err-pitch_fit-2 : goal.returns-in_err-pitch_fit-2
returns-in_err-pitch_fit-2 c =
    let a = c.args in
    let l : length a.history.now ≡ whole = search rules in
    let m : length a.predictor ≡ order + order = search rules in
    let no : false ≡ true =
    second-taken a.history.now l a.predictor m _ _ _ (fit-first a.history.now l a.predictor m _ _ c.pitch_fit.ensures) c.in_err-pitch_fit-2.ensures in
    cc

pub returns-in_ok-pitch_fit-2 : goal.returns-in_ok-pitch_fit-2
returns-in_ok-pitch_fit-2 c =
    let a = c.args in
    let h : List Float = a.history.now in
    let l : length h ≡ whole = search rules in
    let m : length a.predictor ≡ order + order = search rules in
    let e = fit-first h l a.predictor m _ _ c.pitch_fit.ensures in
    ok-yes _ _ _ (eq-eqb _ whole l)
    (fit-stereo h l a.predictor m a.two _ _ c.if-two.true e (fit-second h l a.predictor m _ _ _ e c.pitch_fit-then-two.ensures))

pub returns-else-two : goal.returns-else-two
returns-else-two c =
    let a = c.args in
    let h : List Float = a.history.now in
    let l : length h ≡ whole = search rules in
    let m : length a.predictor ≡ order + order = search rules in
    ok-yes _ _ _ (eq-eqb _ whole l) (fit-mono h l a.predictor m a.two _ c.if-two.false (fit-first h l a.predictor m _ _ c.pitch_fit.ensures))
