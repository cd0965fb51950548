use mathlib.Core.Logic.{inl, inr}
use Rattle.plc_downsample.proofs.Steps.{Left, refused, second-refused, one-done, pair-done}
use Rattle.std.proofs.Common.{◌≡◌, ◌≢◌, is_ok, false, sym, subst, ap, ◌∙◌, rules, of_calls, ℕ, ◌<◌, length, get_or}
use Rattle.std.proofs.lemmas.Result.{err_from_is_err_and, MatchResult-at_ok, MatchResult-at_err}
use lib.Ieee.{nan}
use Rattle.plc_downsample.specs.Downsample.{smoothed_at, summed_at}
use Rattle.plc_downsample.proofs.pitch_downsample.Goals as goal
use Rattle.plc_downsample.proofs.pitch_downsample.Goals.{in-None, in-Some+in_ok-y-in-Some}

pub returns-in_err-x : goal.returns-in_err-x
returns-in_err-x c =
    let a = c.args in
    let no : false ≡ _ = sym (ap is_ok (err_from_is_err_and _ c.from_residual.ensures.1).1) in
    subst (λ t. Left a.x.now a.second a.x_lp.now t a.x_lp.now) no
    (refused a.x.now a.x_lp.now a.second
    (inl (MatchResult-at_err _ _ _ c.in_err-x.was c.try_from.ensures.1)))

pub returns-then-x_lp-ne-HALF : goal.returns-then-x_lp-ne-HALF
returns-then-x_lp-ne-HALF c =
    let a = c.args in
    let x = MatchResult-at_ok _ _ _ c.in_ok-x.was c.try_from.ensures.1 in
    refused a.x.now a.x_lp.now a.second (inr (x.long, c.if-x_lp-ne-HALF.true))

pub returns-in_err-y-in-Some : goal.returns-in_err-y-in-Some
returns-in_err-y-in-Some c =
    let a = c.args in
    let y = c.in-Some.y.now in
    let no : false ≡ _ = sym (ap is_ok (err_from_is_err_and _ c.from_residual-in_err-y-in-Some.ensures.1).1) in
    subst (λ t. Left a.x.now a.second a.x_lp.now t a.x_lp.now) no
    (second-refused a.x.now a.x_lp.now a.second _ c.in-Some.is
    (MatchResult-at_err _ _ _ c.in_err-y-in-Some.was c.try_from-in-Some.ensures.1))

pub returns : goal.returns
unfolding summed_at
returns c =
    let a = c.args in
    let x = MatchResult-at_ok _ _ _ c.in_ok-x.was c.try_from.ensures.1 in
    elim c.match-second.branch [
      | in-None w ↦
          let f : (i : ℕ) → i < 1024 → get_or c.match-second.x_lp i nan ≡ smoothed_at a.x.now i =
          λ i h. ap (λ z. get_or z i nan) w.x_lp-is ∙ search (rules, of_calls, w.fill_by.ensures i (search rules)) ∙ ap (λ z. smoothed_at z i) x.same in
          one-done a.x.now a.x_lp.now c.match-second.x_lp a.second x.long (search rules) (search rules) c.whiten.ensures w.in-None.is f
      | in-Some+in_ok-y-in-Some w ↦
          let y = MatchResult-at_ok _ _ _ w.in_ok-y-in-Some.was w.try_from-in-Some.ensures.1 in
          let f : (i : ℕ) → i < 1024 → get_or c.match-second.x_lp i nan ≡ summed_at a.x.now w.in-Some.y.now i =
          λ i h. ap (λ z. get_or z i nan) w.x_lp-is ∙ search (rules, of_calls, w.fill_by-in-Some.ensures i (search rules)) ∙ (λ k. summed_at (x.same k) (y.same k) i) in
          pair-done a.x.now a.x_lp.now c.match-second.x_lp a.second x.long (search rules) (search rules) c.whiten.ensures w.in-Some.y w.in-Some.is
          y.long f
    ]
