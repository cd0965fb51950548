-- `ref_decode::pitch::pitch_made` meets its contract: no step refuses, and lag and coefficients are those of the definition.
use Rattle.std.proofs.Common.{◌≡◌, ap, ◌∙◌, cond, List, ℕ, length}
use Rattle.std.specs.Prelude.{Float, eqb}
use Rattle.std.specs.Result.{is_ok}
use borrow.Author.Tests.{eq-eqb, ne_eqb}
use Rattle.history.specs.History.{whole, tails}
use Rattle.settings.specs.Settings.{stereo}
use Rattle.reply.specs.Reply.{reply-taken}
use Rattle.state.proofs.Keep.{ok-start}
use Rattle.pitch_lag.specs.Lag.{lag_of}
use Rattle.pitch_predictor.specs.Predictor.{fitted_to}
use Rattle.ref_decode.proofs.Paths.{ok_is, ok_value, pitch_taken, pitch_path}
use Rattle.ref_decode.proofs.pitch.pitch_made.Goals as goal
use Rattle.ref_decode.proofs.pitch.pitch_made.Goals.{Joined-first, then-first, else-first}

pub unwrap-lag-requires : goal.unwrap-lag-requires
unwrap-lag-requires c =
    let l = (ok-start c.args.s c.args.history.now c.requires.0).history in
    ap is_ok (ok_is _ _ c.find_lag.ensures (eq-eqb _ whole l))

pub unwrap-predictor-requires : goal.unwrap-predictor-requires
unwrap-predictor-requires c =
    let l = (ok-start c.args.s c.args.history.now c.requires.0).history in
    ap is_ok (ok_is _ _ c.fit_predictor.ensures (eq-eqb _ whole l))

-- the lag is searched at the first loss alone
lag-is : (c : Joined-first)
    → c.if-first.lag.0 ≡ cond (eqb c.args.s.loss_count 0) (lag_of (stereo c.args.s.settings) c.args.history.now) c.args.s.lag
lag-is c =
    let s = c.args.s in
    let h = c.args.history.now in
    let l = eq-eqb (length h) whole (ok-start s h c.requires.0).history in
    elim c.if-first.branch [
      | then-first w ↦
          rw (eq-eqb s.loss_count 0 w.if-first.true)
          (ap (λ (p : ℕ × List Float). p.0) w.lag-is ∙ ok_value _ _ w.find_lag.ensures l w.unwrap-lag.ensures ∙ ap (λ b. lag_of b h) w.is_stereo-two.ensures)
      | else-first w ↦ rw (ne_eqb s.loss_count 0 w.if-first.false) (ap (λ (p : ℕ × List Float). p.0) w.lag-is)
    ]

pub unwrap-requires : goal.unwrap-requires
unwrap-requires c =
    let s = c.args.s in
    let h = c.args.history.now in
    reply-taken _ _ _ c.pitch_loss.ensures ∙ pitch_taken s h c.requires.0 c.requires.1 _ (lag-is (goal.at.unwrap-requires c).Joined-first)

pub returns : goal.returns
returns c =
    let s = c.args.s in
    let h = c.args.history.now in
    let l = eq-eqb (length h) whole (ok-start s h c.requires.0).history in
    let predictor : c.if-first.lag.1 ≡ cond (eqb s.loss_count 0) (fitted_to (stereo s.settings) s.predictor (tails h)) s.predictor =
    elim c.if-first.branch [
      | then-first w ↦
          rw (eq-eqb s.loss_count 0 w.if-first.true)
          (ap (λ (p : ℕ × List Float). p.1) w.lag-is ∙ ok_value _ _ w.fit_predictor.ensures l w.unwrap-predictor.ensures
          ∙ ap (λ b. fitted_to b s.predictor (tails h)) w.is_stereo-two.ensures)
      | else-first w ↦ rw (ne_eqb s.loss_count 0 w.if-first.false) (ap (λ (p : ℕ × List Float). p.1) w.lag-is)
    ] in
    pitch_path s h c.requires.0 c.requires.1 _ (lag-is (goal.at.returns c).Joined-first) _ _ _ predictor c.pitch_loss.ensures _ c.from.ensures
