use Rattle.std.proofs.Common.{◌≡◌, ap, ℕ, ◌-◌, ◌*◌, length, rules}
use Rattle.std.proofs.lemmas.Result.{MatchResult-at_ok}
use Rattle.history.specs.History.{half}
use Rattle.excitation.proofs.Steps.{whitened_is, repeat-is}
use Rattle.excitation.proofs.repeat_cycle.Goals as goal

pub returns : goal.returns
returns c =
    let a = c.args in
    let v = c.args.voice in
    let newest = MatchResult-at_ok _ _ _ c.in_ok-exc.was c.try_from.ensures.1 in
    let from : ℕ = half - 2 * c.decay_period-period.result in
    let lpc : length v.lpc.now ≡ 24 = search rules in
    repeat-is (length a.e.now) from v.newest.now v.lpc.now a.mem.now _ a.e.now _ v.lag _ _ _
    newest.long
    (ap (λ z. half - 2 * z) c.decay_period-period.ensures.0)
    (whitened_is v.lpc.now v.newest.now a.mem.now _ lpc c.told-mem newest.long newest.same from _ _ c.in_ok-celt_fir_from.ensures)
    c.pitch_decay-decay.ensures
    c.periodic_copy.ensures
