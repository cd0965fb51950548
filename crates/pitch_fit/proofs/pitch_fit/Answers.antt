use Rattle.std.proofs.Common.{rules}
use Rattle.std.proofs.lemmas.Result.{MatchResult-at_ok}
use Rattle.pitch_fit.proofs.Laws.{fit_is}
use Rattle.pitch_fit.proofs.pitch_fit.Goals as goal

pub returns : goal.returns
returns c =
    let a = c.args in
    let w = c.window in
    let ac = c.celt_autocorr_windowed-ac in
    let b = c.lag_window in
    let newest = MatchResult-at_ok _ _ _ c.in_ok-newest.was c.try_from.ensures.1 in
    fit_is a.newest.now _ w.result ac.result b.new.ac a.lpc.now _ _ _ (search rules)
    newest.same w.ensures ac.ensures b.ensures c.celt_lpc.ensures newest.long
