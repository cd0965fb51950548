use Rattle.std.proofs.Common.{ap, ◌∙◌}
use Rattle.std.proofs.lemmas.Result.{MatchResult-at_ok}
use Rattle.plc_whiten.specs.Whiten.{whitener}
use Rattle.plc_whiten.proofs.Steps.{whiten_done}
use Rattle.plc_whiten.proofs.whiten.Goals as goal

pub returns : goal.returns
returns c =
    let x = MatchResult-at_ok _ _ _ c.in_ok-x.was c.try_from.ensures.1 in
    whiten_done _ _ _ _ _ _ x.long (c.whitening-num.ensures ∙ ap whitener x.same) c.celt_fir_inplace.ensures
    c.celt_fir_inplace-2.ensures
