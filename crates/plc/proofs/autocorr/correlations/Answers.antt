-- The row turned, and the noise floor.
use Rattle.std.proofs.Common.{◌≡◌, ap, ◌∙◌, length, rules}
use Rattle.plc.specs.Autocorr.{lag_row}
use Rattle.plc.proofs.Lags.{turned, floored}
use Rattle.plc.proofs.autocorr.correlations.Goals as goal

pub returns : goal.returns
returns g c = let x = c.args.x.now in
    let e : length c.first_terms.new.row ≡ g.row.LAGS = search rules in
    floored x g.row.LAGS _ (turned x g.row.LAGS _ _ (c.other_terms.ensures ∙ ap (λ z. lag_row x z (length x)) e) c.reverse.ensures.after) (search rules)
