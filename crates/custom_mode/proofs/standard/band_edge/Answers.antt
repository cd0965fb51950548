use Rattle.std.proofs.Common.{◌∙◌, ap, arith}
use Rattle.std.specs.Option.{unwrap_or}
use Rattle.std.specs.Slice.{IsItemAt}
use Rattle.custom_mode.specs.Mode.{edges, edge}
use Rattle.custom_mode.proofs.standard.band_edge.Goals as goal

pub returns : goal.returns
unfolding edge edges
returns c =
    let h : IsItemAt edges c.args.i c.get.result = c.get.ensures.lookup in
    c.unwrap_or.ensures ∙ ap (λ z. unwrap_or z 100) c.copied.ensures ∙ h.4 (omega arith) 100
