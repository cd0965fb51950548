use mathlib.Core.Path.{◌≡◌, refl, ◌∙◌}
use lib.Ieee.{nan}
use Rattle.std.proofs.Common.{rules, of_calls}
use Rattle.std.specs.Prelude.{unwrap_or}
use Rattle.std.specs.Option.{option_or}
use Rattle.buffers.specs.Buffers.{zero32}
use Rattle.plc_search.specs.Rows.{near_at}
use Rattle.plc_search.proofs.Finer.{fine-at}
use Rattle.loops.specs.Made.{made}
use Rattle.plc_search.proofs.fine_row.Goals as goal

pub returns : goal.returns
returns c =
    let m = c.around-near0 in
    let n = c.around-near1 in
    made _ _ _ 310
    (λ i y q l k.
    let e : y ≡ unwrap_or (option_or (near_at m.result.row m.result.place.at i) (near_at n.result.row n.result.place.at i)) zero32 = search (rules, of_calls, k) in
    (e ∙ fine-at _ _ _ _ _ _ _ _ m.ensures.place n.ensures.place m.ensures.values n.ensures.values refl refl, search (rules, k)))
    nan _ c.from_fn.ensures.items
