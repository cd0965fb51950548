use Rattle.std.proofs.Common.{◌≡◌, arith, length, rules}
use Rattle.cases.proofs.Takes.{places_are}
use Rattle.cases.proofs.search.answer_best.Goals as goal

pub unwrap-best-requires : goal.unwrap-best-requires
unwrap-best-requires g c =
    let x : length c.in_ok-xcorr.xcorr ≡ g.row.SWEEP = search rules in
    let y : length c.in_ok-y.y ≡ g.row.REACHED = search rules in
    places_are _ _ _ _ c.find_best_pitch.ensures (omega (arith, x, y, c.requires.2))
