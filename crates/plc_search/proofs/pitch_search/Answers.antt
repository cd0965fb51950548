use Rattle.plc_search.proofs.Steps.{fine-pair, fine-least, search-done}
use mathlib.Core.Path.{ap, ap₂}
use Prim.Native.Nat.{ℕ}
use borrow.Author.Rules.{rules}
use Rattle.std.specs.Prelude.{is_some}
use Rattle.plc_search.proofs.pitch_search.Goals as goal

pub unwrap-best-requires : goal.unwrap-best-requires
unwrap-best-requires c = ap is_some (fine-pair _ _ (search rules) (search rules) c.find_best_pitch.ensures)

pub refine-requires : goal.refine-requires
refine-requires c = fine-least _ _ (search rules) (search rules) c.find_best_pitch.ensures c.unwrap-best.ensures

pub returns : goal.returns
returns c =
    let e = c.coarse_best.ensures in
    search-done _ _ (ap₂ (λ (m n : ℕ). (m, n)) e.0 e.1) c.fine_row-xcorr.ensures c.find_best_pitch.ensures c.unwrap-best.ensures c.refine.ensures (search rules)
    (search rules)
