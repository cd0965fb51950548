use Rattle.plc_search.proofs.Steps.{coarse-row, coarse-taken, coarse-pair, coarse-known, coarse-least, first_count}
use mathlib.Core.Path.{refl, ap, sym}
use native.Mathlib.Omega.{arith}
use borrow.Author.Rules.{rules}
use lib.ListN.{replicate}
use Rattle.std.specs.Prelude.{is_some}
use Rattle.buffers.specs.Buffers.{zero32}
use Rattle.plc_search.proofs.coarse_best.Goals as goal

pub unwrap-requires : goal.unwrap-requires
unwrap-requires c = coarse-taken _ _ (replicate 156 zero32) c.every_second-x4.ensures c.every_second-y4.ensures refl c.correlate.ensures

pub slice_bounds-find_best_pitch-end : goal.slice_bounds-find_best_pitch-end
slice_bounds-find_best_pitch-end c =
    sym (first_count _ _ 155 156 (omega arith)
    (coarse-row _ _ (replicate 156 zero32) c.every_second-x4.ensures c.every_second-y4.ensures refl c.correlate.ensures))

pub unwrap-first-requires : goal.unwrap-first-requires
unwrap-first-requires c =
    let e1 = c.every_second-x4.ensures in
    let e2 = c.every_second-y4.ensures in
    ap is_some (coarse-pair _ _ _ _ (search rules) e1 e2 (coarse-row _ _ (replicate 156 zero32) e1 e2 refl c.correlate.ensures) c.find_best_pitch.ensures)

pub invariant_of-result : goal.invariant_of-result
invariant_of-result c =
    let e =
    coarse-known c.args.y.now (replicate 156 zero32) (search rules) c.every_second-x4.ensures c.every_second-y4.ensures refl c.correlate.ensures
    c.find_best_pitch.ensures c.unwrap-first.ensures in
    record { below = (coarse-least c.args.y.now e).0 }

pub invariant_of-result-2 : goal.invariant_of-result-2
invariant_of-result-2 c =
    let e =
    coarse-known c.args.y.now (replicate 156 zero32) (search rules) c.every_second-x4.ensures c.every_second-y4.ensures refl c.correlate.ensures
    c.find_best_pitch.ensures c.unwrap-first.ensures in
    record { below = (coarse-least c.args.y.now e).1 }

pub returns : goal.returns
returns c =
    let e =
    coarse-known c.args.y.now (replicate 156 zero32) (search rules) c.every_second-x4.ensures c.every_second-y4.ensures refl c.correlate.ensures
    c.find_best_pitch.ensures c.unwrap-first.ensures in
    (ap (λ z. z.0) e, ap (λ z. z.1) e)
