-- The first 8 k sums are in place, and 8 k times n products were made for them.
use mathlib.Core.Path.{◌≡◌, ap, ◌∙◌, sym}
use Prim.Native.Nat.{◌*◌}
use native.Mathlib.Omega.{arith}
use lib.ListN.{length}
use lib.Ieee.{nan}
use Rattle.loops.specs.Front.{tab, tab-none, tab-all}
use Rattle.cosine_circle.proofs.Sizes.{sized}
use Rattle.mdct_work.proofs.Works.{pair_values, pair-products}
use Rattle.mdct_pairs.proofs.Eights.{eight_put, room}
use Rattle.mdct_pairs.proofs.lanes.Tables.fill_sums.Goals as goal

pub loop-k-init : goal.loop-k-init
loop-k-init c = (tab-none _ _, omega arith)

pub loop-k-preserved : goal.loop-k-preserved
loop-k-preserved c =
    let l = c.loop-k in
    let r = room _ _ l.k _ c.args.self.frame c.requires c.loop-k-test.true l.invariant.1 in
    (eight_put _ l.k _ _ _ _ _ l.invariant.0 (c.copy_from_slice.ensures.after ∙ c.four-made.ensures.0) (omega arith), omega arith)

pub returns : goal.returns
returns c =
    let l = c.loop-k in
    let n = length c.args.self.x.now in
    let z = sized n c.args.self.frame in
    let e : length c.args.sums.now ≡ 8 * l.k = omega (arith, c.requires, z.is) in (
      tab-all _ nan _ _ _ l.invariant.0 e ∙ ap (tab _) c.requires ∙ sym (pair_values n c.args.self.x.now),
      l.invariant.1 ∙ ap (λ y. y * n) (sym e ∙ c.requires) ∙ sym (pair-products n c.args.self.x.now),
    )
