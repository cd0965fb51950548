use Rattle.loops.specs.Front.{tab-none, tab-more, tab-all, tab-read}
use lib.Ieee.{nan, binary32, add, mul}
use mathlib.Core.Path.{ap}
use Prim.Native.Nat.{◌<◌}
use lib.ListN.{length, get_or}
use borrow.Author.Rules.{rules}
use Rattle.plc_correlate.proofs.add_products.Invariants.{term}
use Rattle.plc_correlate.proofs.add_products.Goals as goal

pub loop-i-init : goal.loop-i-init
loop-i-init c = tab-none _ _

pub loop-i-preserved : goal.loop-i-preserved
loop-i-preserved c =
    let l = c.loop-i in
    let a = c.args in
    let h : l.i < length a.sums.now = search rules in
    tab-more _ nan _ _ _ l.invariant _
    (ap (λ z. add binary32 z (mul binary32 a.v (get_or a.y.now l.i nan))) (tab-read (term a.v a.y.now a.sums.now) nan _ _ _ l.invariant h)) h

pub returns : goal.returns
returns c = tab-all _ nan _ _ _ c.loop-i.invariant (search rules)
