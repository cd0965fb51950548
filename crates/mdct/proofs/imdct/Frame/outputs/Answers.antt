-- The first 8 k outputs are written.
use mathlib.Core.Path.{ap, ◌∙◌}
use Prim.Native.Nat.{◌*◌}
use native.Mathlib.Omega.{arith}
use lib.ListN.{get_or}
use lib.Ieee.{nan}
use borrow.Author.Rules.{rules}
use Rattle.loops.specs.Front.{tab, tab-none, tab-all, get_or-tab}
use Rattle.loops.specs.Mapped.{mapped}
use Rattle.cosine_circle.proofs.Sizes.{sized, eights}
use Rattle.mdct.specs.Imdct.{half_of, imdct_at, imdct}
use Rattle.mdct.proofs.Fronts.{run_put}
use Rattle.mdct.proofs.imdct.Frame.outputs.Goals as goal

pub loop-k-init : goal.loop-k-init
loop-k-init c = tab-none _ _

pub loop-k-preserved : goal.loop-k-preserved
unfolding imdct_at half_of
loop-k-preserved c =
    let l = c.loop-k in
    let h = mapped _ half_of _ (λ x y q l. search rules) 8 _ _ nan nan c.map.ensures.items in
    run_put _ _ _ _ _ (8 * l.k) 8 _ _ l.invariant (c.copy_from_slice.ensures.after ∙ h)
    (λ j g. ap half_of (ap (λ z. get_or z j nan) c.eight.ensures ∙ get_or-tab _ 8 j nan g)) (omega arith) (omega arith)

pub returns : goal.returns
unfolding imdct
returns c = tab-all _ nan _ _ _ c.loop-k.invariant (omega (arith, c.requires, eights _ (sized _ c.args.self.frame))) ∙ ap (tab _) c.requires
