-- With each input every output moves to its next place on the circle, and its sum gets one more term.
use mathlib.Core.Path.{◌≡◌, ap, ◌∙◌}
use native.Mathlib.Omega.{arith}
use lib.ListN.{length}
use borrow.Author.Rules.{rules}
use Rattle.loops.specs.Front.{tab}
use Rattle.mdct.specs.Imdct.{imdct_sum}
use Rattle.cosine_circle.proofs.Sizes.{sized, few}
use Rattle.mdct.proofs.Lanes.{sums, places-none, places-on, places-less, places-more, sums_none, sums-more, step-along, first-along}
use Rattle.mdct.proofs.imdct.Frame.eight.Goals as goal

pub along-step-requires : goal.along-step-requires
along-step-requires c = step-along _ c.args.t c.args.self.frame c.requires

pub along-at-requires : goal.along-at-requires
along-at-requires c = first-along _ c.args.t c.args.self.frame c.requires

pub loop-value-init : goal.loop-value-init
loop-value-init c = (places-none _ _ (sized _ c.args.self.frame) _ c.along-at.ensures, sums_none _)

pub add_terms-requires : goal.add_terms-requires
add_terms-requires c = record { by_index = places-on _ _ (sized _ c.args.self.frame) c.loop-value.value-index _ c.loop-value.invariant.0 }

pub onward-requires-clause-w_bound : goal.onward-requires-clause-w_bound
onward-requires-clause-w_bound c = omega (arith, few _ c.args.self.frame)

pub onward-requires-clause-by_index : goal.onward-requires-clause-by_index
onward-requires-clause-by_index c =
    places-less _ _ (sized _ c.args.self.frame) c.loop-value.value-index _ c.loop-value.invariant.0 _ c.along-step.ensures

pub loop-value-preserved : goal.loop-value-preserved
loop-value-preserved c =
    let z = sized _ c.args.self.frame in
    let l = c.loop-value in (
      places-more _ _ z l.value-index _ l.invariant.0 _ c.along-step.ensures _ c.onward.ensures,
      sums-more _ _ z l.value-index _ l.invariant.0 _ _ _ _ c.args.self.circle_is c.f32_to_f64.ensures l.invariant.1 _ c.add_terms.ensures,
    )

pub returns : goal.returns
unfolding imdct_sum
returns c =
    let l = c.loop-value in
    let a = c.args in
    let e : l.value-index ≡ length a.self.x.now = search rules in
    l.invariant.1 ∙ ap (λ z. tab (sums (length a.self.x.now) a.self.x.now a.t z) 8) e
