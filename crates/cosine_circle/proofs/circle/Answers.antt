-- The first i cosines are in place.
use mathlib.Core.Bool.{true}
use mathlib.Core.Path.{◌≡◌, ap, ◌∙◌, sym}
use Prim.Native.Nat.{◌*◌, ◌<◌}
use native.Mathlib.Omega.{arith}
use lib.Ieee.{nan}
use borrow.Author.Rules.{rules}
use Rattle.loops.specs.Front.{tab, tab-none, tab-more, tab-all}
use Rattle.cosine_circle.proofs.Circles.{circle_none, circle_some, known, place_known, part_size}
use Rattle.cosine_circle.specs.Circle.{is_frame_size}
use Rattle.cosine_circle.proofs.circle.Goals.{After-cosines-c}
use Rattle.cosine_circle.proofs.circle.Goals as goal

pub returns-then-not-is_frame_size : goal.returns-then-not-is_frame_size
returns-then-not-is_frame_size c = circle_none _ (sym c.is_frame_size.ensures ∙ c.if-not-is_frame_size.true)

-- n is a frame size from here on
frame : (c : After-cosines-c) → is_frame_size c.args.n ≡ true
frame c = sym c.is_frame_size.ensures ∙ c.if-not-is_frame_size.false

pub nonzero_div-s : goal.nonzero_div-s
nonzero_div-s c = omega (arith, known c.args.n (frame (goal.at.nonzero_div-s c).After-cosines-c))

pub overflow_mul-r : goal.overflow_mul-r
overflow_mul-r c = omega (arith, known c.args.n (frame (goal.at.overflow_mul-r c).After-cosines-c))

pub slice_bounds-r-end : goal.slice_bounds-r-end
slice_bounds-r-end c = omega (arith, known c.args.n (frame (goal.at.slice_bounds-r-end c).After-cosines-c))

pub slice_bounds-v-items-end : goal.slice_bounds-v-items-end
slice_bounds-v-items-end c = sym (part_size c.args.n (frame (goal.at.slice_bounds-v-items-end c).After-cosines-c))

pub loop-i-init : goal.loop-i-init
loop-i-init c = tab-none _ _

pub cos_at-requires-clause-j_bound : goal.cos_at-requires-clause-j_bound
cos_at-requires-clause-j_bound c =
    let e = frame (goal.at.cos_at-requires-clause-j_bound c).After-cosines-c in
    let h : c.loop-i.i < 4 * c.args.n = omega (arith, c.loop-i-test.true, c.loop-i.auto.v-items, part_size c.args.n e) in
    (place_known c.args.n c.loop-i.i e h).1

pub loop-i-preserved : goal.loop-i-preserved
loop-i-preserved c = tab-more _ nan _ _ _ c.loop-i.invariant _ c.cos_at.ensures (search rules)

pub returns : goal.returns
returns c =
    let l = c.loop-i in
    let e = frame (goal.at.returns c).After-cosines-c in
    circle_some c.args.n _ e (tab-all _ nan _ _ _ l.invariant (search rules) ∙ ap (tab _) (part_size c.args.n e))
