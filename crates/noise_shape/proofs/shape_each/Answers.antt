-- Each band lies within the bins; a band more of noise is one more turn.
use mathlib.Core.Path.{◌≡◌, ap, ap₂, ◌∙◌, sym}
use Prim.Native.Nat.{◌+◌, ◌-◌, ◌*◌, ◌≤◌}
use native.Mathlib.Omega.{arith}
use lib.ListN.{length}
use borrow.Author.Rules.{rules}
use Rattle.noise_shape.specs.Shape.{lo, Shape, noise_turn, noise_shape, shaped}
use Rattle.loops.specs.Fold.{fold_range, range_none}
use Rattle.noise_shape.proofs.Laws.{noise_more}
use Rattle.noise_shape.proofs.Calls.{begins, ends}
use borrow.Rule.Slice.PartMut.{mid_of, mid_len}
use Rattle.noise_shape.proofs.shape_each.Goals.{After-band_edge-in-loop-i}
use Rattle.noise_shape.proofs.shape_each.Goals as goal

pub loop-i-init : goal.loop-i-init
loop-i-init c = range_none _ _ _ _ (omega arith)

pub overflow_mul-a : goal.overflow_mul-a
overflow_mul-a c = let v = begins c.args.m c.loop-i.i _ c.band_edge.ensures c.loop-i-test.true in search rules

-- where the band ends
ends-in : (c : After-band_edge-in-loop-i)
    → (c.args.m * c.band_edge.result ≤ c.args.m * c.band_edge-in-loop-i.result) × (c.args.m * c.band_edge-in-loop-i.result ≤ c.args.m * 100)
ends-in c = ends c.args.m c.loop-i.i _ _ c.band_edge.ensures c.band_edge-in-loop-i.ensures c.loop-i-test.true

pub overflow_mul-e : goal.overflow_mul-e
overflow_mul-e c =
    let v = ends-in (goal.at.overflow_mul-e c).After-band_edge-in-loop-i in search rules

pub offset_bounds-bins-a : goal.offset_bounds-bins-a
offset_bounds-bins-a c =
    let v = ends-in (goal.at.offset_bounds-bins-a c).After-band_edge-in-loop-i in search rules

pub slice_bounds-band_noise-end : goal.slice_bounds-band_noise-end
slice_bounds-band_noise-end c =
    let v = ends-in (goal.at.slice_bounds-band_noise-end c).After-band_edge-in-loop-i in search rules

pub loop-i-preserved : goal.loop-i-preserved
loop-i-preserved c =
    let n = c.band_noise-s in
    let h = c.loop-i in
    let m = c.args.m in
    let s = m * c.band_edge.result in
    let e = m * c.band_edge-in-loop-i.result in
    let v = ends-in (goal.at.loop-i-preserved c).After-band_edge-in-loop-i in
    let es : s ≡ lo m h.i = ap (λ z. m * z) c.band_edge.ensures in
    let ee : e ≡ lo m (h.i + 1) = ap (λ z. m * z) c.band_edge-in-loop-i.ensures in
    let z : length (mid_of s (e - s) h.bins) ≡ e - s = mid_len s e h.bins (omega arith) in
    noise_more m c.args.start h.i (e - s) s _ h.s n.result _ h.bins n.new.part
    h.invariant (search rules) es (ap₂ ◌-◌ ee es) z n.ensures.1 n.ensures.0

pub returns : goal.returns
unfolding noise_shape
returns c =
    let h = c.loop-i in
    let a = c.args in
    let e : 21 ≡ h.i = omega arith in
    let r : fold_range (noise_turn a.m) (shaped a.bins.now a.seed) a.start 21 ≡ shaped h.bins h.s =
    ap (fold_range (noise_turn a.m) (shaped a.bins.now a.seed) a.start) e ∙ h.invariant in
    (sym (ap (λ (q : Shape). q.seed) r), sym (ap (λ (q : Shape). q.bins) r))
