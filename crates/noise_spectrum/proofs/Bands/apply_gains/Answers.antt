-- Each band lies within the bins; a band times its gain is one more turn.
use mathlib.Core.Path.{◌≡◌, ap, ap₂, ◌∙◌, sym}
use Prim.Native.Nat.{◌+◌, ◌-◌, ◌*◌, ◌≤◌}
use native.Mathlib.Omega.{arith}
use lib.ListN.{get_or}
use lib.Ieee.{nan, binary32, add}
use borrow.Author.Rules.{rules}
use Rattle.loops.specs.Fold.{range_none}
use Rattle.band_gain.specs.Gain.{gain_of}
use Rattle.noise_shape.specs.Shape.{lo}
use Rattle.noise_shape.proofs.Calls.{begins, ends}
use Rattle.noise_spectrum.specs.Spectrum.{gain_of_band}
use Rattle.noise_spectrum.proofs.Laws.{gains_more}
use Rattle.noise_spectrum.proofs.Bands.apply_gains.Goals.{After-band_edge-in-loop-i}
use Rattle.noise_spectrum.proofs.Bands.apply_gains.Goals as goal

pub loop-i-init : goal.loop-i-init
loop-i-init c = sym (range_none _ _ _ _ (omega arith))

pub overflow_mul-a : goal.overflow_mul-a
overflow_mul-a c = let v = begins c.args.self.m c.loop-i.i _ c.band_edge.ensures (omega arith) in search rules

-- where the band ends
ends-in : (c : After-band_edge-in-loop-i)
    → (c.args.self.m * c.band_edge.result ≤ c.args.self.m * c.band_edge-in-loop-i.result) × (c.args.self.m * c.band_edge-in-loop-i.result ≤ c.args.self.m * 100)
ends-in c = ends c.args.self.m c.loop-i.i _ _ c.band_edge.ensures c.band_edge-in-loop-i.ensures (omega arith)

pub overflow_mul-e : goal.overflow_mul-e
overflow_mul-e c =
    let v = ends-in (goal.at.overflow_mul-e c).After-band_edge-in-loop-i in search rules

pub offset_bounds-bins-a : goal.offset_bounds-bins-a
offset_bounds-bins-a c =
    let v = ends-in (goal.at.offset_bounds-bins-a c).After-band_edge-in-loop-i in search rules

pub slice_bounds-scale-end : goal.slice_bounds-scale-end
slice_bounds-scale-end c =
    let v = ends-in (goal.at.slice_bounds-scale-end c).After-band_edge-in-loop-i in search rules

pub loop-i-preserved : goal.loop-i-preserved
unfolding gain_of_band
loop-i-preserved c =
    let h = c.loop-i in
    let a = c.args in
    let m = a.self.m in
    let s = m * c.band_edge.result in
    let e = m * c.band_edge-in-loop-i.result in
    let es : s ≡ lo m h.i = ap (λ z. m * z) c.band_edge.ensures in
    let ee : e ≡ lo m (h.i + 1) = ap (λ z. m * z) c.band_edge-in-loop-i.ensures in
    let g : c.band_gain-g.result ≡ gain_of_band a.energies.now h.i =
    c.band_gain-g.ensures ∙ ap (λ x. gain_of (add binary32 (get_or a.energies.now h.i nan) x)) c.mean_energy.ensures in
    gains_more m a.self.span.start h.i (e - s) s c.band_gain-g.result a.energies.now a.bins.now h.bins c.scale.new.x
    h.invariant (search rules) es (ap₂ ◌-◌ ee es) g c.scale.ensures
