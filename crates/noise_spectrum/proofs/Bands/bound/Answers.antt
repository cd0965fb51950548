use mathlib.Core.Path.{◌≡◌, ap}
use Prim.Native.Nat.{◌*◌}
use native.Mathlib.Omega.{arith}
use borrow.Author.Rules.{rules}
use Rattle.noise_shape.specs.Shape.{lo, lo-in}
use Rattle.noise_spectrum.proofs.Laws.{bound-lower}
use Rattle.noise_spectrum.proofs.Bands.bound.Goals as goal

pub overflow_mul-edge : goal.overflow_mul-edge
overflow_mul-edge c =
    let m = c.args.self.m in
    let e : m * c.band_edge.result ≡ lo m c.args.self.span.end = ap (λ z. m * z) c.band_edge.ensures in
    let l = lo-in m c.args.self.span.end (omega arith) in
    search rules

pub returns : goal.returns
returns c =
    let s = c.args.self in
    bound-lower s.m s.span.end s.span.downsample _ (ap (λ z. s.m * z) c.band_edge.ensures) (omega arith) _ c.min.ensures
