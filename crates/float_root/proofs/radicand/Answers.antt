use Prim.Native.Nat.{◌/◌, ◌%◌, ◌^◌}
use Rattle.float_root.proofs.Roots.{rad_norm}
use Rattle.float_root.proofs.radicand.Goals as goal

pub returns : goal.returns
returns c =
    let b = c.args.b in
    rad_norm (b / 2 ^ 23) (b % 2 ^ 23) c.scale-2.result.m c.scale-2.result.k c.if-e-eq0.false c.scale-2.ensures
