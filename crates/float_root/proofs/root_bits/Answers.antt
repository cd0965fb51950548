use mathlib.Core.Path.{sym, subst}
use Prim.Native.Nat.{ℕ, ◌+◌, ◌*◌, ◌/◌, ◌%◌, ◌^◌}
use lib.Ieee.{binary32}
use Rattle.float_bits.specs.Steps.{significand}
use Rattle.float_root.specs.Steps.{RootBits}
use Rattle.float_root.proofs.Roots.{root-up, root-down}
use Rattle.float_root.proofs.root_bits.Goals.{then-s-m, else-s-m}
use Rattle.float_root.proofs.root_bits.Goals as goal

pub returns : goal.returns
returns c =
    let b = c.args.b in
    let n = significand binary32 (b / 2 ^ 23) (b % 2 ^ 23) * 2 ^ 149 in
    let p = c.radicand-m in
    let s = c.isqrt-s in
    let bits = λ (q : ℕ). RootBits n (p.result.k * 2 ^ 23 + q) in
    elim c.if-s-m.branch [
      | then-s-m w ↦ subst bits (sym w.nearest-is) (root-up n p.result.m p.result.k s.result p.ensures s.ensures.0 s.ensures.1 w.if-s-m.true)
      | else-s-m w ↦ subst bits (sym w.nearest-is) (root-down n p.result.m p.result.k s.result p.ensures s.ensures.0 s.ensures.1 w.if-s-m.false)
    ]
