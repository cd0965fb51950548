use mathlib.Core.Path.{sym, subst}
use Prim.Native.Nat.{ℕ, ◌-◌, ◌*◌, ◌/◌, ◌%◌, ◌^◌}
use native.Mathlib.Nat.{lt_of_lt_of_le, mod-eq_of_lt}
use native.Mathlib.Omega.{arith}
use lib.Dec.{lit≤}
use Rattle.float_root.specs.Steps.{ScaledTo}
use Rattle.float_root.proofs.Roots.{pairs, first, first-pos, first_small, enough, raised-high, scaled-up}
use Rattle.float_root.proofs.scale.Goals as goal

pub overflow_sub-pairs : goal.overflow_sub-pairs
overflow_sub-pairs c =
    let q = c.args.q in
    let h = c.args.h in
    let r = c.requires in
    enough _ (first-pos q h r.q_nonzero r.q_bound r.le_h) (first_small q h r.q_nonzero r.q_bound r.le_h)

pub returns : goal.returns
returns c =
    let q = c.args.q in
    let h = c.args.h in
    let r = c.requires in
    let m = first q h r.q_nonzero r.q_bound r.le_h in
    let high = raised-high m (first-pos q h r.q_nonzero r.q_bound r.le_h) (first_small q h r.q_nonzero r.q_bound r.le_h) in
    subst (λ (k : ℕ). ScaledTo (q * 2 ^ h) (m * 2 ^ (2 * pairs m) % 2 ^ 64) (h / 2 - k)) (sym c.from.ensures)
    (subst (λ (z : ℕ). ScaledTo (q * 2 ^ h) z (h / 2 - pairs m)) (sym (mod-eq_of_lt (lt_of_lt_of_le high (lit≤ tt))))
    (scaled-up q h r.q_nonzero r.q_bound r.le_h (omega arith)))
