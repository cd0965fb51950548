use mathlib.Core.Path.{◌≡◌, sym, ap, ◌∙◌, subst}
use Prim.Native.Nat.{ℕ, ◌+◌, ◌-◌, ◌*◌, ◌^◌, ◌<◌, ◌≤◌}
use native.Mathlib.Omega.{arith}
use lib.Pow.{pow_pos}
use lib.Ieee.Nearest.{closest}
use Rattle.float_narrow.specs.Clause.{delivered}
use Rattle.float_narrow.specs.Steps.{Magnitude}
use Rattle.float_narrow.proofs.Nearer.{delivered-is}
use Rattle.float_narrow.proofs.Magnitude.{mag-zero, mag-sub, mag-fin, top-hi, unit-is, unit-pos, unit-le}
use Rattle.float_narrow.proofs.nearest_number.Goals as goal

-- what is delivered is the closest
closest-is : (q k r : ℕ) → r ≡ delivered q (2 ^ k) → r ≡ closest q (2 ^ k)
closest-is q k r e = e ∙ delivered-is q (2 ^ k) (pow_pos k)

pub returns-then-beyond-gt54 : goal.returns-then-beyond-gt54
returns-then-beyond-gt54 c =
    let e = c.args.e in
    let lo : e < 872 = omega arith in
    mag-zero e c.args.t lo c.requires.t_bound_2

pub nearest-requires : goal.nearest-requires
nearest-requires c =
    let e = c.args.e in
    let lo : 872 ≤ e = omega arith in
    record { u_nonzero = unit-pos e lo; u_bound = unit-le e lo; q_bound = omega arith }

pub returns-then-e-lt897 : goal.returns-then-e-lt897
returns-then-e-lt897 c =
    let e = c.args.e in
    let t = c.args.t in
    let lo : 872 ≤ e = omega arith in
    let hi : e < 897 = omega arith in
    let r = closest-is (2 ^ 52 + t) (926 - e) _ (c.nearest.ensures ∙ ap (delivered (2 ^ 52 + t)) (unit-is e lo)) in
    subst (λ (r : ℕ). Magnitude e t r) (sym r) (mag-sub e t lo hi c.requires.t_bound_2)

pub overflow_add-result : goal.overflow_add-result
overflow_add-result c =
    let t = c.args.t in
    omega (arith, top-hi t c.requires.t_bound_2, closest-is (2 ^ 52 + t) 29 _ c.nearest-2.ensures)

pub returns : goal.returns
returns c =
    let e = c.args.e in
    let t = c.args.t in
    let lo : 897 ≤ e = omega arith in
    let p = c.requires in
    subst (λ (r : ℕ). Magnitude e t ((e - 897) * 2 ^ 23 + r)) (sym (closest-is (2 ^ 52 + t) 29 _ c.nearest-2.ensures))
    (mag-fin e t lo p.t_bound_2 p.t_bound)
