use mathlib.Core.Path.{ap, ◌∙◌, subst}
use Prim.Native.Nat.{ℕ, ◌+◌, ◌/◌, ◌%◌, ◌^◌, ◌<◌}
use native.Mathlib.Omega.{arith}
use Rattle.float_narrow.specs.Steps.{Magnitude}
use Rattle.float_narrow.proofs.Decode.{bits-fin, bits-inf, below-ones, digits_are}
use Rattle.float_narrow.proofs.narrow_bits.Goals as goal

pub returns-then-precise-ge5183643170835005440 : goal.returns-then-precise-ge5183643170835005440
returns-then-precise-ge5183643170835005440 c =
    let b = c.args.b in
    let w : b < 2 ^ 64 = omega arith in
    ap (λ (z : ℕ). z + 0x7f80_0000) c.sign_bit-sign.ensures ∙ bits-inf b w c.if-precise-ge5183643170835005440.true c.requires

pub returns : goal.returns
returns c =
    let b = c.args.b in
    let r = c.nearest_number.result in
    let w : b < 2 ^ 64 = omega arith in
    ap (λ (z : ℕ). z + r) c.sign_bit-sign.ensures
    ∙ bits-fin b r w (below-ones (b % 2 ^ 63) c.if-precise-ge5183643170835005440.false)
    (subst (λ (t : ℕ). Magnitude (b % 2 ^ 63 / 2 ^ 52) t r) (digits_are b) c.nearest_number.ensures)
