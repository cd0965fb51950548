use mathlib.Core.Logic.{inl, inr}
use Rattle.std.proofs.Common.{rules}
use mathlib.Core.Path.{◌≡◌, sym, subst, ◌∙◌}
use mathlib.Core.Bool.{true, not}
use Prim.Native.Nat.{ℕ, ◌*◌, ◌/◌, ◌%◌, ◌≤◌, ◌<◌, ◌^◌}
use native.Mathlib.Omega.{arith}
use lib.Dec.{T}
use lib.Ieee.{Float, nan, binary32, fits, is_nan, of_bits, to_bits}
use lib.Ieee.Bits.{of_bits-to_bits, to_bits-lt}
use Rattle.float_bits.specs.Steps.{significand}
use Rattle.float_root.specs.Root.{sqrt_of}
use Rattle.float_root.specs.Steps.{RootBits}
use Rattle.float_root.proofs.Classify.{self-nan, self-zero, self-minus, self-inf, real-bits, neg_bits, root_is, root-real}
use Rattle.float_bits.proofs.Word.{nan-bits, nan-is, real}
use Rattle.float_root.proofs.sqrt_f32.Goals as goal

abbrev bits : Float → ℕ
bits x = to_bits binary32 x

-- what owning an `f32` tells: the format holds it
module _ (x : Float) (w : fits binary32 x ≡ true) where
  held : T (fits binary32 x)
  held = subst T (sym w) tt

  same : of_bits binary32 (bits x) ≡ x
  same = of_bits-to_bits binary32 x held

  themselves : of_bits binary32 (bits x) ≡ sqrt_of (of_bits binary32 (bits x)) → x ≡ sqrt_of x
  themselves h = subst (λ (v : Float). v ≡ sqrt_of v) same h

  read_real : T (not (is_nan x)) → T (not (is_nan (of_bits binary32 (bits x))))
  read_real h = subst (λ (v : Float). T (not (is_nan v))) (sym same) h

  at-most-inf : T (not (is_nan x)) → bits x < 2 ^ 31 → bits x ≤ 0x7f80_0000
  at-most-inf r l = real-bits (bits x) l (read_real r)

pub returns-then-is_nan : goal.returns-then-is_nan
returns-then-is_nan c = self-nan c.args.x (nan-is c.args.x c.if-is_nan.ensures.value)

pub root_bits-requires-clause-b_bound : goal.root_bits-requires-clause-b_bound
root_bits-requires-clause-b_bound c =
    let m : bits c.args.x ≡ 2 ^ 31 → ⊥ = search rules in
    let i : bits c.args.x ≡ 0x7f80_0000 → ⊥ = search rules in
    let l : bits c.args.x < 2 ^ 31 = omega arith in
    omega (arith, c.from.ensures, at-most-inf c.args.x c.well_formed.0.1 (real c.args.x c.if-is_nan.ensures.value) l)

pub float_from_bits-result : goal.float_from_bits-result
float_from_bits-result c = root-real _ c.root_bits.result c.root_bits.ensures

pub returns-in-0 : goal.returns-in-0
returns-in-0 c =
    let keep = themselves c.args.x c.well_formed.0.1 in
    elim c.in-0.is [
      | inl e ↦ keep (self-zero (bits c.args.x) e)
      | inr r ↦ elim r [ inl e ↦ keep (self-inf (bits c.args.x) e) | inr e ↦ keep (self-minus (bits c.args.x) e) ]
    ]

pub returns-in_default : goal.returns-in_default
returns-in_default c =
    let w : bits c.args.x < 2 ^ 32 = to_bits-lt binary32 c.args.x (held c.args.x c.well_formed.0.1) in
    nan-bits
    ∙ subst (λ (v : Float). nan ≡ sqrt_of v) (same c.args.x c.well_formed.0.1)
    (neg_bits (bits c.args.x) c.if-b-gt2147483648.true w (read_real c.args.x c.well_formed.0.1 (real c.args.x c.if-is_nan.ensures.value)))

pub returns-in_default-2 : goal.returns-in_default-2
returns-in_default-2 c =
    let z : bits c.args.x ≡ 0 → ⊥ = search rules in
    let m : bits c.args.x ≡ 2 ^ 31 → ⊥ = search rules in
    let i : bits c.args.x ≡ 0x7f80_0000 → ⊥ = search rules in
    let l : bits c.args.x < 2 ^ 31 = omega arith in
    let most = at-most-inf c.args.x c.well_formed.0.1 (real c.args.x c.if-is_nan.ensures.value) l in
    subst (λ (v : Float). of_bits binary32 c.root_bits.result ≡ sqrt_of v) (same c.args.x c.well_formed.0.1)
    (root_is (bits c.args.x) c.root_bits.result (omega arith) (omega (arith, most))
    (subst (λ (b : ℕ). RootBits (significand binary32 (b / 2 ^ 23) (b % 2 ^ 23) * 2 ^ 149) c.root_bits.result) c.from.ensures c.root_bits.ensures))
