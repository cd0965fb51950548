use mathlib.Core.Path.{◌≡◌, sym, ap, ◌∙◌, subst}
use mathlib.Core.Bool.{Bool, true, not}
use Prim.Native.Nat.{ℕ}
use lib.Dec.{T}
use lib.Ieee.{Float, binary32, binary64, is_nan, fits, of_bits, to_bits}
use lib.Ieee.Bits.{of_bits-to_bits, nan_bits_is}
use Rattle.float_narrow.specs.Narrow.{narrow}
use Rattle.float_narrow.specs.Clause.{clause}
use Rattle.float_bits.proofs.Word.{real, nan-is, nan-bits}
use Rattle.float_narrow.proofs.Clause.{clause-narrow}
use Rattle.float_narrow.proofs.Decode.{narrow-fits, narrow-real}
use Rattle.float_narrow.proofs.f64_to_f32.Goals as goal

-- the bits of `clause` are those of `narrow`
module _ (x : Float) (w : fits binary64 x ≡ true) where
  held : T (fits binary64 x)
  held = subst T (sym w) tt

  same : of_bits binary64 (to_bits binary64 x) ≡ x
  same = of_bits-to_bits binary64 x held

  result : (r : ℕ) → r ≡ to_bits binary32 (clause (of_bits binary64 (to_bits binary64 x))) → of_bits binary32 r ≡ narrow x
  result r e =
      ap (of_bits binary32) (e ∙ ap (λ (v : Float). to_bits binary32 (clause v)) same ∙ ap (to_bits binary32) (clause-narrow x held))
      ∙ of_bits-to_bits binary32 (narrow x) (narrow-fits x)

pub returns-then-is_nan : goal.returns-then-is_nan
unfolding narrow
returns-then-is_nan c = nan-bits ∙ sym (ap narrow (nan-is c.args.x c.if-is_nan.ensures.value))

pub narrow_bits-requires : goal.narrow_bits-requires
narrow_bits-requires c =
    subst (λ (v : Float). T (not (is_nan v))) (sym (same c.args.x c.well_formed.0.1)) (real c.args.x c.if-is_nan.ensures.value)

pub float_from_bits-result : goal.float_from_bits-result
float_from_bits-result c =
    let x = c.args.x in
    subst (λ (b : Bool). T (not b)) (sym (nan_bits_is binary32 c.narrow_bits.result))
    (subst (λ (v : Float). T (not (is_nan v))) (sym (result x c.well_formed.0.1 c.narrow_bits.result c.narrow_bits.ensures))
    (narrow-real x (real x c.if-is_nan.ensures.value)))

pub returns : goal.returns
returns c = result c.args.x c.well_formed.0.1 c.narrow_bits.result c.narrow_bits.ensures
