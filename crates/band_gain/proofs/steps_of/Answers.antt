use Rattle.std.proofs.Common.{◌≡◌, ap, ap₂, ◌∙◌, sym, subst, rules, pos, ◌+ℤ◌, w64, to_z, of_z, FitsSigned, arith}
use Rattle.std.proofs.Math.Facts.{to_z-of_z, of_z-to_z}
use mir.ValLaws.{to_z_pos}
use lib.Dec.{T}
use lib.Ieee.{Float, binary32, binary64, fits}
use Rattle.std.specs.Float.{floor}
use Rattle.band_gain.specs.Gain.{steps, GainRange}
use Rattle.band_gain.proofs.Floor.{product, fine}
use Rattle.band_gain.proofs.Limits.{Floored, floored, cut-lower, cut-upper, total}
use Rattle.band_gain.proofs.steps_of.Goals.{After-floor, After-truncating_f64_to_i64}
use Rattle.band_gain.proofs.steps_of.Goals as goal

floor-of : {x w y : Float} → y ≡ floor binary64 (product w) → w ≡ x → GainRange x → T (fits binary32 x) → Floored y (steps x)
floor-of {x} h e g t = subst (λ z. Floored z (steps x)) (sym h) (subst (λ z. Floored (floor binary64 (product z)) (steps x)) (sym e) (floored _ _ (fine x t g)))

found : (c : After-floor) → Floored c.floor.result (steps c.args.x)
found c = floor-of c.floor.ensures c.f32_to_f64-w.ensures c.requires.gain_range c.requires.t

pub truncating_f64_to_i64-requires : goal.truncating_f64_to_i64-requires
truncating_f64_to_i64-requires c =
    let f = found (goal.at.truncating_f64_to_i64-requires c).After-floor in
    record { lower_bound = cut-lower _ f.few f.s _ f.value; upper_bound = cut-upper _ f.few f.s _ f.value }

-- the sum, whose parts fit
found-in : (c : After-truncating_f64_to_i64) → Floored c.floor.result (steps c.args.x)
found-in c = found (goal.at.After-truncating_f64_to_i64 c).After-floor

sum-is : (c : After-truncating_f64_to_i64)
    → to_z w64 (of_z w64 c.cast_signed.result) +ℤ to_z w64 (of_z w64 c.truncating_f64_to_i64.result) ≡ pos (steps c.args.x)
sum-is c =
    let f = found-in c in
    ap₂ ◌+ℤ◌ (to_z-of_z {w = w64} (search rules) ∙ c.cast_signed.ensures) (to_z-of_z {w = w64} (search rules) ∙ c.truncating_f64_to_i64.ensures)
    ∙ total _ _ _ f.few f.value ∙ ap pos f.is

sum-fits : (c : After-truncating_f64_to_i64)
    → FitsSigned w64 (to_z w64 (of_z w64 c.cast_signed.result) +ℤ to_z w64 (of_z w64 c.truncating_f64_to_i64.result))
sum-fits c = let f = found-in c in subst (FitsSigned w64) (sym (sum-is c)) (record { sfits = omega (arith, f.most) })

pub overflow_add-cast_signed : goal.overflow_add-cast_signed
overflow_add-cast_signed c = sum-fits (goal.at.overflow_add-cast_signed c).After-truncating_f64_to_i64

pub returns : goal.returns
returns c =
    let a = (goal.at.returns c).After-truncating_f64_to_i64 in
    let f = found-in a in
    let q = steps c.args.x in
    let e = c.cast_unsigned.ensures ∙ ap (of_z w64) (to_z-of_z {w = w64} (sum-fits a) ∙ sum-is a ∙ sym (to_z_pos w64 q (omega (arith, f.most))))
    ∙ of_z-to_z {w = w64} {n = q} (record { fits = omega (arith, f.most) }) in
    (e, omega (arith, e, f.most))
