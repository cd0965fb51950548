-- Words read as signed numbers, and what is no number. Assumes nothing.
use Rattle.std.proofs.Common.{◌≡◌, ℕ, suc, ◌-◌, ◌^◌, ◌<◌, ◌≤◌, Bool, true, false, not, T, ltb, ℤ, w32, to_z, of_z}
use Rattle.std.proofs.Common.{true≢false, sym, refl, ap, ◌∙◌, subst, arith, lt_of_le_of_lt}
use Rattle.std.proofs.Common.{to_z-of_z, ltb-true, ltb-false}
use lib.Signed.{shr_z, mag_shr}
use lib.Ieee.{Float, nan, inf, fin, binary32, is_nan, of_bits}
use mir.Facts.{to_z_pos, to_z-neg}
use Rattle.float_bits.specs.Words.{signed}
use Rattle.float_bits.specs.Noise.{signed-mag, signed_low, signed_high}

-- ---- the signed reading
-- the machine's is the same
pub signed_is : (w : ℕ) → w < 2 ^ 32 → to_z w32 w ≡ signed w
signed_is w l = go (ltb w (2 ^ 31)) refl
  where
    go : (b : Bool) → ltb w (2 ^ 31) ≡ b → to_z w32 w ≡ signed w
    go true e = let h : w < 2 ^ 31 = ltb-true w (2 ^ 31) e in to_z_pos w32 h ∙ sym (signed_low w h)
    go false e =
        let h : 2 ^ 31 ≤ w = ltb-false w (2 ^ 31) e in
        let k : 2 ^ 32 - 1 - w < 2 ^ 31 = omega arith in
        let n : w ≡ 2 ^ 32 - suc (2 ^ 32 - 1 - w) = omega arith in
        ap (to_z w32) n ∙ to_z-neg w32 (2 ^ 32 - 1 - w) k ∙ sym (signed_high w h l)

-- the machine's shift of what it holds, by n = 2 ^ k
module _ (w n : ℕ) (z : ℤ) (l : w < 2 ^ 32) (e : z ≡ signed w) where
  pub shifted : to_z w32 (of_z w32 (shr_z (to_z w32 (of_z w32 z)) n)) ≡ shr_z (signed w) n
  shifted =
      ap (λ (v : ℤ). to_z w32 (of_z w32 (shr_z (to_z w32 (of_z w32 v)) n))) e
      ∙ ap (λ (v : ℤ). to_z w32 (of_z w32 (shr_z v n))) (to_z-of_z {w = w32} {z = signed w} (record { sfits = signed-mag w l }))
      ∙ to_z-of_z {w = w32} {z = shr_z (signed w) n} (record { sfits = lt_of_le_of_lt (mag_shr (signed w) n) (signed-mag w l) })

-- ---- no number
pub nan-bits : of_bits binary32 0x7fc0_0000 ≡ nan
unfolding of_bits
nan-bits = refl

-- what `is_nan` answers
pub nan-is : (x : Float) → true ≡ is_nan x → x ≡ nan
unfolding is_nan
nan-is nan e = refl
nan-is (inf s) e = absurd (true≢false e)
nan-is (fin s m d) e = absurd (true≢false e)

pub real : (x : Float) → false ≡ is_nan x → T (not (is_nan x))
real x e = subst (λ (b : Bool). T (not b)) e tt
