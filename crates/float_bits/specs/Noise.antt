-- The noise values' ends: no word gives less than -2,048 or more than 2,047, both are reached, and each value is exact as an f32.
use Rattle.std.specs.Prelude.{◌≡◌, ℕ, suc, ◌-◌, ◌^◌, ◌<◌, ◌≤◌, Bool, true, false, not, T, nat_lt, refl}
use Rattle.std.specs.Prelude.{ℤ, pos, negsuc, neg_ℤ, ◌≤ℤ◌, unsigned_abs}
use Rattle.std.proofs.Common.{sym, ap, ◌∙◌, subst, arith, le→leb, lt→ltb, lt-ltb, le-ltb, ltb-true, ltb-false}
use Rattle.std.specs.Int.Signed.{mag, shr_z, non_neg, le_z_yes}
use Rattle.std.specs.Float.{binary32}
use Rattle.std.specs.Float.Ieee.{of_int, in_float}
use Rattle.std.specs.Float.Ieee.Exact.{HasValue}
use Rattle.std.specs.Float.Ieee.Back.{round_whole}
use Rattle.loops.specs.Pick.{pick_true, pick-false}
use Rattle.float_bits.specs.Words.{signed, noise_step, noise_value}

-- ---- the signed reading of the lower and of the upper half
pub signed_low : (w : ℕ) → w < 2 ^ 31 → signed w ≡ pos w
unfolding signed
signed_low w h = pick_true (nat_lt w (2 ^ 31)) (pos w) _ (lt-ltb w (2 ^ 31) h)

pub signed_high : (w : ℕ) → 2 ^ 31 ≤ w → w < 2 ^ 32 → signed w ≡ negsuc (2 ^ 32 - 1 - w)
unfolding signed
signed_high w h l =
    let e : 2 ^ 32 - w ≡ suc (2 ^ 32 - 1 - w) = omega arith in
    pick-false (nat_lt w (2 ^ 31)) (pos w) _ (le-ltb w (2 ^ 31) h) ∙ ap (λ (z : ℕ). neg_ℤ (pos z)) e

pub signed-mag : (w : ℕ) → w < 2 ^ 32 → mag (signed w) < 2 ^ 31
signed-mag w l = go (nat_lt w (2 ^ 31)) refl
  where
    go : (b : Bool) → nat_lt w (2 ^ 31) ≡ b → mag (signed w) < 2 ^ 31
    go true e = let h : w < 2 ^ 31 = ltb-true w (2 ^ 31) e in subst (λ (z : ℤ). mag z < 2 ^ 31) (sym (signed_low w h)) h
    go false e =
        let h : 2 ^ 31 ≤ w = ltb-false w (2 ^ 31) e in
        subst (λ (z : ℤ). mag z < 2 ^ 31) (sym (signed_high w h l)) (omega arith)

-- ---- after the shift
shift-mag : (z : ℤ) → mag z < 2 ^ 31 → mag (shr_z z (2 ^ 20)) < 2048
shift-mag (pos n) h = omega arith
shift-mag (negsuc n) h = omega arith

pub noise_mag : (w : ℕ) → w < 2 ^ 32 → mag (noise_step w) < 2048
unfolding noise_step
noise_mag w l = shift-mag (signed w) (signed-mag w l)

pub noise_ends : (w : ℕ) → w < 2 ^ 32 → (negsuc 2047 ≤ℤ noise_step w) × (noise_step w ≤ℤ pos 2047)
noise_ends w l = go (noise_step w) (noise_mag w l)
  where
    go : (z : ℤ) → mag z < 2048 → (negsuc 2047 ≤ℤ z) × (z ≤ℤ pos 2047)
    go (pos n) h = (le_z_yes tt, le_z_yes (le→leb n 2047 (omega arith)))
    go (negsuc n) h = (le_z_yes (le→leb n 2047 (omega arith)), le_z_yes tt)

pub noise_reached : (noise_step 0x8000_0000 ≡ negsuc 2047) × (noise_step 0x7fff_ffff ≡ pos 2047)
unfolding noise_step signed
noise_reached = (refl, refl)

-- ---- as an f32
pub noise_held : (w : ℕ) → w < 2 ^ 32 → T (in_float binary32 (noise_step w))
unfolding in_float
noise_held w l = go (noise_step w) (noise_mag w l)
  where
    go : (z : ℤ) → mag z < 2048 → T (in_float binary32 z)
    go (pos n) h = le→leb n (2 ^ 24) (omega arith)
    go (negsuc n) h = lt→ltb n (2 ^ 24) (omega arith)

pub noise_exact : (w : ℕ) → w < 2 ^ 32 → HasValue (noise_value w) (not (non_neg (noise_step w))) (unsigned_abs (noise_step w)) 1
unfolding noise_value of_int
noise_exact w l = go (noise_step w) (noise_mag w l)
  where
    go : (z : ℤ) → mag z < 2048 → HasValue (of_int binary32 z) (not (non_neg z)) (unsigned_abs z) 1
    go (pos n) h = round_whole binary32 false n (omega arith)
    go (negsuc n) h = round_whole binary32 true (suc n) (omega arith)
