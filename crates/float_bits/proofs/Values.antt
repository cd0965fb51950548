-- What a value that a format holds is made of, and that it has one bit pattern. Assumes nothing.
use mathlib.Core.Path.{◌≡◌, sym, ap, ◌∙◌, subst}
use mathlib.Core.Bool.{Bool, ◌&&◌}
use Prim.Native.Nat.{ℕ, zero, suc, ◌+◌, ◌-◌, ◌*◌, ◌%◌, ◌^◌, ◌≤◌, ◌<◌}
use native.Mathlib.Nat.{le_trans, le_of_eq, zero-mul, one-mul, mul-one, mul_assoc, mul-pos, mul-le-mul_right, sub-add_cancel}
use lib.IntN.{ℤ, pos, negsuc}
use lib.Dec.{T, leb, ltb, eqb, ltb→lt, leb→le, eqb→eq}
use lib.Pow.{pow-add, pow_pos}
use lib.Ieee.{Float, fin, Format, prec, emax, low, up, down, fits, of_bits}
use lib.Ieee.Fits.{and_l, and_r, up_pos, down_pos}
use lib.Ieee.Exact.{HasValue}
use lib.Ieee.Bits.{of_bits-to_bits}
use Rattle.float_bits.proofs.Laws.{pow_le_back, bits_of}

pub record Parts (f : Format) (m : ℕ) (e : ℤ) : Type 0 where
  pub few : m < 2 ^ prec f
  pub fine : down e ≤ 2 ^ low f
  pub small : m * up e < 2 ^ suc (emax f) * down e

pub parts : (f : Format) (s : Bool) (m : ℕ) (e : ℤ) → T (fits f (fin s m e)) → Parts f m e
unfolding fits
parts f s zero e t =
    let one : up e * down e ≡ 1 = eqb→eq (up e * down e) 1 t in
    record {
      few = pow_pos (prec f);
      fine = le_trans (le_trans (le_of_eq (sym (one-mul (down e)))) (le_trans (mul-le-mul_right (down e) (up_pos e)) (le_of_eq one))) (pow_pos (low f));
      small = subst (λ (x : ℕ). x < 2 ^ suc (emax f) * down e) (sym (zero-mul (up e))) (mul-pos (pow_pos (suc (emax f))) (down_pos e));
    }
parts f s (suc m) e t =
    let a : Bool = eqb (suc m % 2) 1 in
    let b : Bool = ltb (suc m) (2 ^ prec f) in
    let c : Bool = leb (down e) (2 ^ low f) in
    let d : Bool = ltb (suc m * up e) (2 ^ suc (emax f) * down e) in
    record {
      few = ltb→lt (suc m) (2 ^ prec f) (and_r a b (and_l (a && b) c (and_l (a && b && c) d t)));
      fine = leb→le (down e) (2 ^ low f) (and_r (a && b) c (and_l (a && b && c) d t));
      small = ltb→lt (suc m * up e) (2 ^ suc (emax f) * down e) (and_r (a && b && c) d t);
    }

-- a value that fits is a whole number of the format's smallest values: 2 ^ j times its digits
pub places : (m : ℕ) (e : ℤ) (l : ℕ) → down e ≤ 2 ^ l → (j : ℕ) × (m * up e * 2 ^ l ≡ m * 2 ^ j * down e)
places m e l h = let (j, p) = above e h in (j, mul_assoc m (up e) (2 ^ l) ∙ ap (λ (x : ℕ). m * x) p ∙ sym (mul_assoc m (2 ^ j) (down e)))
  where
    above : (e : ℤ) → down e ≤ 2 ^ l → (j : ℕ) × (up e * 2 ^ l ≡ 2 ^ j * down e)
    above (pos k) h = (k + l, sym (pow-add 2 k l) ∙ sym (mul-one (2 ^ (k + l))))
    above (negsuc k) h =
        let le : suc k ≤ l = pow_le_back (suc k) l h in
        (l - suc k, one-mul (2 ^ l) ∙ ap (λ (x : ℕ). 2 ^ x) (sym (sub-add_cancel le)) ∙ pow-add 2 (l - suc k) (suc k))

-- ---- two values that fit are the same float where they are the same number: they have the same bits
pub same-value : (f : Format) (x y : Float) (s : Bool) (a c : ℕ) → 0 < c → T (fits f x) → T (fits f y) → HasValue x s a c → HasValue y s a c → x ≡ y
same-value f x y s a c C X Y v w =
    sym (of_bits-to_bits f x X) ∙ ap (of_bits f) (bits_of f x s a c C v ∙ sym (bits_of f y s a c C w)) ∙ of_bits-to_bits f y Y
