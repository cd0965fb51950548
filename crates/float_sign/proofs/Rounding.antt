-- Rounding to a format carries the sign through, and leaves a value that the format holds as it is.
use mathlib.Core.Path.{◌≡◌, refl, sym, ap, ◌∙◌, subst}
use mathlib.Core.Bool.{Bool, true, false, not, cond}
use Prim.Native.Nat.{ℕ, zero, suc, ◌+◌, ◌*◌, ◌^◌, ◌≤◌, ◌<◌}
use native.Mathlib.Nat.{le_of_eq, lt_of_lt_of_le, zero-mul}
use native.Mathlib.Nat.{mul_comm, mul_right_comm, mul-lt-mul_of_pos_right}
use native.Mathlib.Nat.{lt_of_mul-lt-mul_right}
use lib.IntN.{ℤ, pos}
use lib.Dec.{T, ltb}
use lib.Pow.{pow-add, pow_pos}
use lib.Ieee.{inf, fin, Format, prec, emax, low, up, down, odd, units, round, neg, fits}
use lib.Ieee.Fits.{round_is, round-fits, down_pos}
use lib.Ieee.Exact.{round_exact}
use lib.Ieee.Scale.{round_same}
use Rattle.float_bits.proofs.Values.{Parts, parts, places, same-value}

-- ---- the sign goes through

odd-not : (d : ℕ) (s : Bool) (q k l : ℕ) → odd d (not s) q k l ≡ neg (odd d s q k l)
unfolding odd neg
odd-not d s zero k l = refl
odd-not d s (suc q) k l = refl

units-not : (f : Format) (s : Bool) (q k : ℕ) → units f (not s) q k ≡ neg (units f s q k)
unfolding units neg
units-not f s q k = go (ltb (q * 2 ^ k) (2 ^ (low f + suc (emax f))))
  where
    go : (b : Bool) → cond b (odd (suc (prec f)) (not s) q k (low f)) (inf (not s)) ≡ neg (cond b (odd (suc (prec f)) s q k (low f)) (inf s))
    go true = odd-not (suc (prec f)) s q k (low f)
    go false = refl

-- the magnitude is rounded by itself, so the other sign gives the other sign
pub round-not : (f : Format) (s : Bool) (a c : ℕ) → round f (not s) a c ≡ neg (round f s a c)
round-not f s a c = round_is f (not s) a c ∙ units-not f s _ _ ∙ ap neg (sym (round_is f s a c))

-- a value that fits is a whole number of the format's smallest values
pub fits-fine : (f : Format) (s : Bool) (m : ℕ) (e : ℤ) → T (fits f (fin s m e)) → down e ≤ 2 ^ low f
fits-fine f s m e t = (parts f s m e t).fine

-- ---- a value that fits is not changed

round-own : (f : Format) (s : Bool) (m : ℕ) (e : ℤ) → T (fits f (fin s m e)) → round f s (m * up e) (down e) ≡ fin s m e
round-own f s m e t =
    let p : Parts f m e = parts f s m e t in
    let (j, u) = places m e (low f) p.fine in
    let w : m * 2 ^ j * down e < 2 ^ (low f + suc (emax f)) * down e =
    subst (λ (x : ℕ). x < 2 ^ (low f + suc (emax f)) * down e) u
    (lt_of_lt_of_le (mul-lt-mul_of_pos_right p.small (pow_pos (low f)))
    (le_of_eq (mul_right_comm (2 ^ suc (emax f)) (down e) (2 ^ low f)
    ∙ ap (λ (x : ℕ). x * down e) (mul_comm (2 ^ suc (emax f)) (2 ^ low f) ∙ sym (pow-add 2 (low f) (suc (emax f))))))) in
    same-value f (round f s (m * up e) (down e)) (fin s m e) s (m * up e) (down e) (down_pos e) (round-fits f s (m * up e) (down e)) t
    (round_exact f s (m * up e) (down e) m j (down_pos e) p.few (lt_of_mul-lt-mul_right (down e) w) u)
    (refl, refl)

-- the same, for the fraction a / c that it is
pub round-value : (f : Format) (s : Bool) (m : ℕ) (e : ℤ) (a c : ℕ) → 0 < c → T (fits f (fin s m e))
    → a * down e ≡ m * up e * c → round f s a c ≡ fin s m e
round-value f s m e a c C t h = round_same f s a c (m * up e) (down e) C (down_pos e) h ∙ round-own f s m e t

-- nothing is a zero of the sign
pub round-zero : (f : Format) (s : Bool) (c : ℕ) → 0 < c → round f s 0 c ≡ fin s 0 (pos 0)
unfolding fits
round-zero f s c C = round-value f s 0 (pos 0) 0 c C tt (sym (zero-mul c))
