-- The kit's rounding to binary32, where the digits that it drops are known. Assumes nothing.
use mathlib.Core.Path.{◌≡◌, refl, sym, ap, ◌∙◌, subst}
use Prim.Native.Nat.{ℕ, suc, ◌+◌, ◌-◌, ◌*◌, ◌/◌, ◌^◌, ◌≤◌, ◌<◌}
use native.Mathlib.Nat.{mul_assoc, mul-pos, mul-le-mul_right, le_trans, le_of_eq, le-div_iff_mul-le}
use mathlib.Core.Bool.{Bool, true, false, not, cond}
use lib.Dec.{T, ltb, lt→ltb}
use lib.Arith.{le→nltb}
use lib.Pow.{pow-add, pow_pos, shl_lt, shr_lt}
use lib.Ieee.{Float, nan, inf, fin, binary32, up, down, size, odd, units, round}
use lib.Ieee.Fits.{round_is, down_pos}
use lib.Ieee.Exact.{HasValue}
use lib.Ieee.Scale.{round_same}
use lib.Ieee.Nearest.{closest, closest_same}
use Rattle.float_bits.proofs.Laws.{size_exact}
use Rattle.float_narrow.specs.Narrow.{narrow}

-- ---- sizes
pub regroup-two : (q x b k sh : ℕ) → x + sh ≡ b + k → q * 2 ^ x * 2 ^ sh ≡ q * (2 ^ b * 2 ^ k)
regroup-two q x b k sh e = mul_assoc q (2 ^ x) (2 ^ sh) ∙ ap (λ (z : ℕ). q * z) (sym (pow-add 2 x sh) ∙ ap (λ (z : ℕ). 2 ^ z) e ∙ pow-add 2 b k)

pub regroup : (q x a b k sh : ℕ) → x + a + sh ≡ b + k → q * 2 ^ x * 2 ^ a * 2 ^ sh ≡ q * (2 ^ b * 2 ^ k)
regroup q x a b k sh e =
    ap (λ (z : ℕ). z * 2 ^ sh) (mul_assoc q (2 ^ x) (2 ^ a) ∙ ap (λ (z : ℕ). q * z) (sym (pow-add 2 x a)))
    ∙ regroup-two q (x + a) b k sh e

-- q of p + 1 digits, times 2 ^ (x + a - b), has j + 1
pub size-at : (q x a b p j : ℕ) → 2 ^ p ≤ q → q < 2 ^ suc p → p + x + a ≡ j + b → suc p + x + a ≡ suc j + b → size (q * 2 ^ x * 2 ^ a / 2 ^ b) ≡ suc j
size-at q x a b p j lo hi e f =
    size_exact j (q * 2 ^ x * 2 ^ a / 2 ^ b)
    ((le-div_iff_mul-le (pow_pos b)).1
    (le_trans (le_of_eq (sym (pow-add 2 j b) ∙ ap (λ (z : ℕ). 2 ^ z) (sym e) ∙ pow-add 2 (p + x) a ∙ ap (λ (z : ℕ). z * 2 ^ a) (pow-add 2 p x)))
    (mul-le-mul_right (2 ^ a) (mul-le-mul_right (2 ^ x) lo))))
    (shr_lt (suc j) b (subst (λ (z : ℕ). q * 2 ^ x * 2 ^ a < 2 ^ z) f (shl_lt (suc p + x) a (shl_lt (suc p) x hi))))

-- ---- round, where the dropped digits k are known
pub round-at : (s : Bool) (v k q u : ℕ) → 0 < u → size (v * 2 ^ 149 / 2 ^ 1074) - 24 ≡ k → v * 2 ^ 149 * u ≡ q * (2 ^ 1074 * 2 ^ k)
    → round binary32 s v (2 ^ 1074) ≡ units binary32 s (closest q u) k
round-at s v k q u U e h =
    round_is binary32 s v (2 ^ 1074)
    ∙ ap (λ (z : ℕ). units binary32 s (closest (v * 2 ^ 149) (2 ^ 1074 * 2 ^ z)) z) e
    ∙ ap (λ (z : ℕ). units binary32 s z k) (closest_same (v * 2 ^ 149) (2 ^ 1074 * 2 ^ k) q u (mul-pos (pow_pos 1074) (pow_pos k)) U h)

pub units-inf : (s : Bool) (q k : ℕ) → 2 ^ 277 ≤ q * 2 ^ k → units binary32 s q k ≡ inf s
unfolding units
units-inf s q k h = go (ltb (q * 2 ^ k) (2 ^ 277)) (le→nltb (q * 2 ^ k) (2 ^ 277) h)
  where
    go : (b : Bool) → T (not b) → cond b (odd 25 s q k 149) (inf s) ≡ inf s
    go true t = absurd t
    go false t = refl

pub units-fin : (s : Bool) (q k : ℕ) → q * 2 ^ k < 2 ^ 277 → units binary32 s q k ≡ odd 25 s q k 149
unfolding units
units-fin s q k h = go (ltb (q * 2 ^ k) (2 ^ 277)) (lt→ltb (q * 2 ^ k) (2 ^ 277) h)
  where
    go : (b : Bool) → T b → cond b (odd 25 s q k 149) (inf s) ≡ odd 25 s q k 149
    go true t = refl
    go false t = absurd t

-- ---- narrow, of a fraction
pub narrow_at : (x : Float) (s : Bool) (a c : ℕ) → 0 < c → HasValue x s a c → narrow x ≡ round binary32 s a c
unfolding narrow
narrow_at nan s a c C h = absurd h
narrow_at (inf t) s a c C h = absurd h
narrow_at (fin t m e) s a c C h =
    ap (λ (z : Bool). round binary32 z (m * up e) (down e)) h.0 ∙ round_same binary32 s (m * up e) (down e) a c (down_pos e) C h.1
