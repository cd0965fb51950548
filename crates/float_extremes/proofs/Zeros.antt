-- Which of two equal values `min_of` and `max_of` take shows only at two zeros of unlike sign, and no step meets those:
-- see `Settled`. Assumes nothing.
use mathlib.Core.Path.{◌≡◌, refl, sym, ap, ◌∙◌, subst}
use Prim.Native.Nat.{ℕ, zero, suc, ◌+◌, ◌-◌, ◌*◌, ◌/◌, ◌^◌, ◌<◌}
use native.Mathlib.Nat.{add_comm, le-add_left, le-add_right, mul_right_comm, mul-pos, le_of_lt, lt_of_lt_of_le, zero-lt-suc}
use native.Mathlib.Omega.{arith}
use mathlib.Core.Bool.{Bool, true, false, not, ◌&&◌, cond, true≢false}
use lib.IntN.{ℤ}
use lib.Dec.{T, ltb, eqb}
use lib.Ieee.{Float, nan, inf, fin, binary32, up, down, lt, is_nan, fits, of_bits, to_bits, size}
use lib.Ieee.Fits.{down_pos, up_pos}
use lib.Ieee.Bits.{of_bits-to_bits}
use lib.Ieee.Nearest.{div_same}
use borrow.Author.Tests.{ltb-true, ltb-false, lt-ltb, le-ltb}
use Rattle.loops.specs.Pick.{pick_true, pick-false}
use Rattle.float_extremes.specs.Extremes.{min_of, max_of}

-- a zero of either sign
abbrev pub is_zero : Float → Bool
is_zero nan = false
is_zero (inf s) = false
is_zero (fin s m e) = eqb m 0

-- ---- a value is written in one way: of any format this is float_bits' `same-value`, but this crate stands beside that, and not above
same_bits : (s : Bool) (m n : ℕ) (e d : ℤ) → m * up e * down d ≡ n * up d * down e → to_bits binary32 (fin s m e) ≡ to_bits binary32 (fin s n d)
unfolding to_bits
same_bits s m n e d h =
    ap (λ (q : ℕ). cond s (2 ^ 31) 0 + (size q - 24) * 2 ^ 23 + q / 2 ^ (size q - 24))
    (div_same (m * up e * 2 ^ 149) (down e) (n * up d * 2 ^ 149) (down d) (down_pos e) (down_pos d)
    (mul_right_comm (m * up e) (2 ^ 149) (down d) ∙ ap (λ (z : ℕ). z * 2 ^ 149) h ∙ mul_right_comm (n * up d) (down e) (2 ^ 149)))

same-value : (s : Bool) (m n : ℕ) (e d : ℤ) → T (fits binary32 (fin s m e)) → T (fits binary32 (fin s n d))
    → m * up e * down d ≡ n * up d * down e → fin s m e ≡ fin s n d
same-value s m n e d f g h =
    sym (of_bits-to_bits binary32 (fin s m e) f) ∙ ap (of_bits binary32) (same_bits s m n e d h) ∙ of_bits-to_bits binary32 (fin s n d) g

-- ---- two values that are no NaN
pub data Order (x y : Float) : Type 0 where
  less : lt x y ≡ true → lt y x ≡ false → Order x y
  more : lt y x ≡ true → lt x y ≡ false → Order x y
  same : x ≡ y → Order x y

-- not both are zero
abbrev pub Apart : Float → Float → Type 0
Apart x y = T (not (is_zero x && is_zero y))

sizes : (a b : ℕ) (P : Type 0) → (a < b → P) → (b < a → P) → (a ≡ b → P) → P
sizes a b P l m e = go (ltb a b) refl (ltb b a) refl
  where
    level : ltb a b ≡ false → ltb b a ≡ false → a ≡ b
    level p q = omega (arith, ltb-false a b p, ltb-false b a q)

    go : (p : Bool) → ltb a b ≡ p → (q : Bool) → ltb b a ≡ q → P
    go true p q r = l (ltb-true a b p)
    go false p true r = m (ltb-true b a r)
    go false p false r = e (level p r)

some_size : (m n u v w z : ℕ) → 0 < u → 0 < v → 0 < w → 0 < z → T (not (eqb m 0 && eqb n 0)) → 0 < m * u * w + n * v * z
some_size zero zero u v w z A B C D h = absurd h
some_size zero (suc n) u v w z A B C D h = lt_of_lt_of_le (mul-pos (mul-pos (zero-lt-suc n) B) D) (le-add_left (suc n * v * z) (zero * u * w))
some_size (suc m) n u v w z A B C D h = lt_of_lt_of_le (mul-pos (mul-pos (zero-lt-suc m) A) C) (le-add_right (suc m * u * w) (n * v * z))

order-fin : (s t : Bool) (m n : ℕ) (e d : ℤ) → T (fits binary32 (fin s m e)) → T (fits binary32 (fin t n d))
    → Apart (fin s m e) (fin t n d) → Order (fin s m e) (fin t n d)
unfolding lt
order-fin false false m n e d f g p =
    sizes (m * up e * down d) (n * up d * down e) (Order (fin false m e) (fin false n d))
    (λ h. less (lt-ltb (m * up e * down d) (n * up d * down e) h) (le-ltb (n * up d * down e) (m * up e * down d) (le_of_lt h)))
    (λ h. more (lt-ltb (n * up d * down e) (m * up e * down d) h) (le-ltb (m * up e * down d) (n * up d * down e) (le_of_lt h)))
    (λ h. same (same-value false m n e d f g h))
order-fin true true m n e d f g p =
    sizes (m * up e * down d) (n * up d * down e) (Order (fin true m e) (fin true n d))
    (λ h. more (lt-ltb (m * up e * down d) (n * up d * down e) h) (le-ltb (n * up d * down e) (m * up e * down d) (le_of_lt h)))
    (λ h. less (lt-ltb (n * up d * down e) (m * up e * down d) h) (le-ltb (m * up e * down d) (n * up d * down e) (le_of_lt h)))
    (λ h. same (same-value true m n e d f g h))
order-fin false true m n e d f g p =
    let z = some_size m n (up e) (up d) (down d) (down e) (up_pos e) (up_pos d) (down_pos d) (down_pos e) p in
    more (lt-ltb 0 (n * up d * down e + m * up e * down d) (subst (λ (v : ℕ). 0 < v) (add_comm (m * up e * down d) (n * up d * down e)) z)) refl
order-fin true false m n e d f g p =
    let z = some_size m n (up e) (up d) (down d) (down e) (up_pos e) (up_pos d) (down_pos d) (down_pos e) p in
    less (lt-ltb 0 (m * up e * down d + n * up d * down e) z) refl

order : (x y : Float) → is_nan x ≡ false → is_nan y ≡ false → T (fits binary32 x) → T (fits binary32 y) → Apart x y → Order x y
unfolding lt is_nan
order nan y a b f g p = absurd (true≢false a)
order (inf s) nan a b f g p = absurd (true≢false b)
order (fin s m e) nan a b f g p = absurd (true≢false b)
order (inf false) (inf false) a b f g p = same refl
order (inf false) (inf true) a b f g p = more refl refl
order (inf true) (inf false) a b f g p = less refl refl
order (inf true) (inf true) a b f g p = same refl
order (inf false) (fin t n d) a b f g p = more refl refl
order (inf true) (fin t n d) a b f g p = less refl refl
order (fin s m e) (inf false) a b f g p = less refl refl
order (fin s m e) (inf true) a b f g p = more refl refl
order (fin s m e) (fin t n d) a b f g p = order-fin s t m n e d f g p

-- ---- so it does not show which is taken
least : (x y : Float) → Order x y → cond (lt y x) y x ≡ cond (lt x y) x y
least x y (less h k) = pick-false (lt y x) y x k ∙ sym (pick_true (lt x y) x y h)
least x y (more h k) = pick_true (lt y x) y x h ∙ sym (pick-false (lt x y) x y k)
least x y (same e) = subst (λ (v : Float). cond (lt v x) v x ≡ cond (lt x v) x v) e refl

most : (x y : Float) → Order x y → cond (lt x y) y x ≡ cond (lt y x) x y
most x y (less h k) = pick_true (lt x y) y x h ∙ sym (pick-false (lt y x) x y k)
most x y (more h k) = pick-false (lt x y) y x k ∙ sym (pick_true (lt y x) x y h)
most x y (same e) = subst (λ (v : Float). cond (lt x v) v x ≡ cond (lt v x) x v) e refl

pub min-either : (x y : Float) → T (fits binary32 x) → T (fits binary32 y) → Apart x y → min_of x y ≡ min_of y x
unfolding min_of is_nan
min-either nan nan f g p = refl
min-either nan (inf t) f g p = refl
min-either nan (fin t n d) f g p = refl
min-either (inf s) nan f g p = refl
min-either (fin s m e) nan f g p = refl
min-either (inf s) (inf t) f g p = least (inf s) (inf t) (order (inf s) (inf t) refl refl f g p)
min-either (inf s) (fin t n d) f g p = least (inf s) (fin t n d) (order (inf s) (fin t n d) refl refl f g p)
min-either (fin s m e) (inf t) f g p = least (fin s m e) (inf t) (order (fin s m e) (inf t) refl refl f g p)
min-either (fin s m e) (fin t n d) f g p = least (fin s m e) (fin t n d) (order (fin s m e) (fin t n d) refl refl f g p)

pub max-either : (x y : Float) → T (fits binary32 x) → T (fits binary32 y) → Apart x y → max_of x y ≡ max_of y x
unfolding max_of is_nan
max-either nan nan f g p = refl
max-either nan (inf t) f g p = refl
max-either nan (fin t n d) f g p = refl
max-either (inf s) nan f g p = refl
max-either (fin s m e) nan f g p = refl
max-either (inf s) (inf t) f g p = most (inf s) (inf t) (order (inf s) (inf t) refl refl f g p)
max-either (inf s) (fin t n d) f g p = most (inf s) (fin t n d) (order (inf s) (fin t n d) refl refl f g p)
max-either (fin s m e) (inf t) f g p = most (fin s m e) (inf t) (order (fin s m e) (inf t) refl refl f g p)
max-either (fin s m e) (fin t n d) f g p = most (fin s m e) (fin t n d) (order (fin s m e) (fin t n d) refl refl f g p)
