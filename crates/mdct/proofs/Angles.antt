-- The angles of the sum as places on a circle of 4 n steps, one step further along for each output and input.
use mathlib.Core.Path.{◌≡◌, ap, ◌∙◌, sym}
use Prim.Native.Nat.{ℕ, zero, suc, ◌+◌, ◌*◌, ◌/◌, ◌%◌, ◌^◌, ◌≤◌, ◌<◌}
use native.Mathlib.Omega.{arith}
use native.Mathlib.Numerals.{add-one}
use native.Mathlib.Nat.{mul_comm, mul_assoc, mul-add, add-mul, mul-le-mul_right, div-add-mod', mod-lt, add-mod}
use Rattle.mdct.specs.Imdct.{angle}
use Rattle.cosine_circle.proofs.Sizes.{Size, even, whole, at_least, per_least}

-- input k in output t, in half steps: an odd number
unfoldable pub half_steps : ℕ → ℕ → ℕ → ℕ
half_steps n t k = (2 * t + 1 + n) * (2 * k + 1)

half-none : (n t : ℕ) → half_steps n t 0 ≡ 2 * t + 1 + n
unfolding half_steps
half-none n t = omega arith

half-more : (n t k : ℕ) → half_steps n t (suc k) ≡ half_steps n t k + 2 * (2 * t + 1 + n)
unfolding half_steps
half-more n t k =
    let e : 2 * suc k + 1 ≡ 2 * k + 1 + 2 = omega arith in
    ap (λ z. (2 * t + 1 + n) * z) e ∙ mul-add (2 * t + 1 + n) (2 * k + 1) 2 ∙ ap (λ z. (2 * t + 1 + n) * (2 * k + 1) + z) (mul_comm (2 * t + 1 + n) 2)

half-odd : (n t k : ℕ) → n % 2 ≡ 0 → half_steps n t k % 2 ≡ 1
half-odd n t zero e = omega (arith, half-none n t)
half-odd n t (suc k) e = omega (arith, half-more n t k, half-odd n t k e)

-- where on the circle that is
unfoldable pub place : ℕ → ℕ → ℕ → ℕ
place n t k = half_steps n t k / 2 % (4 * n)

pub place-less : (n t k : ℕ) → 0 < n → place n t k < 4 * n
unfolding place
place-less n t k h = mod-lt (half_steps n t k / 2) (omega arith)

pub place_none : (n t : ℕ) → n % 2 ≡ 0 → (t + n / 2) % (4 * n) ≡ place n t 0
unfolding place
place_none n t e = let h : t + n / 2 ≡ half_steps n t 0 / 2 = omega (arith, half-none n t) in ap (λ z. z % (4 * n)) h

pub place-more : (n t k : ℕ) → 0 < n → (place n t k + (2 * t + 1 + n) % (4 * n)) % (4 * n) ≡ place n t (k + 1)
unfolding place
place-more n t k h =
    let e : half_steps n t k / 2 + (2 * t + 1 + n) ≡ half_steps n t (suc k) / 2 = omega (arith, half-more n t k) in
    sym (add-mod (half_steps n t k / 2) (2 * t + 1 + n) (4 * n)) ∙ ap (λ z. z % (4 * n)) e ∙ ap (λ z. half_steps n t z / 2 % (4 * n)) (sym (add-one k))

-- an odd number a of half steps is found at a / 2 on the circle
found : (n s a : ℕ) → 0 < n → n * s ≡ 960 → 1 ≤ s → a % 2 ≡ 1 → s * (2 * (a / 2 % (4 * n)) + 1) ≡ a * s % 7680
found n s a g e h o =
    let q = a / 2 / (4 * n) in
    let b = 2 * (a / 2 % (4 * n)) + 1 in
    let split : a ≡ b + 2 * (q * (4 * n)) = omega (arith, div-add-mod' (a / 2) (4 * n)) in
    let w : 4 * n * s ≡ 3840 = omega (arith, mul_assoc 4 n s) in
    let turns : 2 * (q * (4 * n)) * s ≡ q * 3840 * 2 = omega (arith, mul_assoc 2 (q * (4 * n)) s, mul_assoc q (4 * n) s ∙ ap (λ z. q * z) w) in
    let sum : a * s ≡ b * s + q * 3840 * 2 = ap (λ z. z * s) split ∙ add-mul b (2 * (q * (4 * n))) s ∙ ap (λ z. b * s + z) turns in
    let in_circle : b + 1 ≤ 2 * (4 * n) = omega (arith, mod-lt (a / 2) {m = 4 * n} (omega arith)) in
    let less : b * s < 7680 = omega (arith, mul-le-mul_right s in_circle, add-mul b 1 s, mul_assoc 2 (4 * n) s) in
    omega (arith, mul_comm s b)

pub on_circle : (n t k : ℕ) → Size n → 960 / n * (2 * place n t k + 1) ≡ angle n t k
unfolding place angle half_steps
on_circle n t k z =
    found n (960 / n) (half_steps n t k) (omega (arith, at_least n z)) (whole n z) (per_least n z) (half-odd n t k (even n z))

-- an odd number of half steps is no multiple of 16 parts
pub odd-parts : (n p : ℕ) → Size n → 960 / n * (2 * p + 1) % 16 ≡ 0 → ⊥
odd-parts n p z h =
    let s = 960 / n in
    let m = 2 ^ z.lm in
    let c = s * (2 * p + 1) / 16 in
    let eight : s * m ≡ 8 = omega (arith, whole n z, ap (λ y. y * s) z.is, mul_assoc 120 m s, mul_comm m s) in
    let a : s * (2 * p + 1) ≡ 16 * c = omega arith in
    let turned : s * (2 * p + 1) * m ≡ 8 * (2 * p + 1) =
    ap (λ y. y * m) (mul_comm s (2 * p + 1)) ∙ mul_assoc (2 * p + 1) s m ∙ ap (λ y. (2 * p + 1) * y) eight ∙ mul_comm (2 * p + 1) 8 in
    let double : s * (2 * p + 1) * m ≡ 16 * (c * m) = ap (λ y. y * m) a ∙ mul_assoc 16 c m in
    omega arith

-- No quarter of the circle is read, so that no cosine that is read is a zero: 1,920 parts are a multiple of 16, and an angle is none.
pub no-quarter : (n t k : ℕ) → Size n → angle n t k % 16 ≡ 0 → ⊥
no-quarter n t k z h = odd-parts n (place n t k) z (ap (λ y. y % 16) (on_circle n t k z) ∙ h)
