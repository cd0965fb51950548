-- The sums of mirrored outputs: each term of one is that of the other, its sign turned in the first half of the outputs and kept in the second.
-- The two angles add up to an odd number of half circles there, and to whole circles here.
use mathlib.Core.Path.{◌≡◌, ap, ◌∙◌, sym}
use mathlib.Core.List.{List}
use Prim.Native.Nat.{ℕ, ◌+◌, ◌-◌, ◌*◌, ◌/◌, ◌%◌, ◌<◌}
use native.Mathlib.Omega.{arith}
use native.Mathlib.Nat.{mul_comm, mul_assoc, add-mul}
use lib.Dec.{T}
use lib.ListN.{get_or}
use lib.Ieee.{Float, nan, binary64, of_bits, neg, mul, fits}
use lib.Ieee.Fits.{mul-fits}
use Rattle.loops.specs.Sum.{sum_same}
use Rattle.float_sign.specs.Turned.{turned}
use Rattle.float_sign.proofs.Sign.{mul-neg, sum-turned}
use Rattle.cosine_circle.specs.Circle.{cos_at}
use Rattle.cosine_circle.proofs.Sizes.{Size, whole}
use Rattle.cosine_pairs.proofs.Turns.{cos_half, cos_even}
use Rattle.mdct.specs.Imdct.{angle, imdct_term, imdct_sum}
use Rattle.mdct.proofs.Angles.{no-quarter}

-- ---- angles

-- the angle before whole circles are left out
abbrev parts : ℕ → ℕ → ℕ → ℕ
parts n t k = (2 * t + 1 + n) * (2 * k + 1) * (960 / n)

-- where the first factors of two such add up to c steps of the circle, the angles add up to c * 960 parts, 2 k + 1 times
add-up : (n t r k c : ℕ) → Size n → 2 * r + 1 + n + (2 * t + 1 + n) ≡ c * n → parts n r k + parts n t k ≡ c * 960 * (2 * k + 1)
add-up n t r k c z e =
    let s = 960 / n in
    let d = 2 * k + 1 in
    let a = 2 * t + 1 + n in
    let b = 2 * r + 1 + n in
    sym (add-mul (b * d) (a * d) s) ∙ ap (λ y. y * s) (sym (add-mul b a d)) ∙ ap (λ y. y * d * s) e
    ∙ mul_assoc (c * n) d s ∙ ap (λ y. c * n * y) (mul_comm d s) ∙ sym (mul_assoc (c * n) s d)
    ∙ ap (λ y. y * d) (mul_assoc c n s ∙ ap (λ y. c * y) (whole n z))

module _ (n u k : ℕ) (z : Size n) (l : u < n) where
  angle-odd : angle n (n - 1 - u) k ≡ (7680 - angle n u k + 3840) % 7680
  unfolding angle
  angle-odd =
      let e : 2 * (n - 1 - u) + 1 + n + (2 * u + 1 + n) ≡ 4 * n = omega arith in
      omega (arith, add-up n u (n - 1 - u) k 4 z e)

  angle-even : angle n (n + (n - 1 - u)) k ≡ (7680 - angle n (n + u) k) % 7680
  unfolding angle
  angle-even =
      let e : 2 * (n + (n - 1 - u)) + 1 + n + (2 * (n + u) + 1 + n) ≡ 8 * n = omega arith in
      omega (arith, add-up n (n + u) (n + (n - 1 - u)) k 8 z e)

in_circle : (n t k : ℕ) → angle n t k < 7680
unfolding angle
in_circle n t k = omega arith

cos_odd : (n u k : ℕ) → Size n → u < n → cos_at (angle n (n - 1 - u) k) ≡ neg (cos_at (angle n u k))
cos_odd n u k z l =
    let a = angle n u k in
    let q = no-quarter n u k z in
    let c = in_circle n u k in
    cos_half (7680 - a) (λ h. q (omega arith)) (omega (arith, q)) _ (angle-odd n u k z l) ∙ ap neg (cos_even a q c (7680 - a) (omega arith))

cos_same : (n u k : ℕ) → Size n → u < n → cos_at (angle n (n + (n - 1 - u)) k) ≡ cos_at (angle n (n + u) k)
cos_same n u k z l =
    let q = no-quarter n (n + u) k z in
    let c = in_circle n (n + u) k in
    cos_even (angle n (n + u) k) q c _ (omega (arith, q, angle-even n u k z l))

-- ---- terms

pub term-odd : (n : ℕ) (xs : List Float) (u k : ℕ) → Size n → u < n → imdct_term n xs (n - 1 - u) k ≡ neg (imdct_term n xs u k)
unfolding imdct_term
term-odd n xs u k z l = ap (mul binary64 (get_or xs k nan)) (cos_odd n u k z l) ∙ mul-neg binary64 (get_or xs k nan) (cos_at (angle n u k))

pub term-even : (n : ℕ) (xs : List Float) (u k : ℕ) → Size n → u < n → imdct_term n xs (n + (n - 1 - u)) k ≡ imdct_term n xs (n + u) k
unfolding imdct_term
term-even n xs u k z l = ap (mul binary64 (get_or xs k nan)) (cos_same n u k z l)

-- ---- sums

term_fits : (n : ℕ) (xs : List Float) (t k : ℕ) → T (fits binary64 (imdct_term n xs t k))
unfolding imdct_term
term_fits n xs t k = mul-fits binary64 (get_or xs k nan) (cos_at (angle n t k))

pub sum-odd : (n : ℕ) (xs : List Float) (u : ℕ) → Size n → u < n → imdct_sum n xs (n - 1 - u) ≡ turned (imdct_sum n xs u)
unfolding imdct_sum
sum-odd n xs u z l = sum-turned (imdct_term n xs u) (imdct_term n xs (n - 1 - u)) n (term_fits n xs u) (λ k h. term-odd n xs u k z l)

pub sum-even : (n : ℕ) (xs : List Float) (u : ℕ) → Size n → u < n → imdct_sum n xs (n + (n - 1 - u)) ≡ imdct_sum n xs (n + u)
unfolding imdct_sum
sum-even n xs u z l =
    sum_same binary64 (imdct_term n xs (n + (n - 1 - u))) (imdct_term n xs (n + u)) (of_bits binary64 0) n (λ k h. term-even n xs u k z l)
