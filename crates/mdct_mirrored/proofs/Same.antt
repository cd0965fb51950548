-- The theorem: by half of the sums or by all of them, the inverse transform has the same outputs, bit for bit, and half of them takes half the products.
use mathlib.Core.Path.{◌≡◌, refl, ap, ◌∙◌, sym}
use mathlib.Core.Bool.{Bool, true, false, cond}
use mathlib.Core.List.{List, ◌++◌, map}
use Prim.Native.Nat.{ℕ, ◌+◌, ◌-◌, ◌*◌, ◌/◌, ◌%◌, ◌≤◌, ◌<◌}
use native.Mathlib.Omega.{arith}
use native.Mathlib.Nat.{zero-mul, one-mul}
use lib.Dec.{T, ltb}
use lib.ListN.{get_or}
use lib.Ieee.{Float, nan, binary32, binary64, of_bits, neg, add, sub, mul, eq, fits}
use borrow.Author.Tests.{ltb-true, ltb-false}
use Rattle.loops.specs.Front.{tab, tab-same, get_or-tab, map-tab}
use Rattle.float_narrow.specs.Narrow.{narrow}
use Rattle.float_sign.specs.Turned.{turned}
use Rattle.float_sign.proofs.Sign.{turned_zero, turned-other, mul-neg, narrow-neg}
use Rattle.cosine_circle.specs.Circle.{is_frame_size}
use Rattle.cosine_circle.proofs.Sizes.{Size, sized, even}
use Rattle.mdct.specs.Imdct.{imdct_sum, half_of, imdct_at, imdct}
use Rattle.mdct.proofs.Fronts.{tab-run}
use Rattle.mdct_work.specs.Work.{Work, sum_work, all_sums, values}
use Rattle.mdct_work.proofs.Works.{work_value, work_products, total-tab, pair_values, pair-products}
use Rattle.mdct_mirrored.specs.Mirrored.{direct, odd_sum, even_sum, odd_at, even_at, mirrored_outputs, mirrored}
use Rattle.mdct_mirrored.proofs.Mirror.{sum-odd, sum-even}

-- ---- the direct sum

-- its outputs are the transform's, for every n
pub direct-same : (n : ℕ) (xs : List Float) → (direct n xs).outputs ≡ imdct n xs
unfolding direct all_sums values imdct imdct_at
direct-same n xs =
    ap (map half_of) (map-tab (λ (w : Work). w.value) (sum_work n xs) (2 * n))
    ∙ map-tab half_of (λ (t : ℕ). (sum_work n xs t).value) (2 * n)
    ∙ tab-same _ _ (2 * n) (λ t h. ap half_of (work_value n xs t))

pub direct-products : (n : ℕ) (xs : List Float) → (direct n xs).products ≡ 2 * n * n
unfolding direct all_sums
direct-products n xs = total-tab (sum_work n xs) n (2 * n) (λ t h. work_products n xs t)

-- ---- half of the sums

pub mirrored-products : (n : ℕ) (xs : List Float) → (mirrored n xs).products ≡ n * n
unfolding mirrored
mirrored-products n xs = pair-products n xs

-- which sum stands where
first_of : (n u : ℕ) → 2 * u / 2 + 2 * u % 2 * n ≡ u
first_of n u =
    let e : 2 * u % 2 ≡ 0 = omega arith in
    omega (arith, ap (λ y. y * n) e, zero-mul n)

second-of : (n u : ℕ) → (2 * u + 1) / 2 + (2 * u + 1) % 2 * n ≡ n + u
second-of n u =
    let e : (2 * u + 1) % 2 ≡ 1 = omega arith in
    omega (arith, ap (λ y. y * n) e, one-mul n)

-- the sums of outputs u and n + u, for each u below n / 2
abbrev pairs : ℕ → List Float → List Float
pairs n xs = tab (λ (j : ℕ). imdct_sum n xs (j / 2 + j % 2 * n)) n

module _ (n : ℕ) (xs : List Float) (z : Size n) where
  first-sum : (u : ℕ) → u < n / 2 → get_or (pairs n xs) (2 * u) nan ≡ imdct_sum n xs u
  first-sum u h = get_or-tab (λ (j : ℕ). imdct_sum n xs (j / 2 + j % 2 * n)) n (2 * u) nan (omega arith) ∙ ap (imdct_sum n xs) (first_of n u)

  second-sum : (u : ℕ) → u < n / 2 → get_or (pairs n xs) (2 * u + 1) nan ≡ imdct_sum n xs (n + u)
  second-sum u h = get_or-tab (λ (j : ℕ). imdct_sum n xs (j / 2 + j % 2 * n)) n (2 * u + 1) nan (omega arith) ∙ ap (imdct_sum n xs) (second-of n u)

  module _ (u : ℕ) (l : u < n) where
    back : n - 1 - (n - 1 - u) ≡ u
    back = omega arith

    below : n / 2 ≤ u → n - 1 - u < n / 2
    below h = omega (arith, even n z)

    odd-past : n / 2 ≤ u → odd_sum n (pairs n xs) u ≡ imdct_sum n xs u
    unfolding odd_sum
    odd-past h = ap turned (first-sum (n - 1 - u) (below h)) ∙ sym (sum-odd n xs (n - 1 - u) z (omega arith)) ∙ ap (imdct_sum n xs) back

    even-past : n / 2 ≤ u → even_sum n (pairs n xs) u ≡ imdct_sum n xs (n + u)
    unfolding even_sum
    even-past h = second-sum (n - 1 - u) (below h) ∙ sum-even n xs u z l

    odd_is : odd_at n (pairs n xs) u ≡ imdct_at n xs u
    unfolding odd_at imdct_at
    odd_is = ap half_of (go (ltb u (n / 2)) refl)
      where
        go : (b : Bool) → ltb u (n / 2) ≡ b → cond b (get_or (pairs n xs) (2 * u) nan) (odd_sum n (pairs n xs) u) ≡ imdct_sum n xs u
        go true e = first-sum u (ltb-true u (n / 2) e)
        go false e = odd-past (ltb-false u (n / 2) e)

    even_is : even_at n (pairs n xs) u ≡ imdct_at n xs (n + u)
    unfolding even_at imdct_at
    even_is = ap half_of (go (ltb u (n / 2)) refl)
      where
        go : (b : Bool) → ltb u (n / 2) ≡ b → cond b (get_or (pairs n xs) (2 * u + 1) nan) (even_sum n (pairs n xs) u) ≡ imdct_sum n xs (n + u)
        go true e = second-sum u (ltb-true u (n / 2) e)
        go false e = even-past (ltb-false u (n / 2) e)

-- the outputs by half of the sums are the transform's
pub mirrored-same : (n : ℕ) (xs : List Float) → is_frame_size n ≡ true → (mirrored n xs).outputs ≡ imdct n xs
unfolding mirrored mirrored_outputs imdct
mirrored-same n xs f =
    let z = sized n f in
    let m : n + n ≡ 2 * n = omega arith in
    ap (mirrored_outputs n) (pair_values n xs)
    ∙ ap (λ y. y ++ tab (even_at n (pairs n xs)) n) (tab-same _ _ n (odd_is n xs z))
    ∙ tab-run (imdct_at n xs) (even_at n (pairs n xs)) n n (even_is n xs z) ∙ ap (tab (imdct_at n xs)) m

-- ---- zeros

-- a sum that is zero is +0 at its place and at the mirrored one
pub zero-stays-plus : half_of (turned (of_bits binary64 0)) ≡ of_bits binary32 0
unfolding half_of narrow mul of_bits
zero-stays-plus = ap half_of turned_zero

-- any other sum's output has its sign turned there, also where it rounds to zero
pub other-turns : (x : Float) → T (fits binary64 x) → eq x (of_bits binary64 0) ≡ false → half_of (turned x) ≡ neg (half_of x)
unfolding half_of
other-turns x h n =
    let half = of_bits binary64 0x3fe0_0000_0000_0000 in
    ap (λ y. narrow (mul binary64 half y)) (turned-other x h n) ∙ ap narrow (mul-neg binary64 half x) ∙ narrow-neg (mul binary64 half x)

-- a sum that is no zero but too small for an f32, as 2 ^ -255: the zero that it rounds to keeps the turned sign
pub faint_is-zero : half_of (of_bits binary64 0x3000_0000_0000_0000) ≡ of_bits binary32 0
unfolding half_of narrow mul of_bits
faint_is-zero = refl

pub faint_keeps-sign : half_of (turned (of_bits binary64 0x3000_0000_0000_0000)) ≡ of_bits binary32 0x8000_0000
unfolding half_of turned narrow mul sub neg add of_bits
faint_keeps-sign = refl
