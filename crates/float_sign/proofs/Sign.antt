-- Turning a float's sign: through a product and the step to f32 as it is, and through a sum that starts at +0
-- but for a zero, which stays +0.
use mathlib.Core.Path.{◌≡◌, refl, sym, ap, ◌∙◌, subst}
use mathlib.Core.Bool.{Bool, true, false, not, cond}
use Prim.Native.Nat.{ℕ, zero, suc, ◌*◌, ◌<◌}
use native.Mathlib.Nat.{zero-mul}
use native.Mathlib.Omega.{arith}
use lib.IntN.{pos}
use lib.Dec.{T, eqb}
use lib.Ieee.{Float, nan, inf, fin, Format, binary32, binary64, unlike, up, down, round, neg, add, sub, mul, level, eq, fits, of_bits}
use lib.Ieee.Fits.{neg-fits, add-fits}
use Rattle.loops.specs.Fold.{fold_to}
use Rattle.loops.specs.Sum.{sum_to}
use Rattle.float_narrow.specs.Narrow.{narrow}
use Rattle.float_sign.specs.Turned.{turned}
use Rattle.float_sign.proofs.Rounding.{round-not}
use Rattle.float_sign.proofs.PlusZero.{plus_zero, plus_zero-zero, plus_zero-neg-zero, plus_zero-twice, plus_zero-fits, plus_zero-add}
use Rattle.float_sign.proofs.PlusZero.{add-plus, add-to-zero, add-neg}

-- ---- products

unlike-not : (s t : Bool) → unlike s (not t) ≡ not (unlike s t)
unlike-not true true = refl
unlike-not true false = refl
unlike-not false true = refl
unlike-not false false = refl

not-unlike : (s t : Bool) → unlike (not s) t ≡ not (unlike s t)
not-unlike true true = refl
not-unlike true false = refl
not-unlike false true = refl
not-unlike false false = refl

turned-inf : (b s t : Bool) → s ≡ not t → cond b nan (inf s) ≡ neg (cond b nan (inf t))
unfolding neg
turned-inf true s t h = refl
turned-inf false s t h = ap inf h

-- a factor's sign turns the product's: a product is rounded by its magnitude
pub mul-neg : (f : Format) (x y : Float) → mul f x (neg y) ≡ neg (mul f x y)
unfolding mul neg
mul-neg f nan y = refl
mul-neg f (inf s) nan = refl
mul-neg f (inf s) (inf t) = ap inf (unlike-not s t)
mul-neg f (inf s) (fin t n d) = turned-inf (eqb n 0) (unlike s (not t)) (unlike s t) (unlike-not s t)
mul-neg f (fin s m e) nan = refl
mul-neg f (fin s m e) (inf t) = turned-inf (eqb m 0) (unlike s (not t)) (unlike s t) (unlike-not s t)
mul-neg f (fin s m e) (fin t n d) =
    ap (λ (b : Bool). round f b (m * up e * (n * up d)) (down e * down d)) (unlike-not s t) ∙ round-not f (unlike s t) (m * up e * (n * up d)) (down e * down d)

-- and so does the other factor's
pub neg-mul : (f : Format) (x y : Float) → mul f (neg x) y ≡ neg (mul f x y)
unfolding mul neg
neg-mul f nan y = refl
neg-mul f (inf s) nan = refl
neg-mul f (inf s) (inf t) = ap inf (not-unlike s t)
neg-mul f (inf s) (fin t n d) = turned-inf (eqb n 0) (unlike (not s) t) (unlike s t) (not-unlike s t)
neg-mul f (fin s m e) nan = refl
neg-mul f (fin s m e) (inf t) = turned-inf (eqb m 0) (unlike (not s) t) (unlike s t) (not-unlike s t)
neg-mul f (fin s m e) (fin t n d) =
    ap (λ (b : Bool). round f b (m * up e * (n * up d)) (down e * down d)) (not-unlike s t) ∙ round-not f (unlike s t) (m * up e * (n * up d)) (down e * down d)

-- so it may stand at either factor
pub mul-both : (f : Format) (x y : Float) → mul f (neg x) y ≡ mul f x (neg y)
mul-both f x y = neg-mul f x y ∙ sym (mul-neg f x y)

-- ---- the step to f32

-- it rounds to the nearest, the same on both sides of zero
pub narrow-neg : (x : Float) → narrow (neg x) ≡ neg (narrow x)
unfolding narrow neg
narrow-neg nan = refl
narrow-neg (inf s) = refl
narrow-neg (fin s m e) = round-not binary32 s (m * up e) (down e)

-- ---- 0 - x

zero64 : of_bits binary64 0 ≡ fin false 0 (pos 0)
unfolding of_bits
zero64 = refl

zero-fits : (s : Bool) → T (fits binary64 (fin s 0 (pos 0)))
unfolding fits
zero-fits s = tt

-- the subtraction is exact, so 0 - x is -x but for the sign of a zero
pub turned-is : (x : Float) → T (fits binary64 x) → turned x ≡ plus_zero (neg x)
unfolding turned sub
turned-is x h = ap (λ (z : Float). add binary64 z (neg x)) zero64 ∙ add-to-zero binary64 (neg x) (neg-fits binary64 x h)

-- a zero stays +0
pub turned_zero : turned (of_bits binary64 0) ≡ of_bits binary64 0
turned_zero = ap turned zero64 ∙ turned-is (fin false 0 (pos 0)) (zero-fits false) ∙ plus_zero-neg-zero false (pos 0) ∙ sym zero64

zero_equals : (s : Bool) (a b : ℕ) → a ≡ 0 → b ≡ 0 → level s a false b ≡ true
zero_equals true a b p q = ap (λ (x : ℕ). level true x false b) p ∙ ap (λ (x : ℕ). level true 0 false x) q
zero_equals false a b p q = ap (λ (x : ℕ). level false x false b) p ∙ ap (λ (x : ℕ). level false 0 false x) q

plus_zero-other : (x : Float) → eq x (fin false 0 (pos 0)) ≡ false → plus_zero (neg x) ≡ neg x
unfolding eq plus_zero neg
plus_zero-other nan n = refl
plus_zero-other (inf s) n = refl
plus_zero-other (fin s (suc m) e) n = refl
plus_zero-other (fin s zero e) n =
    let y : level s (0 * up e * 1) false (0 * 1 * down e) ≡ true =
    zero_equals s (0 * up e * 1) (0 * 1 * down e) (ap (λ (x : ℕ). x * 1) (zero-mul (up e))) (zero-mul (down e)) in
    let b : true ≡ false = sym y ∙ n in
    let z : ◌≡◌ {A = ℕ} 0 1 = cc in
    absurd (none z)
  where
    none : ◌≡◌ {A = ℕ} 0 1 → ⊥
    none z = omega arith

-- what is no zero has only its sign turned
pub turned-other : (x : Float) → T (fits binary64 x) → eq x (of_bits binary64 0) ≡ false → turned x ≡ neg x
turned-other x h n = turned-is x h ∙ plus_zero-other x (sym (ap (eq x) zero64) ∙ n)

-- One term more. Where the exact sum is zero both are +0, and elsewhere it does not vanish in rounding.
pub turned-add : (s x : Float) → T (fits binary64 s) → T (fits binary64 x) → add binary64 (turned s) (neg x) ≡ turned (add binary64 s x)
turned-add s x S X =
    ap (λ (z : Float). add binary64 z (neg x)) (turned-is s S)
    ∙ sym (add-plus binary64 (plus_zero (neg s)) (neg x)
    (plus_zero-fits binary64 (neg s) (neg-fits binary64 s S)) (neg-fits binary64 x X) (plus_zero-twice (neg s)))
    ∙ plus_zero-add binary64 (neg s) (neg x)
    ∙ add-neg binary64 s x
    ∙ sym (turned-is (add binary64 s x) (add-fits binary64 s x))

-- ---- a sum from +0

-- each partial sum is rounded, so f64 holds it
pub sum_fits : (t : ℕ → Float) (n : ℕ) → T (fits binary64 (sum_to binary64 t (of_bits binary64 0) n))
unfolding sum_to fold_to
sum_fits t zero = subst (λ (z : Float). T (fits binary64 z)) (sym zero64) (zero-fits false)
sum_fits t (suc n) = add-fits binary64 _ (t n)

-- it is never -0: +0 and +0 give +0, and what is not zero does not vanish
pub sum-plus-zero : (t : ℕ → Float) (n : ℕ) → ((k : ℕ) → T (fits binary64 (t k)))
    → plus_zero (sum_to binary64 t (of_bits binary64 0) n) ≡ sum_to binary64 t (of_bits binary64 0) n
unfolding sum_to fold_to
sum-plus-zero t zero h = ap plus_zero zero64 ∙ plus_zero-zero false (pos 0) ∙ sym zero64
sum-plus-zero t (suc n) h = add-plus binary64 _ (t n) (sum_fits t n) (h n) (sum-plus-zero t n h)

-- the same, said of -0 itself
pub sum-not-minus : (t : ℕ → Float) (n : ℕ) → ((k : ℕ) → T (fits binary64 (t k))) → sum_to binary64 t (of_bits binary64 0) n ≡ fin true 0 (pos 0) → ⊥
unfolding plus_zero
sum-not-minus t n h e =
    let p : fin false 0 (pos 0) ≡ fin true 0 (pos 0) = sym (ap plus_zero e) ∙ sum-plus-zero t n h ∙ e in
    let z : ◌≡◌ {A = ℕ} 0 1 = cc in
    omega arith

-- the sum of the terms with their signs turned is the sum with its sign turned
pub sum-turned : (t u : ℕ → Float) (n : ℕ) → ((k : ℕ) → T (fits binary64 (t k))) → ((k : ℕ) → k < n → u k ≡ neg (t k))
    → sum_to binary64 u (of_bits binary64 0) n ≡ turned (sum_to binary64 t (of_bits binary64 0) n)
unfolding sum_to fold_to
sum-turned t u zero h e = sym turned_zero
sum-turned t u (suc n) h e =
    ap (add binary64 _) (e n (omega arith))
    ∙ ap (λ (z : Float). add binary64 z (neg (t n))) (sum-turned t u n h (λ k l. e k (omega arith)))
    ∙ turned-add (sum_to binary64 t (of_bits binary64 0) n) (t n) (sum_fits t n) (h n)
