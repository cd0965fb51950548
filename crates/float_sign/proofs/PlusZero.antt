-- Sums where a zero's sign does not count: `plus_zero` writes both zeros as +0.
-- A sum of values of one format is a whole number of its smallest values, so it does not vanish in rounding,
-- and -0 comes of -0 + -0 alone.
use mathlib.Core.Path.{◌≡◌, refl, sym, ap, ◌∙◌, subst}
use mathlib.Core.Bool.{Bool, true, false, not, ◌&&◌, beq, cond}
use Prim.Native.Nat.{ℕ, zero, suc, ◌+◌, ◌-◌, ◌*◌, ◌/◌, ◌%◌, ◌^◌, ◌≤◌, ◌<◌, compare}
use native.Mathlib.Nat.{le_trans, le_of_eq, le_of_lt, lt_of_lt_of_le, lt_irrefl, zero-lt-suc, zero-mul, one-mul, mul_assoc, mul_comm, mul-pos}
use native.Mathlib.Nat.{mul-le-mul, mul-le-mul_right, lt_of_mul-lt-mul_right, suc-mul, sub-add_cancel, sub-zero, sub-eq-zero_of_le}
use native.Mathlib.Nat.{le-add_right, zero-sub, zero-add, le-div_iff_mul-le, div-div-eq-div-mul}
use native.Mathlib.Omega.{arith}
use lib.IntN.{ℤ, pos, negsuc}
use lib.Dec.{T, leb, ltb, ltb→lt, nltb→le, leb→le, nleb→lt}
use lib.Arith.{le-zero}
use lib.Pow.{pow-add, pow_pos}
use lib.Ieee.{Float, nan, inf, fin, Format, prec, emax, low, up, down, size, odd, units, round, neg, sum, add, fits}
use lib.Ieee.Digits.{Equals, odd_val, size-lt, size_reaches}
use lib.Ieee.Fits.{round_is, two, up_pos, down_pos}
use lib.Ieee.Nearest.{nearest-ge, closest}
use lib.Ieee.Scale.{round_same}
use Rattle.float_sign.proofs.Rounding.{round-not, round-value, round-zero, fits-fine}

-- x, and +0 for either zero
unfoldable pub plus_zero : Float → Float
plus_zero nan = nan
plus_zero (inf s) = inf s
plus_zero (fin s zero e) = fin false 0 (pos 0)
plus_zero (fin s (suc m) e) = fin s (suc m) e

-- either zero, whichever way its sign is turned
pub plus_zero-zero : (s : Bool) (e : ℤ) → plus_zero (fin s 0 e) ≡ fin false 0 (pos 0)
unfolding plus_zero
plus_zero-zero s e = refl

pub plus_zero-neg-zero : (s : Bool) (e : ℤ) → plus_zero (neg (fin s 0 e)) ≡ fin false 0 (pos 0)
unfolding plus_zero neg
plus_zero-neg-zero s e = refl

-- a zero so written stays
pub plus_zero-twice : (x : Float) → plus_zero (plus_zero x) ≡ plus_zero x
unfolding plus_zero
plus_zero-twice nan = refl
plus_zero-twice (inf s) = refl
plus_zero-twice (fin s zero e) = refl
plus_zero-twice (fin s (suc m) e) = refl

-- a format that holds one zero holds the other
pub plus_zero-fits : (f : Format) (x : Float) → T (fits f x) → T (fits f (plus_zero x))
unfolding plus_zero fits
plus_zero-fits f nan h = tt
plus_zero-fits f (inf s) h = tt
plus_zero-fits f (fin s zero e) h = tt
plus_zero-fits f (fin s (suc m) e) h = h

-- ---- a fraction of one smallest value or more is not rounded to a zero

no_value : (a d : ℕ) → 0 ≡ a * d → 0 < a → 0 < d → ⊥
no_value a d h A D = lt_irrefl 0 (subst (λ (x : ℕ). 0 < x) (sym h) (mul-pos A D))

valued : (x : Float) (a c : ℕ) → Equals x a c → 0 < a → plus_zero x ≡ x
unfolding plus_zero
valued nan a c h A = refl
valued (inf s) a c h A = refl
valued (fin s zero e) a c h A = absurd (no_value a (down e) (sym (zero-mul c) ∙ ap (λ (x : ℕ). x * c) (sym (zero-mul (up e))) ∙ h) A (down_pos e))
valued (fin s (suc m) e) a c h A = refl

odd-plus : (d : ℕ) (s : Bool) (q k l : ℕ) → (T s → 0 < q) → plus_zero (odd d s q k l) ≡ odd d s q k l
odd-plus d false zero k l h = unfold odd plus_zero in refl
odd-plus d true zero k l h = absurd (lt_irrefl 0 (h tt))
odd-plus d s (suc q) k l h = valued (odd d s (suc q) k l) (suc q * 2 ^ k) (2 ^ l) (odd_val d s (suc q) k l) (mul-pos (zero-lt-suc q) (pow_pos k))

units-plus : (f : Format) (s : Bool) (q k : ℕ) → (T s → 0 < q) → plus_zero (units f s q k) ≡ units f s q k
unfolding units
units-plus f s q k h = go (ltb (q * 2 ^ k) (2 ^ (low f + suc (emax f))))
  where
    go : (b : Bool) → plus_zero (cond b (odd (suc (prec f)) s q k (low f)) (inf s)) ≡ cond b (odd (suc (prec f)) s q k (low f)) (inf s)
    go true = odd-plus (suc (prec f)) s q k (low f) h
    go false = unfold plus_zero in refl

dropped : (z p : ℕ) → 0 < z → 2 ≤ p → z - p < z
dropped z p h k = omega arith

some-digit : (w z : ℕ) → 0 < w → w < 2 ^ z → 0 < z
some-digit w zero h k = absurd (lt_irrefl 1 (lt_of_lt_of_le (suc-le h) k))
  where
    suc-le : 0 < w → 1 < suc w
    suc-le g = omega arith
some-digit w (suc z) h k = zero-lt-suc z

-- what is kept of a number's digits has its leading one
kept-pos : (n c p : ℕ) → 0 < c → 2 ≤ p → c ≤ n → 0 < closest n (c * 2 ^ (size (n / c) - p))
kept-pos n c p C P h =
    let w : ℕ = n / c in
    let k : ℕ = size w - p in
    let W : 0 < w = (le-div_iff_mul-le C).1 (le_trans (le_of_eq (one-mul c)) h) in
    let K : k < size w = dropped (size w) p (some-digit w (size w) W (size-lt w)) P in
    let q : 0 < w / 2 ^ k = (le-div_iff_mul-le (pow_pos k)).1 (le_trans (le_of_eq (one-mul (2 ^ k))) (size_reaches w k K)) in
    lt_of_lt_of_le (subst (λ (x : ℕ). 0 < x) (div-div-eq-div-mul n c (2 ^ k)) q) (nearest-ge (n / (c * 2 ^ k)) (compare (n % (c * 2 ^ k) * 2) (c * 2 ^ k)))

-- c ≤ a * 2 ^ low: a / c is one smallest value or more. A fraction with the sign clear may be less, and vanishes to +0.
pub round-plus : (f : Format) (s : Bool) (a c : ℕ) → 0 < c → (T s → c ≤ a * 2 ^ low f) → plus_zero (round f s a c) ≡ round f s a c
round-plus f s a c C h =
    ap plus_zero (round_is f s a c) ∙ units-plus f s _ _ (λ t. kept-pos (a * 2 ^ low f) c (prec f) C (two f) (h t)) ∙ sym (round_is f s a c)

-- ---- two values of one format differ by a smallest value at least

multiple : (p q : ℕ) → p ≤ q → 2 ^ q ≡ 2 ^ (q - p) * 2 ^ p
multiple p q h = ap (λ (x : ℕ). 2 ^ x) (sym (sub-add_cancel h)) ∙ pow-add 2 (q - p) p

apart : (x y r : ℕ) → x * r < y * r → r ≤ y * r - x * r
apart x y r h =
    let s : suc x ≤ y = lt_of_mul-lt-mul_right r h in
    let t : suc x * r ≤ y * r = mul-le-mul_right r s in
    let u : suc x * r ≡ x * r + r = suc-mul x r in
    omega arith

gap_powers : (x y p q l : ℕ) → 2 ^ p ≤ l → 2 ^ q ≤ l → x * 2 ^ q < y * 2 ^ p → 2 ^ p * 2 ^ q ≤ (y * 2 ^ p - x * 2 ^ q) * l
gap_powers x y p q l P Q h = go (leb p q) (leb→le p q) (nleb→lt p q)
  where
    go : (b : Bool) → (T b → p ≤ q) → (T (not b) → q < p) → 2 ^ p * 2 ^ q ≤ (y * 2 ^ p - x * 2 ^ q) * l
    go true t n =
        let e : x * 2 ^ q ≡ x * 2 ^ (q - p) * 2 ^ p = ap (λ (z : ℕ). x * z) (multiple p q (t tt)) ∙ sym (mul_assoc x (2 ^ (q - p)) (2 ^ p)) in
        mul-le-mul (subst (λ (z : ℕ). 2 ^ p ≤ y * 2 ^ p - z) (sym e) (apart (x * 2 ^ (q - p)) y (2 ^ p) (subst (λ (z : ℕ). z < y * 2 ^ p) e h))) Q
    go false t n =
        let e : y * 2 ^ p ≡ y * 2 ^ (p - q) * 2 ^ q = ap (λ (z : ℕ). y * z) (multiple q p (le_of_lt (n tt))) ∙ sym (mul_assoc y (2 ^ (p - q)) (2 ^ q)) in
        le_trans (le_of_eq (mul_comm (2 ^ p) (2 ^ q)))
        (mul-le-mul (subst (λ (z : ℕ). 2 ^ q ≤ z - x * 2 ^ q) (sym e) (apart x (y * 2 ^ (p - q)) (2 ^ q) (subst (λ (z : ℕ). x * 2 ^ q < z) e h))) P)

abbrev depth : ℤ → ℕ
depth (pos k) = 0
depth (negsuc k) = suc k

down-depth : (e : ℤ) → 2 ^ depth e ≡ down e
down-depth (pos k) = refl
down-depth (negsuc k) = refl

gap : (x y : ℕ) (e d : ℤ) (l : ℕ) → down e ≤ l → down d ≤ l → x * down d < y * down e → down e * down d ≤ (y * down e - x * down d) * l
gap x y e d l =
    subst (λ (E : ℕ). E ≤ l → down d ≤ l → x * down d < y * E → E * down d ≤ (y * E - x * down d) * l) (down-depth e)
    (subst (λ (D : ℕ). 2 ^ depth e ≤ l → D ≤ l → x * D < y * 2 ^ depth e → 2 ^ depth e * D ≤ (y * 2 ^ depth e - x * D) * l) (down-depth d)
    (gap_powers x y (depth e) (depth d) l))

-- ---- a sum is -0 only where both are

sum-plus : (f : Format) (s : Bool) (a : ℕ) (t : Bool) (b c : ℕ) → 0 < c
    → (T s → c ≤ a * 2 ^ low f) → (a < b → c ≤ (b - a) * 2 ^ low f) → (b < a → c ≤ (a - b) * 2 ^ low f)
    → plus_zero (sum f s a t b c) ≡ sum f s a t b c
unfolding sum
sum-plus f s a t b c C A L G = go s t A
  where
    more : c ≤ a * 2 ^ low f → c ≤ (a + b) * 2 ^ low f
    more h = le_trans h (mul-le-mul_right (2 ^ low f) (le-add_right a b))

    unlike-signs : (s t : Bool) (p q : Bool) → (T p → a < b) → (T q → b < a)
        → plus_zero (cond p (round f t (b - a) c) (round f (s && q) (a - b) c)) ≡ cond p (round f t (b - a) c) (round f (s && q) (a - b) c)
    unlike-signs s t true q P Q = round-plus f t (b - a) c C (λ _. L (P tt))
    unlike-signs true t false true P Q = round-plus f true (a - b) c C (λ _. G (Q tt))
    unlike-signs true t false false P Q = round-plus f false (a - b) c C absurd
    unlike-signs false t false q P Q = round-plus f false (a - b) c C absurd

    go : (s t : Bool) → (T s → c ≤ a * 2 ^ low f)
        → plus_zero (cond (beq s t) (round f s (a + b) c) (cond (ltb a b) (round f t (b - a) c) (round f (s && ltb b a) (a - b) c)))
        ≡ cond (beq s t) (round f s (a + b) c) (cond (ltb a b) (round f t (b - a) c) (round f (s && ltb b a) (a - b) c))
    go true true h = round-plus f true (a + b) c C (λ _. more (h tt))
    go false false h = round-plus f false (a + b) c C absurd
    go true false h = unlike-signs true false (ltb a b) (ltb b a) (ltb→lt a b) (ltb→lt b a)
    go false true h = unlike-signs false true (ltb a b) (ltb b a) (ltb→lt a b) (ltb→lt b a)

no_minus : (e : ℤ) → plus_zero (fin true zero e) ≡ fin true zero e → ⊥
unfolding plus_zero
no_minus e p = let z : ◌≡◌ {A = ℕ} 0 1 = cc in omega arith

lead : (s : Bool) (m : ℕ) (e d : ℤ) (l : ℕ) → plus_zero (fin s m e) ≡ fin s m e → down e ≤ l → T s → down e * down d ≤ m * up e * down d * l
lead false m e d l p h t = absurd t
lead true zero e d l p h t = absurd (no_minus e p)
lead true (suc m) e d l p h t =
    le_trans (mul-le-mul_right (down d) h)
    (le_trans (le_of_eq (mul_comm l (down d) ∙ ap (λ (x : ℕ). x * l) (sym (one-mul (down d)))))
    (mul-le-mul_right l (mul-le-mul_right (down d) (mul-pos (zero-lt-suc m) (up_pos e)))))

-- where x is not -0, nor is x + y
pub add-plus : (f : Format) (x y : Float) → T (fits f x) → T (fits f y) → plus_zero x ≡ x → plus_zero (add f x y) ≡ add f x y
unfolding add
add-plus f nan y X Y p = unfold plus_zero in refl
add-plus f (inf s) nan X Y p = unfold plus_zero in refl
add-plus f (inf s) (inf t) X Y p = go (beq s t)
  where
    go : (b : Bool) → plus_zero (cond b (inf s) nan) ≡ cond b (inf s) nan
    go true = unfold plus_zero in refl
    go false = unfold plus_zero in refl
add-plus f (inf s) (fin t n d) X Y p = unfold plus_zero in refl
add-plus f (fin s m e) nan X Y p = unfold plus_zero in refl
add-plus f (fin s m e) (inf t) X Y p = unfold plus_zero in refl
add-plus f (fin s m e) (fin t n d) X Y p =
    let E : down e ≤ 2 ^ low f = fits-fine f s m e X in
    let D : down d ≤ 2 ^ low f = fits-fine f t n d Y in
    sum-plus f s (m * up e * down d) t (n * up d * down e) (down e * down d) (mul-pos (down_pos e) (down_pos d)) (lead s m e d (2 ^ low f) p E)
    (gap (m * up e) (n * up d) e d (2 ^ low f) E D)
    (λ h. le_trans (le_of_eq (mul_comm (down e) (down d))) (gap (n * up d) (m * up e) d e (2 ^ low f) D E h))

-- ---- a zero's sign does not count in a sum

sum-none : (f : Format) (s t : Bool) (b c : ℕ) → 0 < c → plus_zero (sum f s 0 t b c) ≡ plus_zero (round f t b c)
unfolding sum
sum-none f s t b c C = go s t
  where
    none : (s t : Bool) → b ≡ 0 → plus_zero (round f s (0 - b) c) ≡ plus_zero (round f t b c)
    none s t z =
        ap (λ (x : ℕ). plus_zero (round f s x c)) (zero-sub b)
        ∙ ap plus_zero (round-zero f s c C)
        ∙ plus_zero-zero s (pos 0)
        ∙ sym (ap (λ (x : ℕ). plus_zero (round f t x c)) z ∙ ap plus_zero (round-zero f t c C) ∙ plus_zero-zero t (pos 0))

    unlike-signs : (s t p : Bool) → (T (not p) → b ≤ 0)
        → plus_zero (cond p (round f t (b - 0) c) (round f (s && ltb b 0) (0 - b) c)) ≡ plus_zero (round f t b c)
    unlike-signs s t true h = ap (λ (x : ℕ). plus_zero (round f t x c)) (sub-zero b)
    unlike-signs s t false h = none (s && ltb b 0) t (le-zero (h tt))

    go : (s t : Bool)
        → plus_zero (cond (beq s t) (round f s (0 + b) c) (cond (ltb 0 b) (round f t (b - 0) c) (round f (s && ltb b 0) (0 - b) c))) ≡ plus_zero (round f t b c)
    go true true = ap (λ (x : ℕ). plus_zero (round f true x c)) (zero-add b)
    go false false = ap (λ (x : ℕ). plus_zero (round f false x c)) (zero-add b)
    go true false = unlike-signs true false (ltb 0 b) (nltb→le 0 b)
    go false true = unlike-signs false true (ltb 0 b) (nltb→le 0 b)

zero-plus : (f : Format) (s t : Bool) (n : ℕ) (e d : ℤ) → plus_zero (add f (fin s 0 e) (fin t n d)) ≡ plus_zero (round f t (n * up d) (down d))
unfolding add
zero-plus f s t n e d =
    let C : 0 < down e * down d = mul-pos (down_pos e) (down_pos d) in
    ap (λ (x : ℕ). plus_zero (sum f s x t (n * up d * down e) (down e * down d))) (ap (λ (x : ℕ). x * down d) (zero-mul (up e)) ∙ zero-mul (down d))
    ∙ sum-none f s t (n * up d * down e) (down e * down d) C
    ∙ ap plus_zero (round_same f t (n * up d * down e) (down e * down d) (n * up d) (down d) C (down_pos d) (mul_assoc (n * up d) (down e) (down d)))

-- whichever zero stands first
pub plus_zero-add : (f : Format) (x y : Float) → plus_zero (add f (plus_zero x) y) ≡ plus_zero (add f x y)
unfolding plus_zero
plus_zero-add f nan y = refl
plus_zero-add f (inf s) y = refl
plus_zero-add f (fin s (suc m) e) y = refl
plus_zero-add f (fin s zero e) nan = unfold add in refl
plus_zero-add f (fin s zero e) (inf t) = unfold add in refl
plus_zero-add f (fin s zero e) (fin t n d) = zero-plus f false t n (pos 0) d ∙ sym (zero-plus f s t n e d)

-- ---- what is added to a zero comes back

zero-add-plus : (f : Format) (y : Float) → T (fits f y) → plus_zero (add f (fin false 0 (pos 0)) y) ≡ plus_zero y
zero-add-plus f nan h = unfold add in refl
zero-add-plus f (inf t) h = unfold add in refl
zero-add-plus f (fin t n d) h = zero-plus f false t n (pos 0) d ∙ ap plus_zero (round-value f t n d (n * up d) (down d) (down_pos d) h refl)

-- but -0, which comes back as +0
pub add-to-zero : (f : Format) (y : Float) → T (fits f y) → add f (fin false 0 (pos 0)) y ≡ plus_zero y
add-to-zero f y h = sym (add-plus f (fin false 0 (pos 0)) y (unfold fits in tt) h (unfold plus_zero in refl)) ∙ zero-add-plus f y h

-- ---- two turned signs turn the sum's, but a zero's

sum-not : (f : Format) (s : Bool) (a : ℕ) (t : Bool) (b c : ℕ) → 0 < c → plus_zero (sum f (not s) a (not t) b c) ≡ plus_zero (neg (sum f s a t b c))
unfolding sum
sum-not f s a t b c C = go s t
  where
    same : (s : Bool) (n : ℕ) → plus_zero (round f (not s) n c) ≡ plus_zero (neg (round f s n c))
    same s n = ap plus_zero (round-not f s n c)

    level : a - b ≡ 0 → plus_zero (round f false (a - b) c) ≡ plus_zero (neg (round f false (a - b) c))
    level z =
        let r : round f false (a - b) c ≡ fin false 0 (pos 0) = ap (λ (x : ℕ). round f false x c) z ∙ round-zero f false c C in
        ap plus_zero r ∙ plus_zero-zero false (pos 0) ∙ sym (ap (λ (x : Float). plus_zero (neg x)) r ∙ plus_zero-neg-zero false (pos 0))

    unlike-signs : (s t p q : Bool) → (T (not q) → a ≤ b)
        → plus_zero (cond p (round f (not t) (b - a) c) (round f (not s && q) (a - b) c))
        ≡ plus_zero (neg (cond p (round f t (b - a) c) (round f (s && q) (a - b) c)))
    unlike-signs s t true q h = same t (b - a)
    unlike-signs true t false true h = same true (a - b)
    unlike-signs false t false true h = same false (a - b)
    unlike-signs true t false false h = level (sub-eq-zero_of_le (h tt))
    unlike-signs false t false false h = level (sub-eq-zero_of_le (h tt))

    go : (s t : Bool)
        → plus_zero (cond (beq (not s) (not t)) (round f (not s) (a + b) c) (cond (ltb a b) (round f (not t) (b - a) c) (round f (not s && ltb b a) (a - b) c)))
        ≡ plus_zero (neg (cond (beq s t) (round f s (a + b) c) (cond (ltb a b) (round f t (b - a) c) (round f (s && ltb b a) (a - b) c))))
    go true true = same true (a + b)
    go false false = same false (a + b)
    go true false = unlike-signs true false (ltb a b) (ltb b a) (nltb→le b a)
    go false true = unlike-signs false true (ltb a b) (ltb b a) (nltb→le b a)

-- infinities and NaN included
pub add-neg : (f : Format) (x y : Float) → plus_zero (add f (neg x) (neg y)) ≡ plus_zero (neg (add f x y))
unfolding add neg
add-neg f nan y = refl
add-neg f (inf s) nan = refl
add-neg f (inf s) (inf t) = go s t
  where
    go : (s t : Bool) → plus_zero (cond (beq (not s) (not t)) (inf (not s)) nan) ≡ plus_zero (neg (cond (beq s t) (inf s) nan))
    go true true = refl
    go true false = refl
    go false true = refl
    go false false = refl
add-neg f (inf s) (fin t n d) = refl
add-neg f (fin s m e) nan = refl
add-neg f (fin s m e) (inf t) = refl
add-neg f (fin s m e) (fin t n d) = sum-not f s (m * up e * down d) t (n * up d * down e) (down e * down d) (mul-pos (down_pos e) (down_pos d))
