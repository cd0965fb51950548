-- Powers of two as f64.
use Rattle.std.proofs.Common.{◌≡◌, ℕ, suc, ◌+◌, ◌-◌, ◌*◌, ◌/◌, ◌%◌, ◌^◌, ◌≤◌, Bool, true, false, cond, not, T, leb, pos, negsuc, refl, ap, ◌∙◌}
use Rattle.std.proofs.Common.{arith, ne_eqb, le-leb, leb-false, leb-true}
use borrow.Author.Tests.{lt-leb}
use lib.Ieee.{fin, binary64, minus, of_bits, of_fields, odd, nan_bits}

-- a difference of two numbers, and of both with as much more
minus-more : (a b c : ℕ) → minus (a + c) (b + c) ≡ minus a b
minus-more a b c = go (leb b a) refl
  where
    go : (t : Bool) → leb b a ≡ t → minus (a + c) (b + c) ≡ cond t (pos (a - b)) (negsuc (b - suc a))
    go true e =
        let z : (a + c) - (b + c) ≡ a - b = omega arith in
        ap (λ t. cond t (pos ((a + c) - (b + c))) (negsuc ((b + c) - suc (a + c)))) (le-leb (b + c) (a + c) (omega (arith, leb-true b a e))) ∙ ap pos z
    go false e =
        let z : (b + c) - suc (a + c) ≡ b - suc a = omega arith in
        ap (λ t. cond t (pos ((a + c) - (b + c))) (negsuc ((b + c) - suc (a + c)))) (lt-leb (b + c) (a + c) (omega (arith, leb-false b a e))) ∙ ap negsuc z

field-bits : (n : ℕ) → n ≤ 182 → of_fields binary64 false (suc (n + 872)) 0 ≡ fin false 1 (minus (n + 924) 1074)
unfolding of_fields odd
field-bits n h = rw (ne_eqb (suc (n + 872)) 2047 (λ e. omega arith)) (ap (λ k. fin false 1 (minus k 1074)) (let z : n + 872 + 52 ≡ n + 924 = omega arith in z))

pub two-to-is : (n : ℕ) → n ≤ 182 → of_bits binary64 ((n + 873) * 0x10_0000_0000_0000) ≡ fin false 1 (minus n 150)
unfolding of_bits
two-to-is n h =
    let b = (n + 873) * 0x10_0000_0000_0000 in
    let s : leb (2 ^ 63) b ≡ false = lt-leb (2 ^ 63) b (omega arith) in
    let f : b % 2 ^ 63 / 2 ^ 52 ≡ suc (n + 872) = omega arith in
    let t : b % 2 ^ 52 ≡ 0 = omega arith in
    ap (λ z. of_fields binary64 z (b % 2 ^ 63 / 2 ^ 52) (b % 2 ^ 52)) s
    ∙ ap (λ z. of_fields binary64 false z (b % 2 ^ 52)) f ∙ ap (of_fields binary64 false (suc (n + 872))) t
    ∙ field-bits n h ∙ ap (fin false 1) (minus-more n 150 924)

pub two-to-real : (n : ℕ) → n ≤ 182 → T (not (nan_bits binary64 ((n + 873) * 0x10_0000_0000_0000)))
unfolding nan_bits
two-to-real n h =
    let f : (n + 873) * 0x10_0000_0000_0000 % 2 ^ 63 / 2 ^ 52 ≡ n + 873 = omega arith in
    rw (f, ne_eqb (n + 873) 2047 (λ e. omega arith)) tt
