-- The block factor as a shift.
use Rattle.std.proofs.Common.{◌≡◌, refl, ap, ◌∙◌, ℕ, ◌*◌, ◌%◌, ◌≤◌, arith, Bool, true, false, cond, min}
use Rattle.std.proofs.Math.Nat.{min-eq_left, min-eq_right, pow-le-pow_right, mod-eq_of_lt}
use Rattle.std.proofs.Math.Dec.{leb, lit<}
use Prim.Native.Nat.{◌^◌}
use borrow.Author.Tests.{leb-true, leb-false}
use Rattle.settings.specs.Settings.{block_factor}

-- a shift by at most 3 loses nothing
pub shift_fits : (lm : ℕ) → lm ≤ 3 → 1 * 2 ^ lm % 2 ^ 64 ≡ 2 ^ lm
shift_fits lm l =
    let e : 1 * 2 ^ lm ≡ 2 ^ lm = omega arith in
    mod-eq_of_lt (omega (arith, pow-le-pow_right {n = 2} (lit< tt) {i = lm} {j = 3} l)) ∙ e

-- an lm above 3 counts as 3
pub factor-shift : (lm m : ℕ) → m ≡ min lm 3 → 1 * 2 ^ m % 2 ^ 64 ≡ block_factor lm
unfolding block_factor
factor-shift lm m e = go (leb lm 3) refl
  where
    go : (b : Bool) → leb lm 3 ≡ b → 1 * 2 ^ m % 2 ^ 64 ≡ 2 ^ cond b lm 3
    go true h =
        let l = leb-true lm 3 h in
        let f : m ≡ lm = e ∙ min-eq_left l in
        shift_fits m (omega arith) ∙ ap (λ z. 2 ^ z) f
    go false h =
        let l = leb-false lm 3 h in
        let f : m ≡ 3 = e ∙ min-eq_right (omega arith) in
        ap (λ z. 1 * 2 ^ z % 2 ^ 64) f
