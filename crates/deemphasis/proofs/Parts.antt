-- The samples in parts of equal length.
use Rattle.std.proofs.Common.{◌≡◌, sym, ap, ◌∙◌, List, ◌++◌, ℕ, ◌+◌, ◌-◌, ◌*◌, ◌/◌, ◌%◌, ◌<◌, ◌≤◌, length, get_or, drop, arith, length-append, length-drop}
use Rattle.std.proofs.Math.ListN.{get_or-append}
use Rattle.std.proofs.Math.Seq.{drop-append_seam}
use Rattle.std.proofs.lemmas.List.{get_or-drop, drop-drop}
use Rattle.std.proofs.lemmas.Nat.{div-mul-add, div-add-mod', le-div}
use Rattle.std.specs.Prelude.{Float}
use Rattle.std.specs.Float.{nan}

-- after q parts of d samples each, and the next one, what is left of v
module _ (d q : ℕ) (v part rest : List Float) (cut : drop (q * d) v ≡ part ++ rest) (long : length part ≡ d) where
  pub part-within : q * d ≤ length v → (q + 1) * d ≤ length v
  part-within l = omega (arith, ap length cut, length-append part rest, length-drop (q * d) v)

  -- so there is room for one value more
  pub part-room : (room : ℕ) → 1 ≤ d → q * d ≤ length v → length v / d ≤ room → q < room
  part-room room one l r = omega (arith, le-div (q + 1) (length v) d one (part-within l))

  pub part-rest : rest ≡ drop ((q + 1) * d) v
  part-rest =
      let n : q * d + d ≡ (q + 1) * d = omega arith in
      sym (drop-append_seam part rest) ∙ ap (λ k. drop k (part ++ rest)) long ∙ ap (drop d) (sym cut) ∙ drop-drop d (q * d) v ∙ ap (λ k. drop k v) n

  pub part-at : (i : ℕ) → i < d → get_or part i nan ≡ get_or v (q * d + i) nan
  part-at i l = sym (get_or-append part rest nan i (omega arith)) ∙ ap (λ x. get_or x i nan) (sym cut) ∙ get_or-drop (q * d) v i nan

-- after q parts of d samples each no whole one is left of n
module _ (d q n : ℕ) (l : q * d ≤ n) (m : n - q * d < d) where
  pub part-count : q ≡ n / d
  part-count =
      let e : q * d + (n - q * d) ≡ n = omega arith in
      sym (div-mul-add q d (n - q * d) m) ∙ ap (λ k. k / d) e

  pub part-end : n % d ≡ 0 → q * d ≡ n
  part-end e =
      let f : n / d * d ≡ n = omega (arith, div-add-mod' n d) in
      ap (λ k. k * d) part-count ∙ f
