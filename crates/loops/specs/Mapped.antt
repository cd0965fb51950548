-- What an array's `map` makes. Assumes nothing.
use Rattle.std.proofs.Common.{◌≡◌, List, ℕ, zero, suc, ◌+◌, ◌<◌, ◌≤◌, get_or, arith, sym, subst, ap, ◌∙◌, ext_get_or, inl, inr, eq-or-lt_of_le}
use denote.Param.Members.{Mut}
use Rattle.std.specs.Fn.{Called}
use Rattle.std.specs.Array.{IsMapOf, MapsFrom}
use Rattle.loops.specs.Front.{tab, length-tab, get_or-tab}

-- a closure that no call changes, called at each of the first n values in turn
module _ {F A B : Type 0} (g : Mut F (A × Unit {0}) B) (v : A → B) (f : F) (h : (x : A) (y : B) (q : F) → Called g f (x, tt) y q → (y ≡ v x) × (q ≡ f)) where
  mapped_at : (xs : List A) (ys : List B) (d : A) (e : B) (i m j : ℕ) → i ≤ j → j < i + m → MapsFrom g f xs ys i m → get_or ys j e ≡ v (get_or xs j d)
  mapped_at xs ys d e i zero j a b r = let z : ⊥ = omega arith in absurd z
  mapped_at xs ys d e i (suc m) j a b (q, x, y, ex, ey, c, r) =
      let k = h x y q c in
      elim (eq-or-lt_of_le a) [
        | inl s ↦ ap (λ z. get_or ys z e) (sym s) ∙ ey.1 e ∙ k.0 ∙ ap v (sym (ex.1 d)) ∙ ap (λ z. v (get_or xs z d)) s
        | inr s ↦ mapped_at xs ys d e (i + 1) m j (omega arith) (omega arith) (subst (λ (p : F). MapsFrom g p xs ys (i + 1) m) k.1 r)
      ]

  pub mapped : (n : ℕ) (xs : List A) (ys : List B) (d : A) (e : B) → IsMapOf g f xs ys n → ys ≡ tab (λ i. v (get_or xs i d)) n
  mapped n xs ys d e r =
      let w : ℕ → B = λ i. v (get_or xs i d) in
      ext_get_or e ys (tab w n) (r.long ∙ sym (length-tab w n))
      (λ j l. mapped_at xs ys d e 0 n j (omega arith) (omega (arith, r.long)) r.each ∙ sym (get_or-tab w n j e (omega (arith, r.long))))
