-- What `array::from_fn` makes. Assumes nothing.
use Rattle.std.proofs.Common.{◌≡◌, List, ℕ, zero, suc, ◌+◌, ◌<◌, ◌≤◌, get_or, arith, sym, subst, ap, ◌∙◌, ext_get_or, inl, inr, eq-or-lt_of_le}
use denote.Param.Members.{Mut}
use Rattle.std.specs.Fn.{Called}
use Rattle.std.specs.Array.{IsFromFnResult, IsFromFnResultFrom}
use Rattle.loops.specs.Front.{tab, length-tab, get_or-tab}

-- a closure that no call changes, called at each number below n in turn
module _ {F B : Type 0} (g : Mut F (ℕ × Unit {0}) B) (v : ℕ → B) (f : F) (n : ℕ)
    (h : (i : ℕ) (y : B) (q : F) → i < n → Called g f (i, tt) y q → (y ≡ v i) × (q ≡ f)) where
  made_at : (ys : List B) (d : B) (i m j : ℕ) → i + m ≤ n → i ≤ j → j < i + m → IsFromFnResultFrom g f ys i m → get_or ys j d ≡ v j
  made_at ys d i zero j l a b r = let z : ⊥ = omega arith in absurd z
  made_at ys d i (suc m) j l a b (q, y, e, c, r) =
      let k = h i y q (omega arith) c in
      elim (eq-or-lt_of_le a) [
        | inl s ↦ ap (λ z. get_or ys z d) (sym s) ∙ e.1 d ∙ k.0 ∙ ap v s
        | inr s ↦ made_at ys d (i + 1) m j (omega arith) (omega arith) (omega arith) (subst (λ (p : F). IsFromFnResultFrom g p ys (i + 1) m) k.1 r)
      ]

  pub made : (d : B) (ys : List B) → IsFromFnResult g f ys n → ys ≡ tab v n
  made d ys r =
      ext_get_or d ys (tab v n) (r.long ∙ sym (length-tab v n))
      (λ j l. made_at ys d 0 n j (omega arith) (omega arith) (omega (arith, r.long)) r.each ∙ sym (get_or-tab v n j d (omega (arith, r.long))))
