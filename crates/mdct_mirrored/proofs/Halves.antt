-- The outputs from half of the sums, one by one: what the code's two halves and their two ways are worth.
use mathlib.Core.Path.{◌≡◌, refl, ap, ◌∙◌, sym}
use mathlib.Core.Bool.{Bool, true, false, cond}
use lib.Dec.{ltb}
use mathlib.Core.List.{List, ◌++◌}
use Prim.Native.Nat.{ℕ, ◌+◌, ◌-◌, ◌*◌, ◌/◌, ◌≤◌, ◌<◌}
use native.Mathlib.Omega.{arith}
use lib.ListN.{length, get_or, length-append, get_or-append}
use lib.Seq.{get_or-append-add}
use lib.Ieee.{Float, nan}
use borrow.Author.Tests.{lt-ltb, le-ltb}
use Rattle.loops.specs.Front.{front, tab, length-tab, get_or-tab, tab-all, tab-list}
use Rattle.loops.specs.Pick.{pick_true, pick-false}
use Rattle.float_sign.specs.Turned.{turned}
use Rattle.mdct.specs.Imdct.{half_of}
use Rattle.mdct_mirrored.specs.Mirrored.{odd_sum, even_sum, odd_at, even_at, mirrored_outputs}

-- the pair of an output: its own before the middle, else the mirrored one
abbrev pub pair : ℕ → ℕ → ℕ
pair n u = cond (ltb u (n / 2)) u (n - 1 - u)

at_either : {A B : Type 0} (b : Bool) (f : A → B) (x y : A) → f (cond b x y) ≡ cond b (f x) (f y)
at_either true f x y = refl
at_either false f x y = refl

module _ (n : ℕ) (sums : List Float) where
  module _ (u k : ℕ) (q : k ≡ pair n u) where
    pub odd_before : u < n / 2 → half_of (get_or sums (2 * k) nan) ≡ odd_at n sums u
    unfolding odd_at
    odd_before h =
        ap (λ i. half_of (get_or sums (2 * i) nan)) (q ∙ pick_true _ _ _ (lt-ltb u (n / 2) h))
        ∙ ap half_of (sym (pick_true _ _ _ (lt-ltb u (n / 2) h)))

    pub odd_past : n / 2 ≤ u → half_of (turned (get_or sums (2 * k) nan)) ≡ odd_at n sums u
    unfolding odd_at odd_sum
    odd_past h =
        ap (λ i. half_of (turned (get_or sums (2 * i) nan))) (q ∙ pick-false _ _ _ (le-ltb u (n / 2) h))
        ∙ ap half_of (sym (pick-false _ _ _ (le-ltb u (n / 2) h)))

    pub even_of : half_of (get_or sums (2 * k + 1) nan) ≡ even_at n sums u
    unfolding even_at even_sum
    even_of = ap (λ i. half_of (get_or sums (2 * i + 1) nan)) q ∙ ap half_of (at_either (ltb u (n / 2)) (λ i. get_or sums (2 * i + 1) nan) u (n - 1 - u))

  pub length_outputs : length (mirrored_outputs n sums) ≡ 2 * n
  unfolding mirrored_outputs
  length_outputs =
      let o = tab (odd_at n sums) n in
      let e = tab (even_at n sums) n in
      omega (arith, length-append o e, length-tab (odd_at n sums) n, length-tab (even_at n sums) n)

  module _ (t : ℕ) (r : Float) where
    pub in_first : t < n → r ≡ odd_at n sums t → r ≡ get_or (mirrored_outputs n sums) t nan
    unfolding mirrored_outputs
    in_first h e =
        e ∙ sym (get_or-tab (odd_at n sums) n t nan h)
        ∙ sym (get_or-append (tab (odd_at n sums) n) (tab (even_at n sums) n) nan t (omega (arith, length-tab (odd_at n sums) n)))

    pub in_second : n ≤ t → t < 2 * n → r ≡ even_at n sums (t - n) → r ≡ get_or (mirrored_outputs n sums) t nan
    unfolding mirrored_outputs
    in_second g h e =
        let o = tab (odd_at n sums) n in
        let at : length o + (t - n) ≡ t = omega (arith, length-tab (odd_at n sums) n) in
        e ∙ sym (get_or-tab (even_at n sums) n (t - n) nan (omega arith))
        ∙ sym (get_or-append-add o (tab (even_at n sums) n) (t - n) nan)
        ∙ ap (λ z. get_or (o ++ tab (even_at n sums) n) z nan) at

  -- filled with each in turn, a list of 2 n is all of them
  pub filled : (xs b : List Float) (t : ℕ) → b ≡ front (tab (λ (i : ℕ). get_or (mirrored_outputs n sums) i nan) t) xs t
      → length xs ≡ 2 * n → length xs ≡ t → b ≡ mirrored_outputs n sums
  filled xs b t e h g =
      tab-all (λ (i : ℕ). get_or (mirrored_outputs n sums) i nan) nan xs b t e g
      ∙ ap (tab (λ (i : ℕ). get_or (mirrored_outputs n sums) i nan)) (h ∙ sym length_outputs)
      ∙ tab-list nan (mirrored_outputs n sums)
