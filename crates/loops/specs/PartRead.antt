-- What stands at each place of a list of which a part is replaced. Assumes nothing.
use Rattle.std.proofs.Common.{◌≡◌, List, ◌++◌, ℕ, ◌+◌, ◌-◌, ◌≤◌, ◌<◌, length, take, get_or, ap, ◌∙◌, arith, length-take-le, get_or-append-add}
use Rattle.std.proofs.Common.{get_or-take, get_or-drop}
use Rattle.std.proofs.Math.ListN.{drop, get_or-append}
use Rattle.loops.specs.Part.{put}

-- the n elements from a on replaced by y
module _ {A : Type 0} (a n : ℕ) (y h : List A) (l : a ≤ length h) (d : A) where
  pub put_before : (j : ℕ) → j < a → get_or (put a n y h) j d ≡ get_or h j d
  put_before j g = get_or-append (take a h) (y ++ drop n (drop a h)) d j (omega (arith, length-take-le a h l)) ∙ get_or-take a h j d g

  from-a : (i j : ℕ) → a + i ≡ j → get_or (put a n y h) j d ≡ get_or (y ++ drop n (drop a h)) i d
  from-a i j e =
      let k : j ≡ length (take a h) + i = omega (arith, length-take-le a h l) in
      ap (λ (z : ℕ). get_or (put a n y h) z d) k ∙ get_or-append-add (take a h) (y ++ drop n (drop a h)) i d

  -- j is i places on from a
  pub put_inside : (i j : ℕ) → a + i ≡ j → i < length y → get_or (put a n y h) j d ≡ get_or y i d
  put_inside i j e g = from-a i j e ∙ get_or-append y (drop n (drop a h)) d i g

  pub put_behind : (j : ℕ) → length y ≡ n → a + n ≤ j → get_or (put a n y h) j d ≡ get_or h j d
  put_behind j s g =
      let i = j - (a + n) in
      let k : n + i ≡ length y + i = omega (arith, s) in
      let e : a + (n + i) ≡ j = omega arith in
      from-a (n + i) j e
      ∙ ap (λ (z : ℕ). get_or (y ++ drop n (drop a h)) z d) k ∙ get_or-append-add y (drop n (drop a h)) i d
      ∙ get_or-drop n (drop a h) i d ∙ get_or-drop a h (n + i) d ∙ ap (λ (z : ℕ). get_or h z d) e
