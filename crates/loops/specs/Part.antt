-- A part of a list that is replaced: what a part of a `&mut` slice leaves when it comes back.
use Rattle.std.specs.Prelude.{◌≡◌, List, ◌++◌, ℕ, ◌+◌, ◌≤◌, length, take}
use Rattle.std.proofs.Math.Path.{refl, ap, ap₂, sym}
use Rattle.std.proofs.Common.{◌∙◌, append_assoc, arith, length-append, length-drop, take-append-drop, length-take-le, take_at, drop_at, drop-drop}
use Rattle.std.proofs.Math.ListN.{drop}
use Rattle.loops.specs.Front.{front}
use Rattle.std.proofs.Math.Seq.{slice}
use Rattle.std.proofs.lemmas.List.{drop-append-le}

module _ {A : Type 0} where
  -- the n elements from a on replaced by y, as the borrow checker has a part that came back
  abbrev pub put : ℕ → ℕ → List A → List A → List A
  put a n y h = take a h ++ (y ++ drop n (drop a h))

  pub length-put : (a n : ℕ) (y h : List A) → length y ≡ n → a + n ≤ length h → length (put a n y h) ≡ length h
  length-put a n y h e l =
      omega (
        arith,
        length-append (take a h) (y ++ drop n (drop a h)),
        length-append y (drop n (drop a h)),
        length-take-le a h (omega arith),
        length-drop n (drop a h),
        length-drop a h,
      )

  -- what stands before the part
  pub take_put : (a n : ℕ) (y h : List A) → a ≤ length h → take a (put a n y h) ≡ take a h
  take_put a n y h l = take_at (take a h) (y ++ drop n (drop a h)) a (length-take-le a h l)

  -- the part and what stands after it
  pub drop-put : (a n : ℕ) (y h : List A) → a ≤ length h → drop a (put a n y h) ≡ y ++ drop (a + n) h
  drop-put a n y h l =
      drop_at (take a h) (y ++ drop n (drop a h)) a (length-take-le a h l) ∙ ap (λ z. y ++ z) (drop-drop n a h)

  -- a list is what stands before b and what stands from b on, each from a on
  pub drop-slice : (a b : ℕ) (l : List A) → a ≤ b → b ≤ length l → drop a l ≡ slice a b l ++ drop b l
  drop-slice a b l h k =
      ap (drop a) (sym (take-append-drop b l))
      ∙ drop-append-le a (take b l) (drop b l) (omega (arith, length-take-le b l k))

  -- one part after another
  pub put-put : (a n m : ℕ) (y z h : List A) → length y ≡ n → a + n + m ≤ length h → put (a + n) m z (put a n y h) ≡ put a (n + m) (y ++ z) h
  put-put a n m y z h l f =
      let p : length (take a h ++ y) ≡ a + n = length-append (take a h) y ∙ ap₂ ◌+◌ (length-take-le a h (omega arith)) l in
      let r : put a n y h ≡ (take a h ++ y) ++ drop n (drop a h) = sym (append_assoc (take a h) y (drop n (drop a h))) in
      ap (put (a + n) m z) r
      ∙ ap₂ (λ u v. u ++ (z ++ drop m v)) (take_at (take a h ++ y) (drop n (drop a h)) (a + n) p) (drop_at (take a h ++ y) (drop n (drop a h)) (a + n) p)
      ∙ append_assoc (take a h) y (z ++ drop m (drop n (drop a h)))
      ∙ ap (λ u. take a h ++ u) (sym (append_assoc y z (drop m (drop n (drop a h)))) ∙ ap (λ u. (y ++ z) ++ u) (drop-drop m n (drop a h)))

  -- a part at the front
  pub put_front : (n : ℕ) (y h : List A) → put 0 n y h ≡ front y h n
  unfolding front
  put_front n y h = refl

  -- a part right behind what has been written
  pub put_next : (a n : ℕ) (done y h : List A) → length done ≡ a → put a n y (front done h a) ≡ front (done ++ y) h (a + n)
  unfolding front
  put_next a n done y h l =
      ap₂ (λ u v. u ++ (y ++ drop n v)) (take_at done (drop a h) a l) (drop_at done (drop a h) a l)
      ∙ ap (λ u. done ++ (y ++ u)) (drop-drop n a h)
      ∙ sym (append_assoc done y (drop (a + n) h))
