-- Loops that fill a list: its first places are replaced, one after the other, by the outputs.
use Rattle.std.specs.Prelude.{◌≡◌, refl, ℕ, zero, suc, ◌+◌, ◌≤◌, ◌<◌, length, take, replicate, Bool, true, false, eqb}
use Rattle.std.proofs.Math.Path.{ap, sym}
use Rattle.std.proofs.Common.{◌∙◌, arith, add-one, length-append, drop_of_length-le, drop-cons, length-take-le, take-suc, ext_get_or, eqb-true}
use mathlib.Core.List.{List, [], ◌∷◌, ◌++◌, append-nil, map, map-append}
use Rattle.std.proofs.Math.ListN.{get_or, set, drop, get_or-append}
use Rattle.std.proofs.lemmas.List.{length-replicate, replicate-append-replicate, length-map}
use Rattle.std.proofs.Math.Seq.{set_at, get_or_at, append_snoc, take-length}
use Rattle.std.proofs.lemmas.Bool.{eqb-false}

-- the outputs so far, and then what was there
unfoldable pub front : {A : Type 0} → List A → List A → ℕ → List A
front out xs i = out ++ drop i xs

module _ {A : Type 0} (d : A) (xs b out : List A) (i : ℕ) (e : b ≡ front out xs i) (l : length out ≡ i) where
  pub front_read : i < length xs → get_or b i d ≡ get_or xs i d
  unfolding front
  front_read h = ap (λ z. get_or z i d) (e ∙ ap (λ z. out ++ z) (drop-cons xs i d h)) ∙ get_or_at out _ _ d i l

  pub front-write : (v : A) → i < length xs → set b i v ≡ front (out ++ (v ∷ [])) xs (i + 1)
  unfolding front
  front-write v h =
      ap (λ z. set z i v) (e ∙ ap (λ z. out ++ z) (drop-cons xs i d h)) ∙ set_at out _ _ v i l
      ∙ sym (append_snoc out v _) ∙ ap (λ z. (out ++ (v ∷ [])) ++ drop z xs) (sym (add-one i))

  pub front-all : length xs ≤ i → b ≡ out
  unfolding front
  front-all h = e ∙ ap (λ z. out ++ z) (drop_of_length-le xs {i = i} h) ∙ append-nil out

-- a list that is filled from the front with v
pub fill_none : {A : Type 0} (v : A) (xs : List A) → xs ≡ front (replicate 0 v) xs 0
unfolding front
fill_none v xs = refl

pub fill_more : {A : Type 0} (v : A) (xs b : List A) (i : ℕ) → b ≡ front (replicate i v) xs i → i < length xs → set b i v ≡ front (replicate (i + 1) v) xs (i + 1)
fill_more v xs b i e h =
    front-write v xs b (replicate i v) i e (length-replicate i v) v h ∙ ap (λ z. front z xs (i + 1)) (replicate-append-replicate i 1 v)

pub fill-all : {A : Type 0} (v : A) (xs b : List A) (i : ℕ) → b ≡ front (replicate i v) xs i → length xs ≡ i → b ≡ replicate (length xs) v
fill-all v xs b i e h = front-all v xs b (replicate i v) i e (length-replicate i v) (omega arith) ∙ ap (λ z. replicate z v) (sym h)

-- a list whose first places take another's, one after the other
pub copy-none : {A : Type 0} (src xs : List A) → xs ≡ front (take 0 src) xs 0
unfolding front
copy-none src xs = refl

pub copy_more : {A : Type 0} (d : A) (src xs b : List A) (i : ℕ) → b ≡ front (take i src) xs i → i < length src → i < length xs
    → set b i (get_or src i d) ≡ front (take (i + 1) src) xs (i + 1)
copy_more d src xs b i e s h =
    front-write d xs b (take i src) i e (length-take-le i src (omega arith)) (get_or src i d) h
    ∙ ap (λ z. front z xs (i + 1)) (sym (ap (λ z. take z src) (add-one i) ∙ take-suc src i d s))

-- each element in turn replaced by f of it
pub map-none : {A : Type 0} (f : A → A) (xs : List A) → xs ≡ front (map f (take 0 xs)) xs 0
unfolding front
map-none f xs = refl

module _ {A : Type 0} (f : A → A) (d : A) (xs b : List A) (i : ℕ) (e : b ≡ front (map f (take i xs)) xs i) where
  size : i ≤ length xs → length (map f (take i xs)) ≡ i
  size h = length-map (take i xs) f ∙ length-take-le i xs h

  pub map_more : i < length xs → set b i (f (get_or b i d)) ≡ front (map f (take (i + 1) xs)) xs (i + 1)
  map_more h =
      let l : length (map f (take i xs)) ≡ i = size (omega arith) in
      let r : get_or b i d ≡ get_or xs i d = front_read d xs b (map f (take i xs)) i e l h in
      let t : map f (take (i + 1) xs) ≡ map f (take i xs) ++ (f (get_or xs i d) ∷ []) =
      ap (λ z. map f (take z xs)) (add-one i) ∙ ap (map f) (take-suc xs i d h) ∙ map-append f (take i xs) (get_or xs i d ∷ []) in
      ap (λ z. set b i (f z)) r ∙ front-write d xs b (map f (take i xs)) i e l (f (get_or xs i d)) h ∙ ap (λ z. front z xs (i + 1)) (sym t)

  pub map-all : length xs ≡ i → b ≡ map f xs
  map-all h =
      front-all d xs b (map f (take i xs)) i e (size (omega arith)) (omega arith) ∙ ap (λ z. map f (take z xs)) (sym h) ∙ ap (map f) (take-length xs)

-- the list of f 0, f 1, .. f (n - 1)
unfoldable pub tab : {A : Type 0} → (ℕ → A) → ℕ → List A
tab f zero = []
tab f (suc n) = tab f n ++ (f n ∷ [])

pub length-tab : {A : Type 0} (f : ℕ → A) (n : ℕ) → length (tab f n) ≡ n
unfolding tab
length-tab f zero = refl
length-tab f (suc n) = length-append (tab f n) (f n ∷ []) ∙ ap (λ z. z + 1) (length-tab f n) ∙ add-one n

pub tab-none : {A : Type 0} (f : ℕ → A) (xs : List A) → xs ≡ front (tab f 0) xs 0
unfolding front tab
tab-none f xs = refl

module _ {A : Type 0} (f : ℕ → A) (d : A) (xs b : List A) (i : ℕ) (e : b ≡ front (tab f i) xs i) where
  pub tab-read : i < length xs → get_or b i d ≡ get_or xs i d
  tab-read h = front_read d xs b (tab f i) i e (length-tab f i) h

  pub tab-more : (v : A) → v ≡ f i → i < length xs → set b i v ≡ front (tab f (i + 1)) xs (i + 1)
  unfolding tab
  tab-more v q h =
      front-write d xs b (tab f i) i e (length-tab f i) v h ∙ ap (λ z. front (tab f i ++ (z ∷ [])) xs (i + 1)) q
      ∙ ap (λ z. front z xs (i + 1)) (sym (ap (tab f) (add-one i)))

  pub tab-all : length xs ≡ i → b ≡ tab f (length xs)
  tab-all h = front-all d xs b (tab f i) i e (length-tab f i) (omega arith) ∙ ap (tab f) (sym h)

-- what a list by index has at i
pub get_or-tab : {A : Type 0} (f : ℕ → A) (n i : ℕ) (d : A) → i < n → get_or (tab f n) i d ≡ f i
unfolding tab
get_or-tab f zero i d h = let z : ⊥ = omega arith in absurd z
get_or-tab f (suc n) i d h = go (get_or-tab f n i d) (eqb i n) refl
  where
    go : (i < n → get_or (tab f n) i d ≡ f i) → (b : Bool) → eqb i n ≡ b → get_or (tab f n ++ (f n ∷ [])) i d ≡ f i
    go r true e =
        let q : i ≡ n = eqb-true i n e in
        get_or_at (tab f n) (f n) [] d i (length-tab f n ∙ sym q) ∙ ap f (sym q)
    go r false e =
        let l : i < n = omega (arith, eqb-false i n e) in
        get_or-append (tab f n) (f n ∷ []) d i (omega (arith, length-tab f n)) ∙ r l

-- lists of equal values are equal
pub tab-same : {A : Type 0} (f g : ℕ → A) (n : ℕ) → ((i : ℕ) → i < n → f i ≡ g i) → tab f n ≡ tab g n
unfolding tab
tab-same f g zero e = refl
tab-same f g (suc n) e =
    ap (λ z. z ++ (f n ∷ [])) (tab-same f g n (λ i h. e i (omega arith))) ∙ ap (λ z. tab g n ++ (z ∷ [])) (e n (omega arith))

-- a list by index, each of its values taken on by f
pub map-tab : {A B : Type 0} (f : A → B) (g : ℕ → A) (m : ℕ) → map f (tab g m) ≡ tab (λ (i : ℕ). f (g i)) m
unfolding tab
map-tab f g zero = refl
map-tab f g (suc m) = map-append f (tab g m) (g m ∷ []) ∙ ap (λ z. z ++ (f (g m) ∷ [])) (map-tab f g m)

-- a list is the list of what stands at each index
pub tab-list : {A : Type 0} (d : A) (xs : List A) → tab (λ (i : ℕ). get_or xs i d) (length xs) ≡ xs
tab-list d xs =
    ext_get_or d _ xs (length-tab _ (length xs))
    (λ i h. get_or-tab (λ (j : ℕ). get_or xs j d) (length xs) i d (omega (arith, length-tab (λ (j : ℕ). get_or xs j d) (length xs))))
