-- Counting loops as folds: the state after n turns, turn i taking a to f a i.
use Rattle.std.specs.Prelude.{◌≡◌, refl, ℕ, zero, suc, ◌+◌, ◌-◌, ◌≤◌, ◌<◌}
use Rattle.std.proofs.Common.{ap, ◌∙◌, sym, arith, add-one, add-zero, add-suc}

unfoldable pub fold_to : {A : Type 0} → (A → ℕ → A) → A → ℕ → A
fold_to f a zero = a
fold_to f a (suc n) = f (fold_to f a n) n

-- one more turn, as a loop's invariant asks for it
pub fold_more : {A : Type 0} (f : A → ℕ → A) (a b : A) (n : ℕ) → b ≡ fold_to f a n → f b n ≡ fold_to f a (n + 1)
unfolding fold_to
fold_more f a b n h = ap (λ x. f x n) h ∙ sym (ap (fold_to f a) (add-one n))

-- one more turn, at n + 1
pub fold-suc : {A : Type 0} (f : A → ℕ → A) (a : A) (n : ℕ) → fold_to f a (n + 1) ≡ f (fold_to f a n) n
unfolding fold_to
fold-suc f a n = ap (fold_to f a) (add-one n)

-- no turn
pub fold-none : {A : Type 0} (f : A → ℕ → A) (a : A) → fold_to f a 0 ≡ a
unfolding fold_to
fold-none f a = refl

-- a state that no later turn changes is the state at the end
pub fold-still : {A : Type 0} (f : A → ℕ → A) (a b : A) (i : ℕ) → fold_to f a i ≡ b → ((n : ℕ) → f b n ≡ b) → (k : ℕ) → fold_to f a (i + k) ≡ b
unfolding fold_to
fold-still f a b i e s zero = ap (fold_to f a) (add-zero i) ∙ e
fold-still f a b i e s (suc k) = ap (fold_to f a) (add-suc i k) ∙ ap (λ z. f z (i + k)) (fold-still f a b i e s k) ∙ s (i + k)

-- turns that do the same give the same
pub fold_same : {A : Type 0} (f g : A → ℕ → A) (a : A) (n : ℕ) → ((s : A) (i : ℕ) → i < n → f s i ≡ g s i) → fold_to f a n ≡ fold_to g a n
unfolding fold_to
fold_same f g a zero e = refl
fold_same f g a (suc n) e =
    ap (λ z. f z n) (fold_same f g a n (λ s i h. e s i (omega arith))) ∙ e (fold_to g a n) n (omega arith)

-- the first m turns, and then n more
pub fold-split : {A : Type 0} (f : A → ℕ → A) (a : A) (m n : ℕ) → fold_to f a (m + n) ≡ fold_to (λ s k. f s (m + k)) (fold_to f a m) n
unfolding fold_to
fold-split f a m zero = ap (fold_to f a) (add-zero m)
fold-split f a m (suc n) = ap (fold_to f a) (add-suc m n) ∙ ap (λ z. f z (m + n)) (fold-split f a m n)

-- `for i in lo..hi`
unfoldable pub fold_range : {A : Type 0} → (A → ℕ → A) → A → ℕ → ℕ → A
fold_range f a lo hi = fold_to (λ s k. f s (lo + k)) a (hi - lo)

pub range_none : {A : Type 0} (f : A → ℕ → A) (a : A) (lo hi : ℕ) → hi ≤ lo → fold_range f a lo hi ≡ a
unfolding fold_range fold_to
range_none f a lo hi h = let e : hi - lo ≡ 0 = omega arith in ap (fold_to (λ s k. f s (lo + k)) a) e

pub range-more : {A : Type 0} (f : A → ℕ → A) (a b : A) (lo i : ℕ) → b ≡ fold_range f a lo i → lo ≤ i → f b i ≡ fold_range f a lo (i + 1)
unfolding fold_range
range-more f a b lo i e h =
    let p : lo + (i - lo) ≡ i = omega arith in
    let q : i - lo + 1 ≡ i + 1 - lo = omega arith in
    ap (f b) (sym p) ∙ fold_more (λ s k. f s (lo + k)) a b (i - lo) e ∙ ap (fold_to (λ s k. f s (lo + k)) a) q

-- what each turn keeps, the fold keeps
pub fold-keeps : {A B : Type 0} (g : A → B) (f : A → ℕ → A) (a : A) (n : ℕ) → ((s : A) (i : ℕ) → g (f s i) ≡ g s) → g (fold_to f a n) ≡ g a
unfolding fold_to
fold-keeps g f a zero k = refl
fold-keeps g f a (suc n) k = k (fold_to f a n) n ∙ fold-keeps g f a n k

-- what holds at the start and is kept by each turn holds at the end
pub fold-holds : {A : Type 0} (P : A → Type 0) (f : A → ℕ → A) (a : A) (n : ℕ) → P a → ((s : A) (i : ℕ) → i < n → P s → P (f s i)) → P (fold_to f a n)
unfolding fold_to
fold-holds P f a zero h k = h
fold-holds P f a (suc n) h k = k (fold_to f a n) n (omega arith) (fold-holds P f a n h (λ s i l. k s i (omega arith)))
