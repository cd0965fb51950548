-- Lists that are filled from the front, in runs.
use mathlib.Core.Path.{◌≡◌, ap, ap₂, ◌∙◌, sym}
use mathlib.Core.List.{List, [], ◌∷◌, ◌++◌, append_assoc, append-nil}
use Prim.Native.Nat.{ℕ, zero, suc, ◌+◌, ◌<◌}
use native.Mathlib.Omega.{arith}
use native.Mathlib.Nat.{add-zero, add-suc}
use lib.ListN.{replicate, length-replicate, get_or-replicate}
use lib.Seq.{ext_get_or}
use Rattle.loops.specs.Part.{put, put_next}
use Rattle.loops.specs.Front.{front, tab, length-tab, get_or-tab}

-- outputs up to t, and then a run of m more
pub tab-run : {A : Type 0} (f g : ℕ → A) (t m : ℕ) → ((j : ℕ) → j < m → g j ≡ f (t + j)) → tab f t ++ tab g m ≡ tab f (t + m)
unfolding tab
tab-run f g t zero e = append-nil (tab f t) ∙ ap (tab f) (sym (add-zero t))
tab-run f g t (suc m) e =
    sym (append_assoc (tab f t) (tab g m) (g m ∷ []))
    ∙ ap (λ z. z ++ (g m ∷ [])) (tab-run f g t m (λ j h. e j (omega arith)))
    ∙ ap (λ z. tab f (t + m) ++ (z ∷ [])) (e m (omega arith)) ∙ sym (ap (tab f) (add-suc t m))

-- a run that is put behind the outputs up to t, which are then u
pub run_put : {A : Type 0} (f g : ℕ → A) (xs b y : List A) (t m k u : ℕ) → b ≡ front (tab f t) xs t → y ≡ tab g m
    → ((j : ℕ) → j < m → g j ≡ f (t + j)) → k ≡ m → t + m ≡ u → put t k y b ≡ front (tab f u) xs u
run_put f g xs b y t m k u e h q l a =
    ap₂ (λ n z. put t n z b) l h ∙ ap (put t m (tab g m)) e ∙ put_next t m (tab f t) (tab g m) xs (length-tab f t)
    ∙ ap (λ z. front z xs (t + m)) (tab-run f g t m q) ∙ ap (λ z. front (tab f z) xs z) a

-- n times the same
pub tab-const : {A : Type 0} (f : ℕ → A) (v : A) (n : ℕ) → ((i : ℕ) → i < n → f i ≡ v) → replicate n v ≡ tab f n
tab-const f v n e =
    ext_get_or v _ _ (length-replicate n v ∙ sym (length-tab f n))
    (λ i h. let l : i < n = omega (arith, length-replicate n v) in get_or-replicate n i v v l ∙ sym (e i l) ∙ sym (get_or-tab f n i v l))
