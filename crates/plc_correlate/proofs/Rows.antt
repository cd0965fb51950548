-- Rows of sums that grow side by side.
use mathlib.Core.Path.{◌≡◌, refl, ap, ◌∙◌, sym}
use mathlib.Core.Bool.{Bool, true}
use mathlib.Core.List.{List}
use Prim.Native.Nat.{ℕ, ◌+◌, ◌-◌, ◌≤◌, ◌<◌}
use native.Mathlib.Nat.{add_assoc, add_comm}
use lib.Ieee.{Float, nan, binary32, add, mul}
use native.Mathlib.Omega.{arith}
use lib.ListN.{length, get_or, take, drop, length-drop, replicate, length-replicate, get_or-replicate}
use lib.Seq.{get_or-drop, take_all}
use borrow.Author.Tests.{le-leb}
use Rattle.loops.specs.Front.{front, tab, tab-same, tab-list, tab-read, get_or-tab, length-tab}
use Rattle.reply.specs.Reply.{reply, reply_if, reply-lent, reply-taken}
use Rattle.loops.specs.Sum.{sum-none, sum_more, sum_same}
use Rattle.buffers.specs.Buffers.{zero32}
use Rattle.float_extremes.specs.Extremes.{max_of}
use Rattle.plc_best.specs.Best.{minus_one}
use Rattle.plc_correlate.specs.Correlation.{cross_sum, correlation, correlate_takes}

-- a sum of no terms
pub cross-none : (x y : List Float) (i : ℕ) → zero32 ≡ cross_sum x y i 0
unfolding cross_sum
cross-none x y i = sym (sum-none _ _ _)

-- j terms of each of the first m sums
abbrev pub row : List Float → List Float → ℕ → ℕ → List Float
row x y m j = tab (λ (i : ℕ). cross_sum x y i j) m

-- no term of any: zeros
pub row-none : (x y s : List Float) (m : ℕ) → s ≡ replicate m zero32 → s ≡ row x y (length s) 0
row-none x y s m e =
    sym (tab-list nan s)
    ∙ tab-same _ _ (length s)
    (λ i h. ap (λ z. get_or z i nan) e ∙ get_or-replicate m i zero32 nan (omega (arith, ap length e, length-replicate m zero32)) ∙ cross-none x y i)

-- a part that runs to the end
pub to_end : {A : Type 0} (j : ℕ) (y : List A) → take (length y - j) (drop j y) ≡ drop j y
to_end j y = take_all (length y - j) (drop j y) (omega (arith, length-drop j y))

-- one term more in each
pub row_more : (x y s r : List Float) (m j : ℕ) → s ≡ row x y m j → length s ≡ m
    → r ≡ tab (λ (i : ℕ). add binary32 (get_or s i nan) (mul binary32 (get_or x j nan) (get_or (take (length y - j) (drop j y)) i nan))) (length s)
    → r ≡ row x y m (j + 1)
unfolding cross_sum
row_more x y s r m j e l q =
    q ∙ ap (tab _) l
    ∙ tab-same _ _ m
    (λ i h.
    ap (λ z. add binary32 z (mul binary32 (get_or x j nan) (get_or (take (length y - j) (drop j y)) i nan))) (ap (λ z. get_or z i nan) e ∙ get_or-tab _ m i nan h)
    ∙ ap (λ z. add binary32 (cross_sum x y i j) (mul binary32 (get_or x j nan) z))
    (ap (λ z. get_or z i nan) (to_end j y) ∙ get_or-drop j y i nan ∙ ap (λ z. get_or y z nan) (add_comm j i))
    ∙ sum_more binary32 (λ (k : ℕ). mul binary32 (get_or x k nan) (get_or y (i + k) nan)) zero32 (cross_sum x y i j) j refl)

-- a sum that is raised in its turn
pub raised : (x y xs b : List Float) (m n i : ℕ) (v : Float) → b ≡ front (tab (correlation x y n) i) xs i → xs ≡ row x y m n → i < length xs
    → v ≡ max_of (get_or b i nan) minus_one → v ≡ correlation x y n i
unfolding correlation
raised x y xs b m n i v e q h r =
    r
    ∙ ap (λ z. max_of z minus_one)
    (tab-read _ nan xs b i e h ∙ ap (λ z. get_or z i nan) q ∙ get_or-tab _ m i nan (omega (arith, ap length q, length-tab (λ (k : ℕ). cross_sum x y k n) m)))

-- what a call leaves that took its lengths
pub correlated : {t : Bool} {r : List Float} (x y w : List Float)
    → reply t r ≡ reply_if (correlate_takes (length x) (length y) (length w)) (tab (correlation x y (length x)) (length w)) w → length x + length w ≤ length y + 1
    → r ≡ tab (correlation x y (length x)) (length w)
correlated x y w e h =
    reply-lent (correlate_takes (length x) (length y) (length w)) (tab (correlation x y (length x)) (length w)) w e
    (le-leb (length x + length w) (length y + 1) h)

-- it takes them
pub taken : {t : Bool} {r : List Float} (x y w : List Float)
    → reply t r ≡ reply_if (correlate_takes (length x) (length y) (length w)) (tab (correlation x y (length x)) (length w)) w → length x + length w ≤ length y + 1
    → t ≡ true
taken x y w e h =
    reply-taken (correlate_takes (length x) (length y) (length w)) (tab (correlation x y (length x)) (length w)) w e
    ∙ le-leb (length x + length w) (length y + 1) h

-- samples from `lo` on, counted from there
pub from : (x y : List Float) (lo k n : ℕ) → correlation x (drop lo y) n k ≡ correlation x y n (lo + k)
unfolding correlation cross_sum
from x y lo k n =
    ap (λ z. max_of z minus_one)
    (sum_same binary32 (λ (j : ℕ). mul binary32 (get_or x j nan) (get_or (drop lo y) (k + j) nan))
    (λ (j : ℕ). mul binary32 (get_or x j nan) (get_or y (lo + k + j) nan)) zero32 n
    (λ j h. ap (λ z. mul binary32 (get_or x j nan) z) (get_or-drop lo y (k + j) nan ∙ ap (λ z. get_or y z nan) (sym (add_assoc lo k j)))))
