-- the sums of the autocorrelation, term by term
use mathlib.Core.Path.{◌≡◌, ap, ap₂, ◌∙◌, sym}
use mathlib.Core.List.{List, ◌∷◌}
use Prim.Native.Nat.{ℕ, suc, ◌+◌, ◌-◌, ◌≤◌, ◌<◌, min}
use native.Mathlib.Omega.{arith}
use lib.ListN.{length, get_or, set}
use Rattle.std.proofs.Common.{reverse, ext_get_or, take, drop, drop-drop, length-take, length-drop, get_or-take, get_or-drop}
use Rattle.std.proofs.lemmas.List.{get_or-reverse, length-reverse}
use lib.Ieee.{Float, nan, binary32, add, mul}
use Rattle.loops.specs.Front.{front, tab, tab-read, tab-more, get_or-tab, length-tab}
use Rattle.loops.specs.Sum.{sum_to, sum-none, sum_more}
use Rattle.buffers.specs.Buffers.{zero32}
use Rattle.plc.specs.Const.{floor32}
use Rattle.plc.specs.Autocorr.{lag_term, lag_to, lag_sum, row_at, lag_row, celt_autocorr}

pub lag_none : (x : List Float) (lag end : ℕ) → end ≤ lag → zero32 ≡ lag_to x lag end
unfolding lag_to
lag_none x lag end h =
    let e : end - lag ≡ 0 = omega arith in
    sym (ap (sum_to binary32 (lag_term x lag) zero32) e ∙ sum-none binary32 (lag_term x lag) zero32)

pub lag_more : (x : List Float) (lag i k : ℕ) (s : Float) → lag ≤ i → k ≡ i - lag → s ≡ lag_to x lag i
    → add binary32 s (mul binary32 (get_or x i nan) (get_or x k nan)) ≡ lag_to x lag (i + 1)
unfolding lag_to
lag_more x lag i k s h ek e =
    let p : i ≡ lag + (i - lag) = omega arith in
    let q : i - lag + 1 ≡ i + 1 - lag = omega arith in
    ap (λ z. add binary32 s (mul binary32 (get_or x i nan) (get_or x z nan))) ek
    ∙ ap (λ z. add binary32 s (mul binary32 (get_or x z nan) (get_or x (i - lag) nan))) p
    ∙ sum_more binary32 (lag_term x lag) zero32 s (i - lag) e
    ∙ ap (sum_to binary32 (lag_term x lag) zero32) q

-- one more pair of the samples from lag on and those from the start
pub zip_more : (x : List Float) (lag m k n : ℕ) (s a b : Float) → s ≡ lag_to x lag (lag + k) → k < length (take m (drop lag x))
    → a ≡ get_or (take m (drop lag x)) k nan → b ≡ get_or x k nan → n ≡ k + 1 → add binary32 s (mul binary32 a b) ≡ lag_to x lag (lag + n)
zip_more x lag m k n s a b e h p q r =
    let g : k < m = omega (arith, h, length-take m (drop lag x)) in
    let i : lag + k + 1 ≡ lag + n = omega (arith, r) in
    ap₂ (λ y z. add binary32 s (mul binary32 y z)) (p ∙ get_or-take m (drop lag x) k nan g ∙ get_or-drop lag x k nan) q
    ∙ lag_more x lag (lag + k) k s (omega arith) (omega arith) e ∙ ap (lag_to x lag) i

-- all pairs, as many as there are from lag to top
pub zip_all : (x : List Float) (lag top k : ℕ) (s : Float) → s ≡ lag_to x lag (lag + k) → k ≡ min (length (take (top - lag) (drop lag x))) (length x)
    → lag ≤ top → top ≤ length x → s ≡ lag_to x lag top
zip_all x lag top k s e m h l =
    let n : lag + k ≡ top = omega (arith, m, length-take (top - lag) (drop lag x), length-drop lag x) in
    e ∙ ap (lag_to x lag) n

-- one more lag's term at sample i
pub row_more : (x : List Float) (n i j k : ℕ) (row₀ row : List Float) → row₀ ≡ lag_row x n i → row ≡ front (tab (row_at x n (i + 1)) j) row₀ j
    → j < n → n ≤ i + 1 → k ≡ i - (n - 1 - j)
    → set row j (add binary32 (get_or row j nan) (mul binary32 (get_or x i nan) (get_or x k nan))) ≡ front (tab (row_at x n (i + 1)) (j + 1)) row₀ (j + 1)
row_more x n i j k row₀ row e₀ e h g ek =
    let l : length row₀ ≡ n = ap length e₀ ∙ length-tab (row_at x n i) n in
    let r : get_or row j nan ≡ lag_to x (n - 1 - j) i =
    tab-read (row_at x n (i + 1)) nan row₀ row j e (omega arith) ∙ ap (λ z. get_or z j nan) e₀ ∙ get_or-tab (row_at x n i) n j nan h in
    tab-more (row_at x n (i + 1)) nan row₀ row j e _ (lag_more x (n - 1 - j) i k (get_or row j nan) (omega arith) ek r) (omega arith)

-- one sample more of those from i on
pub sample_turn : (x rest next : List Float) (i : ℕ) (v : Float) → rest ≡ drop i x → rest ≡ v ∷ next
    → (i < length x) × (next ≡ drop (i + 1) x) × (v ≡ get_or x i nan) × (length x - length next ≡ i + 1)
sample_turn x rest next i v e f =
    let h : length rest ≡ suc (length next) = ap length f in
    let g : i < length x = omega (arith, h, ap length e, length-drop i x) in
    let z : i + 0 ≡ i = omega arith in (
      g,
      ap (drop 1) (sym f ∙ e) ∙ drop-drop 1 i x,
      ap (λ z. get_or z 0 nan) (sym f ∙ e) ∙ get_or-drop i x 0 nan ∙ ap (λ m. get_or x m nan) z,
      omega (arith, h, ap length e, length-drop i x),
    )

-- the window beside the sample has what every lag's term multiplies it by
pub row_turn : (x rest next w part row₀ row : List Float) (v : Float) (n k j size : ℕ) → rest ≡ drop (n - 1 + k) x → rest ≡ v ∷ next
    → size ≡ n → w ≡ drop k x → part ≡ take size w → row₀ ≡ lag_row x n (n - 1 + k)
    → row ≡ front (tab (row_at x n (length x - length next)) j) row₀ j → j < n
    → set row j (add binary32 (get_or row j nan) (mul binary32 v (get_or part j nan))) ≡ front (tab (row_at x n (length x - length next)) (j + 1)) row₀ (j + 1)
row_turn x rest next w part row₀ row v n k j size e f es ew ep e₀ er h =
    let t = sample_turn x rest next (n - 1 + k) v e f in
    let i = n - 1 + k in
    let r : get_or part j nan ≡ get_or x (k + j) nan =
    ap (λ z. get_or z j nan) ep ∙ get_or-take size w j nan (omega arith) ∙ ap (λ z. get_or z j nan) ew ∙ get_or-drop k x j nan in
    ap₂ (λ y z. set row j (add binary32 (get_or row j nan) (mul binary32 y z))) t.2 r
    ∙ row_more x n i j (k + j) row₀ row e₀ (er ∙ ap (λ z. front (tab (row_at x n z) j) row₀ j) t.3) h (omega arith) (omega arith)
    ∙ sym (ap (λ z. front (tab (row_at x n z) (j + 1)) row₀ (j + 1)) t.3)

-- a row that has the longest lag first, turned
pub turned : (x : List Float) (n : ℕ) (row y : List Float) → row ≡ lag_row x n (length x) → y ≡ reverse row → y ≡ tab (lag_sum x) n
turned x n row y e r =
    let l : length row ≡ n = ap length e ∙ length-tab (row_at x n (length x)) n in
    let m : length y ≡ n = ap length r ∙ length-reverse row ∙ l in
    ext_get_or nan y (tab (lag_sum x) n) (m ∙ sym (length-tab (lag_sum x) n))
    (λ k h.
    let p : n - 1 - (length row - 1 - k) ≡ k = omega arith in
    ap (λ z. get_or z k nan) r ∙ get_or-reverse row k nan (omega arith) ∙ ap (λ z. get_or z (length row - 1 - k) nan) e
    ∙ get_or-tab (row_at x n (length x)) n (length row - 1 - k) nan (omega arith) ∙ ap (λ z. lag_to x z (length x)) p
    ∙ sym (get_or-tab (lag_sum x) n k nan (omega arith)))

-- the noise floor on the first
pub floored : (x : List Float) (n : ℕ) (ac : List Float) → ac ≡ tab (lag_sum x) n → 0 < n
    → set ac 0 (add binary32 (get_or ac 0 nan) floor32) ≡ celt_autocorr x n
unfolding celt_autocorr
floored x n ac e h =
    ap (λ z. set z 0 (add binary32 (get_or z 0 nan) floor32)) e
    ∙ ap (λ z. set (tab (lag_sum x) n) 0 (add binary32 z floor32)) (get_or-tab (lag_sum x) n 0 nan h)
