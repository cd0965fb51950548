-- The finer search: places near twice the coarse best, and the row of correlations around them.
use mathlib.Core.Path.{◌≡◌, refl, ap, ap₂, ◌∙◌, sym}
use mathlib.Core.Bool.{Bool, true, false, cond, ◌||◌}
use mathlib.Core.List.{List}
use Prim.Native.Nat.{ℕ, ◌+◌, ◌*◌, ◌-◌, ◌≤◌}
use native.Mathlib.Omega.{arith}
use lib.Dec.{leb}
use lib.Ieee.{Float, nan}
use lib.ListN.{length, get_or, take, drop, length-drop}
use borrow.Author.Tests.{leb-true}
use Rattle.std.specs.Prelude.{Option, Some, None, unwrap_or}
use Rattle.std.specs.Option.{option_or}
use Rattle.loops.specs.Front.{tab, tab-same, get_or-tab}
use Rattle.loops.specs.Logic.{and-true}
use Rattle.reply.specs.Reply.{reply, reply_if}
use Rattle.buffers.specs.Buffers.{zero32}
use Rattle.plc_search.specs.Search.{near, fine_at}
use Rattle.plc_correlate.specs.Correlation.{correlation, correlate_takes}
use Rattle.plc_search.specs.Rows.{near_row, near_at}
use Rattle.plc_correlate.proofs.Rows.{to_end, correlated, taken, from}

-- ---- which places are near
module _ (b i : ℕ) where
  low_end : near b i ≡ true → 2 * b ≤ i + 2
  unfolding near
  low_end e = leb-true (2 * b) (i + 2) (and-true _ _ e).0

  high_end : near b i ≡ true → i ≤ 2 * b + 2
  unfolding near
  high_end e = leb-true i (2 * b + 2) (and-true (leb (2 * b) (i + 2)) _ e).1

-- ---- the row around twice b
module _ (y : List Float) (h : length y ≡ 1024) where
  -- what is left of the 1,024 samples from k on, and how long it is
  pub rest : (k : ℕ) → take (1024 - k) (drop k y) ≡ drop k y
  rest k = ap (λ z. take (z - k) (drop k y)) (sym h) ∙ to_end k y

  length-rest : (k : ℕ) → length (take (1024 - k) (drop k y)) ≡ 1024 - k
  length-rest k = ap length (rest k) ∙ omega (arith, length-drop k y)

  module _ {t : Bool} {r : List Float} (w : List Float) (b lo : ℕ) (e : lo ≡ 2 * b - 2) (k : b ≤ 154) (q : length w ≡ 5)
      (v : reply t r
      ≡ reply_if (correlate_takes (length (take 664 (drop 360 y))) (length (take (1024 - lo) (drop lo y))) (length w))
      (tab (correlation (take 664 (drop 360 y)) (take (1024 - lo) (drop lo y)) (length (take 664 (drop 360 y)))) (length w)) w) where
    pub near-taken : t ≡ true
    near-taken = taken (take 664 (drop 360 y)) (take (1024 - lo) (drop lo y)) w v (omega (arith, length-rest 360, length-rest lo))

    pub near-row : r ≡ near_row y b
    unfolding near_row
    near-row =
        correlated (take 664 (drop 360 y)) (take (1024 - lo) (drop lo y)) w v (omega (arith, length-rest 360, length-rest lo))
        ∙ ap (λ z. tab (correlation (take 664 (drop 360 y)) (take (1024 - lo) (drop lo y)) z) (length w)) (length-rest 360)
        ∙ ap (λ z. tab (correlation z (take (1024 - lo) (drop lo y)) 664) (length w)) (rest 360)
        ∙ ap (λ z. tab (correlation (drop 360 y) z 664) (length w)) (rest lo)
        ∙ ap (tab (correlation (drop 360 y) (drop lo y) 664)) q
        ∙ tab-same _ _ 5 (λ k h. from (drop 360 y) y lo k 664 ∙ ap (λ z. correlation (drop 360 y) y 664 (z + k)) e)

row_has : (y : List Float) (b i : ℕ) → near b i ≡ true → get_or (near_row y b) (i - (2 * b - 2)) nan ≡ correlation (drop 360 y) y 664 i
unfolding near_row
row_has y b i e =
    let h : 2 * b ≤ i + 2 = low_end b i e in
    let k : i ≤ 2 * b + 2 = high_end b i e in
    get_or-tab _ 5 (i - (2 * b - 2)) nan (omega arith) ∙ ap (correlation (drop 360 y) y 664) (omega arith)

-- both rows together give the finer correlation
both-rows : (y : List Float) (b0 b1 i : ℕ) → unwrap_or (option_or (near_at (near_row y b0) b0 i) (near_at (near_row y b1) b1 i)) zero32 ≡ fine_at y b0 b1 i
unfolding fine_at near_at
both-rows y b0 b1 i = go (near b0 i) (near b1 i) (row_has y b0 i) (row_has y b1 i)
  where
    go : (p q : Bool) → (p ≡ true → get_or (near_row y b0) (i - (2 * b0 - 2)) nan ≡ correlation (drop 360 y) y 664 i)
        → (q ≡ true → get_or (near_row y b1) (i - (2 * b1 - 2)) nan ≡ correlation (drop 360 y) y 664 i)
        → unwrap_or
        (option_or (cond p (Some (get_or (near_row y b0) (i - (2 * b0 - 2)) nan)) None) (cond q (Some (get_or (near_row y b1) (i - (2 * b1 - 2)) nan)) None))
        zero32
        ≡ cond (p || q) (correlation (drop 360 y) y 664 i) zero32
    go true q e0 e1 = e0 refl
    go false true e0 e1 = e1 refl
    go false false e0 e1 = refl

pub fine-at : {o0 o1 : Option Float} (y r0 r1 : List Float) (n0 n1 b0 b1 i : ℕ) → n0 ≡ b0 → n1 ≡ b1 → r0 ≡ near_row y b0 → r1 ≡ near_row y b1
    → o0 ≡ near_at r0 n0 i → o1 ≡ near_at r1 n1 i → unwrap_or (option_or o0 o1) zero32 ≡ fine_at y b0 b1 i
fine-at y r0 r1 n0 n1 b0 b1 i m0 m1 e0 e1 q0 q1 =
    ap₂ (λ s t. unwrap_or (option_or s t) zero32) (q0 ∙ ap₂ (λ r b. near_at r b i) e0 m0) (q1 ∙ ap₂ (λ r b. near_at r b i) e1 m1)
    ∙ both-rows y b0 b1 i
