-- the all-zero filter from a place on, by the taps of a padded part
use mathlib.Core.Path.{◌≡◌, ap, ◌∙◌, sym}
use mathlib.Core.Bool.{Bool}
use mathlib.Core.List.{List, [], ◌++◌, append-nil}
use Prim.Native.Nat.{ℕ, ◌+◌, ◌-◌, ◌≤◌, ◌<◌}
use native.Mathlib.Omega.{arith}
use lib.ListN.{length, get_or, take, drop, length-drop, drop_of_length-le}
use lib.Seq.{get_or-drop, get_or-take, length-take-le, take_all, ext_get_or}
use lib.Ieee.{Float, nan, binary32, mul}
use Rattle.loops.specs.Front.{tab, length-tab, get_or-tab, tab-same}
use Rattle.loops.specs.Part.{put}
use Rattle.reply.specs.Reply.{reply, reply_if}
use Rattle.loops.specs.Sum.{sum_to, sum_same}
use Rattle.plc_pad.specs.Past.{past}
use Rattle.plc_pad.specs.Pad.{Remembers, Holds, tap, taps_row}
use Rattle.plc_fir.specs.Fir.{fir_at, celt_fir, celt_fir_from, fir_takes, length-celt_fir, celt_fir_from-0}
use Rattle.plc_pad.proofs.Taps.{reads-past}

drop-tab : (f : ℕ → Float) (a n : ℕ) → drop a (tab f n) ≡ tab (λ (i : ℕ). f (a + i)) (n - a)
drop-tab f a n =
    let l : length (drop a (tab f n)) ≡ n - a = length-drop a (tab f n) ∙ ap (λ z. z - a) (length-tab f n) in
    ext_get_or nan _ _ (l ∙ sym (length-tab (λ (i : ℕ). f (a + i)) (n - a)))
    (λ i h. get_or-drop a (tab f n) i nan ∙ get_or-tab f n (a + i) nan (omega arith) ∙ sym (get_or-tab (λ (k : ℕ). f (a + k)) (n - a) i nan (omega arith)))

module _
    (num mem x pad : List Float)
    (from : ℕ)
    (r : Remembers pad mem)
    (w : Holds pad x (length x))
    (s : length num ≡ length mem)
    (m : length num ≤ 24)
    (h : from ≤ length x) where
  abbrev part : List Float
  part = take (length x + 24 - from) (drop from pad)

  abbrev rest : List Float
  rest = take (length x - from) (drop from x)

  row_fir : (i : ℕ) → i < length x - from → taps_row num part rest (length num) i ≡ fir_at num mem x (from + i)
  unfolding fir_at
  row_fir i l =
      let v : get_or rest i nan ≡ get_or x (from + i) nan = get_or-take (length x - from) (drop from x) i nan l ∙ get_or-drop from x i nan in
      ap (λ z. sum_to binary32 (tap num part i) z (length num)) v
      ∙ sum_same binary32 (tap num part i) (λ (j : ℕ). mul binary32 (get_or num j nan) (past x mem (from + i) j)) (get_or x (from + i) nan) (length num)
      (λ j k.
      let p : from + (23 + i - j) ≡ 23 + (from + i) - j = omega arith in
      ap (mul binary32 (get_or num j nan))
      (get_or-take (length x + 24 - from) (drop from pad) (23 + i - j) nan (omega arith) ∙ get_or-drop from pad (23 + i - j) nan
      ∙ ap (λ z. get_or pad z nan) p ∙ reads-past x mem pad (length x) (from + i) j r w (omega arith) (omega arith) (omega arith)))

  pub fir_part : (y : List Float) → y ≡ tab (taps_row num part rest (length num)) (length rest) → put from (length x - from) y x ≡ celt_fir_from from num mem x
  unfolding celt_fir celt_fir_from
  fir_part y e =
      let l : length rest ≡ length x - from = length-take-le (length x - from) (drop from x) (omega (arith, length-drop from x)) in
      let d : drop (length x - from) (drop from x) ≡ [] = drop_of_length-le (drop from x) {i = length x - from} (omega (arith, length-drop from x)) in
      ap (λ z. take from x ++ (y ++ z)) d ∙ ap (λ z. take from x ++ z) (append-nil y)
      ∙ ap (λ z. take from x ++ z)
      (e ∙ ap (tab (taps_row num part rest (length num))) l
      ∙ tab-same (taps_row num part rest (length num)) (λ (i : ℕ). fir_at num mem x (from + i)) (length x - from) row_fir
      ∙ sym (drop-tab (fir_at num mem x) from (length x)))

-- nothing is filtered from the end on
pub fir_none : (num mem x : List Float) (from : ℕ) → length x ≤ from → x ≡ celt_fir_from from num mem x
unfolding celt_fir_from
fir_none num mem x from h =
    sym (ap (λ z. z ++ drop from (celt_fir num mem x)) (take_all from x h)
    ∙ ap (λ z. x ++ z) (drop_of_length-le (celt_fir num mem x) {i = from} (omega (arith, length-celt_fir num mem x))) ∙ append-nil x)

-- from place 0 on is all
pub fir_all : {r : Bool} {y : List Float} (num mem x : List Float)
    → reply r y ≡ reply_if (fir_takes (length num) (length mem) (length x)) (celt_fir_from 0 num mem x) x
    → reply r y ≡ reply_if (fir_takes (length num) (length mem) (length x)) (celt_fir num mem x) x
fir_all num mem x e = e ∙ ap (λ z. reply_if (fir_takes (length num) (length mem) (length x)) z x) (celt_fir_from-0 num mem x)
