-- the all-pole filter, output after output, from a padded buffer
use mathlib.Core.Path.{◌≡◌, refl, ap, ◌∙◌, sym}
use mathlib.Core.Bool.{Bool, true, false}
use mathlib.Core.List.{List, [], ◌∷◌, ◌++◌}
use Prim.Native.Nat.{ℕ, ◌+◌, ◌-◌, ◌≤◌, ◌<◌}
use native.Mathlib.Omega.{arith}
use native.Mathlib.Numerals.{add-one}
use lib.Dec.{eqb}
use lib.ListN.{length, get_or, set, length-set, get_or-append}
use lib.Seq.{get_or_at, get_or-set_same, get_or-set_other}
use lib.Ieee.{Float, nan, binary32, sub, mul}
use borrow.Author.Tests.{eqb-true, eqb-false}
use Rattle.loops.specs.Fold.{fold_to, fold_same}
use Rattle.loops.specs.Front.{front, front_read, front-write, front-all}
use Rattle.plc_pad.specs.Past.{past}
use Rattle.plc_pad.specs.Pad.{Remembers, Holds, tap, taps_taken}
use Rattle.plc_iir.specs.Iir.{iir_at, iir_to, celt_iir, length-iir_to}
use Rattle.plc_pad.proofs.Taps.{reads-past}

-- the memory stays where a sample is written
remembers_keep : (mem pad : List Float) (i : ℕ) (v : Float) → Remembers pad mem → length mem ≤ 24 → Remembers (set pad (24 + i) v) mem
remembers_keep mem pad i v r m k h = get_or-set_other pad (24 + i) (23 - k) v nan (λ p. omega arith) ∙ r k h

-- one more sample: ys has those of xs and v
holds_more : (xs ys pad : List Float) (i : ℕ) (v : Float) → Holds pad xs i → ((k : ℕ) → k < i → get_or xs k nan ≡ get_or ys k nan) → v ≡ get_or ys i nan
    → 24 + i < length pad → Holds (set pad (24 + i) v) ys (i + 1)
holds_more xs ys pad i v w s e l k h = go (eqb k i) refl
  where
    go : (b : Bool) → eqb k i ≡ b → get_or (set pad (24 + i) v) (24 + k) nan ≡ get_or ys k nan
    go true q =
        let p : k ≡ i = eqb-true k i q in
        ap (λ z. get_or (set pad (24 + i) v) (24 + z) nan) p ∙ get_or-set_same pad (24 + i) v nan l ∙ e ∙ ap (λ z. get_or ys z nan) (sym p)
    go false q =
        let g : k < i = omega (arith, eqb-false k i q) in
        get_or-set_other pad (24 + i) (24 + k) v nan (λ p. eqb-false k i q (omega arith)) ∙ w k g ∙ s k g

-- the first i samples are filtered, in buf and behind the memory in y
abbrev pub Filtered : List Float → List Float → List Float → List Float → List Float → ℕ → Type 0
Filtered den mem x buf y i =
    (length buf ≡ length x) × (length y ≡ 1224) × Remembers y mem × Holds y (iir_to den mem x i) i × (buf ≡ front (iir_to den mem x i) x i)

module _ (den mem x : List Float) where
  pub filtered-none : (y : List Float) → length y ≡ 1224 → Remembers y mem → Filtered den mem x x y 0
  unfolding front iir_to
  filtered-none y l r = (refl, l, r, λ i h. let z : ⊥ = omega arith in absurd z, refl)

  iir_suc : (i : ℕ) → iir_to den mem x (i + 1) ≡ iir_to den mem x i ++ (iir_at den mem x (iir_to den mem x i) i ∷ [])
  unfolding iir_to
  iir_suc i = ap (iir_to den mem x) (add-one i)

  iir_step : (y : List Float) (i : ℕ) (v s : Float) → Remembers y mem → Holds y (iir_to den mem x i) i → length den ≡ 24 → length mem ≡ 24
      → v ≡ get_or x i nan → s ≡ taps_taken den y i v 24 → s ≡ iir_at den mem x (iir_to den mem x i) i
  unfolding iir_at
  iir_step y i v s r w d m ev es =
      let t : Float → ℕ → Float = λ s j. sub binary32 s (mul binary32 (get_or den j nan) (past (iir_to den mem x i) mem i j)) in
      es
      ∙ fold_same (λ (s : Float) (j : ℕ). sub binary32 s (tap den y i j)) t v 24
      (λ z j h. ap (λ u. sub binary32 z (mul binary32 (get_or den j nan) u)) (reads-past (iir_to den mem x i) mem y i i j r w (omega arith) (omega arith) (omega arith)))
      ∙ ap (λ z. fold_to t z 24) ev ∙ ap (fold_to t (get_or x i nan)) (sym d)

  pub filtered-more : (buf y : List Float) (i : ℕ) (s : Float) → Filtered den mem x buf y i → i < length x → length x ≤ 1200 → length den ≡ 24 → length mem ≡ 24
      → s ≡ taps_taken den y i (get_or buf i nan) 24 → Filtered den mem x (set buf i s) (set y (24 + i) s) (i + 1)
  filtered-more buf y i s f h n d m es =
      let b : buf ≡ front (iir_to den mem x i) x i = f.4 in
      let l : length (iir_to den mem x i) ≡ i = length-iir_to den mem x i in
      let a : Float = iir_at den mem x (iir_to den mem x i) i in
      let e : s ≡ a = iir_step y i (get_or buf i nan) s f.2 f.3 d m (front_read nan x buf (iir_to den mem x i) i b l h) es in (
        length-set buf i s ∙ f.0,
        length-set y (24 + i) s ∙ f.1,
        remembers_keep mem y i s f.2 (omega arith),
        holds_more (iir_to den mem x i) (iir_to den mem x (i + 1)) y i s f.3
            (λ k g. sym (ap (λ z. get_or z k nan) (iir_suc i) ∙ get_or-append (iir_to den mem x i) (a ∷ []) nan k (omega arith)))
            (e ∙ sym (ap (λ z. get_or z i nan) (iir_suc i) ∙ get_or_at (iir_to den mem x i) a [] nan i l))
            (let q : length y ≡ 1224 = f.1 in omega arith),
        front-write nan x buf (iir_to den mem x i) i b l s h
            ∙ ap (λ z. front (iir_to den mem x i ++ (z ∷ [])) x (i + 1)) e ∙ ap (λ z. front z x (i + 1)) (sym (iir_suc i)),
      )

  pub filtered-all : (buf y : List Float) (i : ℕ) → Filtered den mem x buf y i → length x ≡ i → buf ≡ celt_iir den mem x
  unfolding celt_iir
  filtered-all buf y i f h =
      front-all nan x buf (iir_to den mem x i) i f.4 (length-iir_to den mem x i) (omega arith) ∙ ap (iir_to den mem x) (sym h)
