-- build_low_overlap_window_f32, and what the lost path reads of it.
use Rattle.std.specs.Prelude.{◌≡◌, Bool, List, ◌++◌, ℕ, ◌+◌, ◌-◌, ◌*◌, ◌/◌, ◌%◌, ◌≤◌, ◌<◌, length, replicate, Float}
use Rattle.std.proofs.Math.Path.{refl, ap}
use Rattle.std.proofs.Common.{◌∙◌, subst, get_or-append-add}
use Rattle.std.proofs.Math.Bool.{true, false}
use native.Mathlib.Omega.{arith}
use Rattle.std.proofs.Math.Dec.{ltb}
use Rattle.std.proofs.Math.ListN.{get_or, length-replicate, get_or-replicate, length-append, get_or-append}
use Rattle.std.specs.Float.Ieee.{nan, binary32, of_bits}
use borrow.Author.Tests.{ltb-true, ltb-false, lt-ltb, le-ltb}
use Rattle.loops.specs.Front.{tab, length-tab, get_or-tab}
use Rattle.celt_window.specs.Window.{low_overlap_window}

abbrev pub pad : ℕ → List Float
pad n = replicate ((n - 120) / 2) (of_bits binary32 0)

abbrev pub flat : ℕ → List Float
flat n = replicate (n - 120) (of_bits binary32 0x3f80_0000)

abbrev pub falling : List Float → List Float
falling w = tab (λ (i : ℕ). get_or w (119 - i) nan) 120

-- the 2 n samples, in the order in which the Rust pushes them
unfoldable pub build_low_overlap_window : List Float → ℕ → List Float
build_low_overlap_window w n = pad n ++ (w ++ (flat n ++ (falling w ++ pad n)))

-- past a list of k elements
past : (xs ys : List Float) (k i : ℕ) → length xs ≡ k → get_or (xs ++ ys) (k + i) nan ≡ get_or ys i nan
past xs ys k i e = subst (λ (m : ℕ). get_or (xs ++ ys) (m + i) nan ≡ get_or ys i nan) e (get_or-append-add xs ys i nan)

module _ (w : List Float) (n : ℕ) (e : length w ≡ 120) (l : 120 ≤ n) (even : n % 2 ≡ 0) where
  pub length-build : length (build_low_overlap_window w n) ≡ 2 * n
  unfolding build_low_overlap_window
  length-build =
      omega (
        arith,
        length-append (pad n) (w ++ (flat n ++ (falling w ++ pad n))),
        length-append w (flat n ++ (falling w ++ pad n)),
        length-append (flat n) (falling w ++ pad n),
        length-append (falling w) (pad n),
        length-tab (λ (i : ℕ). get_or w (119 - i) nan) 120,
        length-replicate ((n - 120) / 2) (of_bits binary32 0),
        length-replicate (n - 120) (of_bits binary32 0x3f80_0000),
      )

  rises : (j : ℕ) → j < 120 → get_or (w ++ (flat n ++ (falling w ++ pad n))) j nan ≡ low_overlap_window w n j
  unfolding low_overlap_window
  rises j h = get_or-append w (flat n ++ (falling w ++ pad n)) nan j (omega arith) ∙ simp (lt-ltb j 120 h)

  stays : (j : ℕ) → 120 ≤ j → j < n → get_or (w ++ (flat n ++ (falling w ++ pad n))) j nan ≡ low_overlap_window w n j
  unfolding low_overlap_window
  stays j g h =
      let k : j ≡ 120 + (j - 120) = omega arith in
      ap (λ z. get_or (w ++ (flat n ++ (falling w ++ pad n))) z nan) k
      ∙ past w (flat n ++ (falling w ++ pad n)) 120 (j - 120) e
      ∙ get_or-append (flat n) (falling w ++ pad n) nan (j - 120) (omega (arith, length-replicate (n - 120) (of_bits binary32 0x3f80_0000)))
      ∙ get_or-replicate (n - 120) (j - 120) (of_bits binary32 0x3f80_0000) nan (omega arith)
      ∙ simp (le-ltb j 120 g, lt-ltb j n h)

  falls : (j : ℕ) → n ≤ j → j < n + 120 → get_or (w ++ (flat n ++ (falling w ++ pad n))) j nan ≡ low_overlap_window w n j
  unfolding low_overlap_window
  falls j g h =
      let k : j ≡ 120 + (n - 120 + (j - n)) = omega arith in
      ap (λ z. get_or (w ++ (flat n ++ (falling w ++ pad n))) z nan) k
      ∙ past w (flat n ++ (falling w ++ pad n)) 120 (n - 120 + (j - n)) e
      ∙ past (flat n) (falling w ++ pad n) (n - 120) (j - n) (length-replicate (n - 120) (of_bits binary32 0x3f80_0000))
      ∙ get_or-append (falling w) (pad n) nan (j - n) (omega (arith, length-tab (λ (i : ℕ). get_or w (119 - i) nan) 120))
      ∙ get_or-tab (λ (i : ℕ). get_or w (119 - i) nan) 120 (j - n) nan (omega arith)
      ∙ simp (le-ltb j 120 (omega arith), le-ltb j n g, lt-ltb (j - n) 120 (omega arith))

  -- what the lost path reads: n + 120 samples from (n - 120) / 2 on
  pub reads-window : (j : ℕ) → j < n + 120 → get_or (build_low_overlap_window w n) ((n - 120) / 2 + j) nan ≡ low_overlap_window w n j
  unfolding build_low_overlap_window
  reads-window j h =
      past (pad n) (w ++ (flat n ++ (falling w ++ pad n))) ((n - 120) / 2) j (length-replicate ((n - 120) / 2) (of_bits binary32 0))
      ∙ by_part (ltb j 120) refl (ltb j n) refl
    where
      by_part : (a : Bool) → ltb j 120 ≡ a → (b : Bool) → ltb j n ≡ b → get_or (w ++ (flat n ++ (falling w ++ pad n))) j nan ≡ low_overlap_window w n j
      by_part true p b q = rises j (ltb-true j 120 p)
      by_part false p true q = stays j (ltb-false j 120 p) (ltb-true j n q)
      by_part false p false q = falls j (ltb-false j n q) h
