-- celt_iir_inplace, output after output
use Rattle.std.specs.Prelude.{◌≡◌, refl, Bool, List, [], ◌∷◌, ◌++◌, ℕ, zero, suc, ◌+◌, leb, length, get_or, Float}
use Rattle.std.proofs.Common.{ap, ◌∙◌, add-one, length-append}
use Rattle.std.specs.Float.{nan, binary32}
use Rattle.std.specs.Float.Ieee.{sub, mul}
use Rattle.loops.specs.Fold.{fold_to}
use Rattle.plc_pad.specs.Past.{past}

-- s - den[0] * y[i - 1] - den[1] * y[i - 2] - .., n terms, y being the outputs before place i
abbrev pub iir_sum : List Float → List Float → List Float → ℕ → Float → ℕ → Float
iir_sum den mem y i s n = fold_to (λ (s : Float) (j : ℕ). sub binary32 s (mul binary32 (get_or den j nan) (past y mem i j))) s n

-- output i from the outputs y before it
unfoldable pub iir_at : List Float → List Float → List Float → List Float → ℕ → Float
iir_at den mem x y i = iir_sum den mem y i (get_or x i nan) (length den)

-- the first n outputs
unfoldable pub iir_to : List Float → List Float → List Float → ℕ → List Float
iir_to den mem x zero = []
iir_to den mem x (suc n) = iir_to den mem x n ++ (iir_at den mem x (iir_to den mem x n) n ∷ [])

-- the all-pole filter: den, the outputs before the start (most recent first), the inputs
unfoldable pub celt_iir : List Float → List Float → List Float → List Float
celt_iir den mem x = iir_to den mem x (length x)

pub length-iir_to : (den mem x : List Float) (n : ℕ) → length (iir_to den mem x n) ≡ n
unfolding iir_to
length-iir_to den mem x zero = refl
length-iir_to den mem x (suc n) =
    length-append (iir_to den mem x n) (iir_at den mem x (iir_to den mem x n) n ∷ []) ∙ ap (λ z. z + 1) (length-iir_to den mem x n) ∙ add-one n

pub length-celt_iir : (den mem x : List Float) → length (celt_iir den mem x) ≡ length x
unfolding celt_iir
length-celt_iir den mem x = length-iir_to den mem x (length x)

-- the lengths that are taken
abbrev pub iir_takes : ℕ → Bool
iir_takes x = leb x 1200
