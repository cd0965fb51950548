-- What a counted sum is: the sum, and n products. So half of the sums takes n * n.
use mathlib.Core.Path.{◌≡◌, refl, ap, ◌∙◌, sym}
use mathlib.Core.List.{List, [], ◌∷◌, ◌++◌}
use Prim.Native.Nat.{ℕ, zero, suc, ◌+◌, ◌*◌, ◌/◌, ◌%◌, ◌<◌}
use native.Mathlib.Nat.{zero-mul, suc-mul}
use native.Mathlib.Numerals.{add-one}
use native.Mathlib.Omega.{arith}
use lib.ListN.{get_or}
use lib.Ieee.{Float, nan, binary64, of_bits, add}
use Rattle.loops.specs.Fold.{fold_to}
use Rattle.loops.specs.Sum.{sum_to}
use Rattle.loops.specs.Front.{tab, tab-same, map-tab}
use Rattle.cosine_circle.specs.Circle.{cos_at}
use Rattle.mdct.specs.Imdct.{angle, imdct_term, imdct_sum}
use Rattle.mdct_work.specs.Work.{Work, nothing, product, plus, sum_work, total, pair_sums, values}

-- ---- one sum

module _ (n : ℕ) (xs : List Float) (t : ℕ) where
  value-to : (m : ℕ) → (fold_to (λ (s : Work) (k : ℕ). plus s (product (get_or xs k nan) (cos_at (angle n t k)))) nothing m).value
      ≡ sum_to binary64 (imdct_term n xs t) (of_bits binary64 0) m
  unfolding fold_to sum_to plus product imdct_term
  value-to zero = refl
  value-to (suc m) = ap (λ (z : Float). add binary64 z (imdct_term n xs t m)) (value-to m)

  products-to : (m : ℕ) → (fold_to (λ (s : Work) (k : ℕ). plus s (product (get_or xs k nan) (cos_at (angle n t k)))) nothing m).products ≡ m
  unfolding fold_to plus product
  products-to zero = refl
  products-to (suc m) = ap (λ (z : ℕ). z + 1) (products-to m) ∙ add-one m

  pub work_value : (sum_work n xs t).value ≡ imdct_sum n xs t
  unfolding sum_work imdct_sum
  work_value = value-to n

  pub work_products : (sum_work n xs t).products ≡ n
  unfolding sum_work
  work_products = products-to n

-- ---- a list of sums

total-append : (ws us : List Work) → total (ws ++ us) ≡ total ws + total us
unfolding total
total-append [] us = omega arith
total-append (w ∷ ws) us = omega (arith, total-append ws us)

pub total-tab : (f : ℕ → Work) (c m : ℕ) → ((i : ℕ) → i < m → (f i).products ≡ c) → total (tab f m) ≡ m * c
unfolding tab total
total-tab f c zero h = sym (zero-mul c)
total-tab f c (suc m) h =
    let one : (f m).products ≡ c = h m (omega arith) in
    omega (arith, total-append (tab f m) (f m ∷ []), total-tab f c m (λ i l. h i (omega arith)), suc-mul m c)

-- ---- half of the sums

module _ (n : ℕ) (xs : List Float) where
  pub pair_values : values (pair_sums n xs) ≡ tab (λ (j : ℕ). imdct_sum n xs (j / 2 + j % 2 * n)) n
  unfolding pair_sums values
  pair_values =
      map-tab (λ (w : Work). w.value) (λ (j : ℕ). sum_work n xs (j / 2 + j % 2 * n)) n ∙ tab-same _ _ n (λ j h. work_value n xs (j / 2 + j % 2 * n))

  pub pair-products : total (pair_sums n xs) ≡ n * n
  unfolding pair_sums
  pair-products = total-tab (λ (j : ℕ). sum_work n xs (j / 2 + j % 2 * n)) n n (λ j h. work_products n xs (j / 2 + j % 2 * n))
