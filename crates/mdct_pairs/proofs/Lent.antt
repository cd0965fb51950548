-- The first k places of an array of n like values: lent, and come back as y.
use mathlib.Core.Path.{◌≡◌, ◌∙◌, sym}
use mathlib.Core.List.{List, ◌++◌}
use Prim.Native.Nat.{ℕ, ◌≤◌}
use native.Mathlib.Omega.{arith}
use lib.ListN.{length, take, drop, replicate, length-replicate}
use lib.Seq.{length-take-le, take_at}

module _ {A : Type 0} (v : A) (k n : ℕ) (h : k ≤ n) where
  pub lent-count : k ≡ length (take k (replicate n v))
  lent-count = sym (length-take-le k (replicate n v) (omega (arith, length-replicate n v)))

  module _ (y : List A) (e : length y ≡ length (take k (replicate n v))) where
    pub back-size : length y ≡ k
    back-size = e ∙ sym lent-count

    pub back_is : take k (y ++ drop k (replicate n v)) ≡ y
    back_is = take_at y (drop k (replicate n v)) k back-size
