-- What the loop over the energies rests on.
use mathlib.Core.Path.{◌≡◌, ap₂, ◌∙◌, sym}
use mathlib.Core.List.{List}
use mathlib.Core.Bool.{cond}
use Prim.Native.Nat.{ℕ, ◌+◌, ◌<◌}
use lib.ListN.{length, get_or, set}
use lib.Dec.{leb}
use lib.Ieee.{Float, nan, binary32, sub}
use borrow.Author.Tests.{lt-leb}
use Rattle.loops.specs.Front.{front, tab, tab-read, tab-more, tab-all}
use Rattle.loops.specs.Pick.{pick-false}
use Rattle.noise_energies.specs.Energies.{energy_drop, drops, dropped_at, lower_energies}

module _ (channels start end count : ℕ) (e₀ e : List Float) (i : ℕ) (w : e ≡ front (tab (dropped_at channels start end count e₀) i) e₀ i) where
  pub lower-more : (by r : Float) → by ≡ energy_drop count → i < length e₀
      → r ≡ cond (drops channels start end i) (sub binary32 (get_or e i nan) by) (get_or e i nan)
      → set e i r ≡ front (tab (dropped_at channels start end count e₀) (i + 1)) e₀ (i + 1)
  unfolding dropped_at
  lower-more by r p h q =
      let f : ℕ → Float = dropped_at channels start end count e₀ in
      tab-more f nan e₀ e i w r
      (q ∙ ap₂ (λ x y. cond (drops channels start end i) (sub binary32 x y) x) (tab-read f nan e₀ e i w h) p) h

  pub lower-all : length e₀ ≡ i → count < 5 → e ≡ lower_energies channels start end count e₀
  unfolding lower_energies
  lower-all l h =
      tab-all (dropped_at channels start end count e₀) nan e₀ e i w l
      ∙ sym (pick-false (leb 5 count) e₀ (tab (dropped_at channels start end count e₀) (length e₀)) (lt-leb 5 count h))
