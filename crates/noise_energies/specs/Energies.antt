-- Which energies a noise loss reads, and which drop.
-- Both channels' energies stand in a flat list of 50, band i of channel c at 25 c + i.
use Rattle.std.specs.Prelude.{◌≡◌, refl, List, Bool, true, false, cond, ◌&&◌, ℕ, ◌/◌, ◌%◌, length, get_or, leb, ltb, eqb, Float}
use Rattle.std.specs.Float.{nan, binary32}
use Rattle.std.specs.Float.Ieee.{of_bits, sub}
use Rattle.loops.specs.Front.{tab, length-tab}
use Rattle.custom_mode.specs.Mode.{max_bands}

-- 1.5 at loss count 0, else 0.5
unfoldable pub energy_drop : ℕ → Float
energy_drop count = cond (eqb count 0) (of_bits binary32 0x3fc0_0000) (of_bits binary32 0x3f00_0000)

-- whether place i is that of a band from start to just below end of a used channel
unfoldable pub drops : ℕ → ℕ → ℕ → ℕ → Bool
drops channels start end i = ltb (i / max_bands) channels && (leb start (i % max_bands) && ltb (i % max_bands) end)

-- what stands at place i after the drop
unfoldable pub dropped_at : ℕ → ℕ → ℕ → ℕ → List Float → ℕ → Float
dropped_at channels start end count coarse i =
    cond (drops channels start end i) (sub binary32 (get_or coarse i nan) (energy_drop count)) (get_or coarse i nan)

-- the coarse energies after a noise loss: from loss count 5 on nothing drops
unfoldable pub lower_energies : ℕ → ℕ → ℕ → ℕ → List Float → List Float
lower_energies channels start end count coarse =
    cond (leb 5 count) coarse (tab (dropped_at channels start end count coarse) (length coarse))

pub length-lower_energies : (channels start end count : ℕ) (coarse : List Float)
    → length (lower_energies channels start end count coarse) ≡ length coarse
unfolding lower_energies
length-lower_energies channels start end count coarse = go (leb 5 count)
  where
    go : (b : Bool) → length (cond b coarse (tab (dropped_at channels start end count coarse) (length coarse))) ≡ length coarse
    go true = refl
    go false = length-tab (dropped_at channels start end count coarse) (length coarse)

-- the energies that a noise loss reads: the background's from loss count 5 on, else the coarse ones after the drop
unfoldable pub read_energies : ℕ → List Float → List Float → List Float
read_energies count lowered background = cond (leb 5 count) background lowered
