-- The rules of the window, over whole numbers: an entry times 2 ^ 36 is one.
use Rattle.std.specs.Prelude.{ℕ, suc, ◌+◌, ◌-◌, ◌*◌, ◌^◌, ◌≤◌, ◌<◌, T, get_or}
use Rattle.std.specs.Float.{nan}
use Rattle.cosine_table.specs.Scaled.{scaled, is_scaled}
use Rattle.celt_window.specs.Window.{window}

-- entry i times 2 ^ 36
abbrev pub scaled_window : ℕ → ℕ
scaled_window i = scaled 36 (get_or window i nan)

-- what entry i and the one opposite have of the power 1, times 2 ^ 72
abbrev pub pair_power : ℕ → ℕ
pair_power i = scaled_window i * scaled_window i + scaled_window (119 - i) * scaled_window (119 - i)

-- the entries rise, and the squares of an entry and of the one opposite add up to 1, to 2 ^ -23
pub record WindowRules : Type 0 where
  pub exact : (i : ℕ) → i < 120 → T (is_scaled 36 (get_or window i nan))
  pub rises : (i : ℕ) → i < 119 → scaled_window i < scaled_window (suc i)
  pub above : (i : ℕ) → i < 120 → pair_power i ≤ 2 ^ 72 + 2 ^ 49
  pub below : (i : ℕ) → i < 120 → 2 ^ 72 ≤ pair_power i + 2 ^ 49
