-- The rules of the table, over whole numbers: an entry times 2 ^ 63 is one.
use Rattle.std.specs.Prelude.{◌≡◌, false, ℕ, suc, ◌+◌, ◌*◌, ◌^◌, ◌≤◌, ◌<◌, T, pos, get_or}
use Rattle.std.specs.Float.{nan, fin}
use Rattle.cosine_table.specs.Cosines.{cosines}
use Rattle.cosine_table.specs.Scaled.{scaled, is_scaled}

-- entry j times 2 ^ 63
abbrev pub scaled_cosine : ℕ → ℕ
scaled_cosine j = scaled 63 (get_or cosines j nan)

-- the first entry is 1 and the last 0, they fall, and each is held by its neighbours to 2 ^ -51: C[j - 1] + C[j + 1] against 2 C[1] C[j]
pub record CosineRules : Type 0 where
  pub first : get_or cosines 0 nan ≡ fin false 1 (pos 0)
  pub last : get_or cosines 1920 nan ≡ fin false 0 (pos 0)
  pub exact : (j : ℕ) → j < 1921 → T (is_scaled 63 (get_or cosines j nan))
  pub falls : (j : ℕ) → j < 1920 → scaled_cosine (suc j) < scaled_cosine j
  pub above : (j : ℕ) → suc j < 1920 → (scaled_cosine j + scaled_cosine (suc (suc j))) * 2 ^ 63 ≤ 2 * scaled_cosine 1 * scaled_cosine (suc j) + 2 ^ 75
  pub below : (j : ℕ) → suc j < 1920 → 2 * scaled_cosine 1 * scaled_cosine (suc j) ≤ (scaled_cosine j + scaled_cosine (suc (suc j))) * 2 ^ 63 + 2 ^ 75
