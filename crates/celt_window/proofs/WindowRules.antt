-- The window keeps its rules.
use Rattle.std.specs.Prelude.{◌≡◌, refl, Bool, List, map, ℕ, suc, ◌+◌, ◌-◌, ◌*◌, ◌^◌, ◌≤◌, ◌<◌, T, leb, ltb, length, get_or}
use Rattle.std.proofs.Common.{subst, arith, ltb→lt, leb→le}
use Rattle.std.proofs.lemmas.Grind.{get_or_default_zero}
use Rattle.std.specs.Float.{nan}
use Rattle.std.specs.Float.Ieee.{of_bits}
use Rattle.loops.specs.Every.{every, every-at}
use Rattle.cosine_table.specs.Scaled.{scaled, is_scaled, get_or-scaled}
use Rattle.celt_window.specs.Window.{window_bits, window, length-window}
use Rattle.celt_window.specs.WindowRules.{WindowRules}

-- ---- tests that antt computes over the whole table, and what they show of each entry

-- the rules at place i, x being the entry there; no entry is above 2 ^ 36
rise : List ℕ → ℕ → ℕ → Bool
rise xs i x = ltb x (get_or xs (suc i) (2 ^ 36 + 1))

over : List ℕ → ℕ → ℕ → Bool
over xs i x = leb (x * x + get_or xs (119 - i) 0 * get_or xs (119 - i) 0) (2 ^ 72 + 2 ^ 49)

under : List ℕ → ℕ → ℕ → Bool
under xs i x = leb (2 ^ 72) (x * x + get_or xs (119 - i) 0 * get_or xs (119 - i) 0 + 2 ^ 49)

abbrev entries : List ℕ
entries = map (scaled 36) window

table-length : length entries ≡ 120
unfolding window window_bits
table-length = refl

whole-table : T (every (λ i. is_scaled 36) 0 window)
unfolding every is_scaled window window_bits of_bits
whole-table = tt

rise-table : T (every (rise entries) 0 entries)
unfolding every rise scaled window window_bits of_bits
rise-table = tt

over-table : T (every (over entries) 0 entries)
unfolding every over scaled window window_bits of_bits
over-table = tt

under_table : T (every (under entries) 0 entries)
unfolding every under scaled window window_bits of_bits
under_table = tt

at : (f : ℕ → ℕ → Bool) → T (every f 0 entries) → (i : ℕ) → i < 120 → T (f i (get_or entries i 0))
at f t i h = every-at f 0 entries t i (omega (arith, table-length))

-- where the list goes on, what stands past its end does not matter
rises-at : (i : ℕ) → i < 119 → get_or entries i 0 < get_or entries (suc i) 0
unfolding rise
rises-at i h =
    subst (λ x. get_or entries i 0 < x) (get_or_default_zero entries (suc i) (2 ^ 36 + 1) (omega (arith, table-length)))
    (ltb→lt (get_or entries i 0) (get_or entries (suc i) (2 ^ 36 + 1)) (at (rise entries) rise-table i (omega arith)))

over-at : (i : ℕ) → i < 120 → get_or entries i 0 * get_or entries i 0 + get_or entries (119 - i) 0 * get_or entries (119 - i) 0 ≤ 2 ^ 72 + 2 ^ 49
unfolding over
over-at i h = leb→le _ _ (at (over entries) over-table i h)

under_at : (i : ℕ) → i < 120 → 2 ^ 72 ≤ get_or entries i 0 * get_or entries i 0 + get_or entries (119 - i) 0 * get_or entries (119 - i) 0 + 2 ^ 49
unfolding under
under_at i h = leb→le _ _ (at (under entries) under_table i h)

pub window_rules : WindowRules
window_rules =
    record {
      exact = λ i h. every-at (λ i. is_scaled 36) nan window whole-table i (omega (arith, length-window));
      rises = λ i h. simp (get_or-scaled 36) at (rises-at i h);
      above = λ i h. simp (get_or-scaled 36) at (over-at i h);
      below = λ i h. simp (get_or-scaled 36) at (under_at i h);
    }
