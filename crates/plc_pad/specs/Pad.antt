-- A buffer that holds a filter's memory ahead of its samples, so that both are read by one index.
use Rattle.std.specs.Prelude.{◌≡◌, Bool, ◌&&◌, List, ℕ, ◌+◌, ◌-◌, ◌<◌, leb, length, get_or, set, Float}
use Rattle.std.specs.Float.{nan, binary32}
use Rattle.std.specs.Float.Ieee.{sub, mul}
use Rattle.loops.specs.Fold.{fold_to}
use Rattle.loops.specs.Sum.{sum_to}

-- the order of the predictor, and of the filters that it drives
abbrev pub order : ℕ
order = 24

-- the memory stands before place 24, the most recent last
abbrev pub Remembers : List Float → List Float → Type 0
Remembers pad mem = (k : ℕ) → k < length mem → get_or pad (23 - k) nan ≡ get_or mem k nan

-- the first n values of the memory put there
abbrev pub remembered_to : List Float → List Float → ℕ → List Float
remembered_to mem pad n = fold_to (λ (p : List Float) (k : ℕ). set p (23 - k) (get_or mem k nan)) pad n

-- all of it
unfoldable pub remembered : List Float → List Float → List Float
remembered mem pad = remembered_to mem pad (length mem)

-- the lengths of pad and memory that are taken
abbrev pub pad_takes : ℕ → ℕ → Bool
pad_takes pad mem = leb 24 pad && leb mem 24

-- the first n samples of xs stand from place 24 on
abbrev pub Holds : List Float → List Float → ℕ → Type 0
Holds pad xs n = (i : ℕ) → i < n → get_or pad (24 + i) nan ≡ get_or xs i nan

-- num[j] times the value j + 1 places before sample i
abbrev pub tap : List Float → List Float → ℕ → ℕ → Float
tap num pad i j = mul binary32 (get_or num j nan) (get_or pad (23 + i - j) nan)

-- s with n taps added
abbrev pub taps_added : List Float → List Float → ℕ → Float → ℕ → Float
taps_added num pad i s n = sum_to binary32 (tap num pad i) s n

-- sample i of xs with n taps added
abbrev pub taps_row : List Float → List Float → List Float → ℕ → ℕ → Float
taps_row num pad xs n i = taps_added num pad i (get_or xs i nan) n

-- s with n taps subtracted
abbrev pub taps_taken : List Float → List Float → ℕ → Float → ℕ → Float
taps_taken den pad i s n = fold_to (λ (s : Float) (j : ℕ). sub binary32 s (tap den pad i j)) s n
