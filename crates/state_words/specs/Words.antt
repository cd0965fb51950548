-- A state as 161 words of 32 bits, in document 01's order: the words of a record ahead of its history, and of a caller's struct.
use Rattle.std.specs.Prelude.{List, [], ◌∷◌, ◌++◌, ℕ, ◌+◌, length, get_or, Float}
use Rattle.std.specs.Float.{nan, binary32}
use Rattle.std.specs.Float.Ieee.{of_bits, to_bits}
use Rattle.loops.specs.Front.{tab}
use Rattle.post_filter.specs.declared.Filter.{Filter}
use Rattle.settings.specs.declared.Settings.{Settings}
use Rattle.state.specs.declared.State.{State}

abbrev pub state_length : ℕ
state_length = 161

-- ---- read: w i is the word numbered i

-- the n floats from word i on; every NaN's word is NaN
unfoldable pub floats_by : (ℕ → ℕ) → ℕ → ℕ → List Float
floats_by w i n = tab (λ (k : ℕ). of_bits binary32 (w (i + k))) n

-- the first five words
unfoldable pub settings_by : (ℕ → ℕ) → Settings
settings_by w = record { lm = w 0; channels = w 1; start = w 2; end = w 3; downsample = w 4 }

unfoldable pub filter_by : (ℕ → ℕ) → Filter
filter_by w = record { period = w 8; gain = of_bits binary32 (w 9); tapset = w 10 }

-- settings, loss count, seed, lag, filter;
-- 50 coarse energies; 50 background energies; 2 de-emphasis memories; 48 predictor coefficients
unfoldable pub state_by : (ℕ → ℕ) → State
state_by w = record {
  settings = settings_by w;
  loss_count = w 5;
  seed = w 6;
  lag = w 7;
  filter = filter_by w;
  coarse = floats_by w 11 50;
  background = floats_by w 61 50;
  memories = floats_by w 111 2;
  predictor = floats_by w 113 48;
}

-- of a list of words
abbrev pub word_in : List ℕ → ℕ → ℕ
word_in ws i = get_or ws i 0

abbrev pub state_in : List ℕ → State
state_in ws = state_by (word_in ws)

-- ---- written

-- the words ahead of the energies
unfoldable pub head_words : State → List ℕ
head_words s =
    s.settings.lm ∷ s.settings.channels ∷ s.settings.start ∷ s.settings.end ∷ s.settings.downsample ∷ s.loss_count ∷ s.seed ∷ s.lag
    ∷ s.filter.period ∷ to_bits binary32 s.filter.gain ∷ s.filter.tapset ∷ []

-- a NaN's word is 7FC00000
unfoldable pub float_words : List Float → List ℕ
float_words xs = tab (λ (k : ℕ). to_bits binary32 (get_or xs k nan)) (length xs)

unfoldable pub state_words : State → List ℕ
state_words s =
    (head_words s ++ (float_words s.coarse ++ float_words s.background)) ++ (float_words s.memories ++ float_words s.predictor)
