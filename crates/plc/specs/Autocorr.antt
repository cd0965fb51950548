-- celt_autocorr, by lag
use Rattle.std.specs.Prelude.{◌≡◌, List, ℕ, ◌+◌, ◌-◌, length, get_or, set, Float}
use Rattle.std.proofs.Common.{length-set}
use Rattle.std.specs.Float.{nan, binary32}
use Rattle.std.specs.Float.Ieee.{add, mul}
use Rattle.loops.specs.Front.{tab, length-tab}
use Rattle.loops.specs.Sum.{sum_to}
use Rattle.buffers.specs.Buffers.{zero32}
use Rattle.plc.specs.Const.{floor32}

-- x[lag + k] * x[k]
abbrev pub lag_term : List Float → ℕ → ℕ → Float
lag_term x lag k = mul binary32 (get_or x (lag + k) nan) (get_or x k nan)

-- the sum of x[i] * x[i - lag] for i from lag to just below end
unfoldable pub lag_to : List Float → ℕ → ℕ → Float
lag_to x lag end = sum_to binary32 (lag_term x lag) zero32 (end - lag)

abbrev pub lag_sum : List Float → ℕ → Float
lag_sum x lag = lag_to x lag (length x)

-- the correlations at the lags below n, the first with its noise floor
unfoldable pub celt_autocorr : List Float → ℕ → List Float
celt_autocorr x n = set (tab (lag_sum x) n) 0 (add binary32 (lag_sum x 0) floor32)

pub length-celt_autocorr : (x : List Float) (n : ℕ) → length (celt_autocorr x n) ≡ n
unfolding celt_autocorr
length-celt_autocorr x n = simp (length-set, length-tab)

-- the sums of n lags below end, the longest lag first: what runs side by side
abbrev pub row_at : List Float → ℕ → ℕ → ℕ → Float
row_at x n end j = lag_to x (n - 1 - j) end

abbrev pub lag_row : List Float → ℕ → ℕ → List Float
lag_row x n end = tab (row_at x n end) n
