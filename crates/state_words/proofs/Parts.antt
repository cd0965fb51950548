-- A state's words, part by part.
use mathlib.Core.Path.{◌≡◌, ap}
use mathlib.Core.List.{List}
use Prim.Native.Nat.{ℕ, ◌+◌, ◌≤◌, ◌<◌}
use native.Mathlib.Omega.{arith}
use lib.ListN.{length}
use lib.Dec.{T, ltb, lit<, lit≤}
use lib.Ieee.{Float, binary32, of_bits}
use Rattle.loops.specs.Front.{length-tab, tab-same}
use Rattle.state_words.specs.Words.{state_length, floats_by, settings_by, filter_by, state_by, float_words}

-- equal words are one state
pub state-same : (w v : ℕ → ℕ) → ((i : ℕ) → i < state_length → w i ≡ v i) → state_by w ≡ state_by v
unfolding state_by settings_by filter_by floats_by
state-same w v e =
    let word : (k : ℕ) → T (ltb k 161) → w k ≡ v k = λ k t. e k (lit< t) in
    let floats : (a n : ℕ) → a + n ≤ 161 → floats_by w a n ≡ floats_by v a n = λ a n l. tab-same _ _ n (λ k h. ap (of_bits binary32) (e (a + k) (omega arith))) in
    λ i. record {
      settings = record { lm = word 0 tt i; channels = word 1 tt i; start = word 2 tt i; end = word 3 tt i; downsample = word 4 tt i };
      loss_count = word 5 tt i;
      seed = word 6 tt i;
      lag = word 7 tt i;
      filter = record { gain = of_bits binary32 (word 9 tt i); period = word 8 tt i; tapset = word 10 tt i };
      coarse = floats 11 50 (lit≤ tt) i;
      background = floats 61 50 (lit≤ tt) i;
      memories = floats 111 2 (lit≤ tt) i;
      predictor = floats 113 48 (lit≤ tt) i;
    }

pub length-floats : (xs : List Float) → length (float_words xs) ≡ length xs
unfolding float_words
length-floats xs = length-tab _ (length xs)
