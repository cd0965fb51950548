-- How fast the waveform decays: two periods' energies compared.
use Rattle.std.specs.Prelude.{ℕ, ◌+◌, ◌-◌, ◌*◌, cond, List, ltb, Float}
use Rattle.std.specs.Float.{binary32}
use Rattle.std.specs.Float.Ieee.{div}
use Rattle.loops.specs.Sum.{sum_to}
use Rattle.float_extremes.specs.Extremes.{min_of}
use Rattle.float_root.specs.Root.{sqrt_of}
use Rattle.buffers.specs.Buffers.{one32, square_at}
use Rattle.history.specs.History.{half}

-- the longest period of which two fit the excitation
abbrev pub longest_period : ℕ
longest_period = 512

-- the lesser of the lag and that
unfoldable pub decay_period : ℕ → ℕ
decay_period lag = cond (ltb lag longest_period) lag longest_period

-- 1 and the squares of the n samples from a on
unfoldable pub period_energy : List Float → ℕ → ℕ → Float
period_energy exc a n = sum_to binary32 (λ (i : ℕ). square_at exc (a + i)) one32 n

-- √(e1 / e2), e1 at most e2
unfoldable pub decay_of : Float → Float → Float
decay_of e1 e2 = sqrt_of (div binary32 (min_of e1 e2) e2)

unfoldable pub pitch_decay : List Float → ℕ → Float
pitch_decay exc lag =
    let p = decay_period lag in
    decay_of (period_energy exc (half - p) p) (period_energy exc (half - 2 * p) p)
