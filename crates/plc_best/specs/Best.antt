-- The two-best tracker over a sweep of correlations, as `find_best_pitch` has it.
use Rattle.std.specs.Prelude.{Bool, ℕ, ◌+◌, cond, ◌&&◌, List, leb, length, get_or, Option, Some, None, Float}
use Rattle.std.specs.Float.{nan, binary32}
use Rattle.std.specs.Float.Ieee.{add, sub, mul, lt, neg}
use Rattle.loops.specs.Fold.{fold_to}
use Rattle.loops.specs.Sum.{sum_to}
use Rattle.buffers.specs.Buffers.{zero32, one32, square_at}
use Rattle.float_extremes.specs.Extremes.{max_of}
use Rattle.plc_best.specs.declared.Candidate.{Candidate}
use Rattle.plc_best.specs.declared.Best.{Best}

-- -1.0
abbrev pub minus_one : Float
minus_one = neg one32

-- 1 and the squares of the first n
unfoldable pub first_energy : List Float → ℕ → Float
first_energy y n = sum_to binary32 (square_at y) one32 n

-- the energy one sample on: the newest square in, the oldest out, at least 1
unfoldable pub next_energy : List Float → ℕ → Float → ℕ → Float
next_energy y len syy i =
    max_of (add binary32 syy (sub binary32 (square_at y (i + len)) (square_at y i))) one32

-- c's squared correlation is a greater part of its energy than b's is of its own
unfoldable pub beats : Candidate → Candidate → Bool
beats c b = lt (mul binary32 b.num c.den) (mul binary32 c.num b.den)

-- a candidate becomes the best, the second best, or neither
unfoldable pub ranked : Best → Candidate → Best
ranked b c =
    cond (beats c b.second) (cond (beats c b.first) (record { first = c; second = b.first }) (record { first = b.first; second = c })) b

-- a place is a candidate where its correlation is above 0
unfoldable pub considered : Best → Float → Float → ℕ → Best
considered b x syy i = cond (lt zero32 x) (ranked b (record { num = mul binary32 x x; den = syy; at = i })) b

pub record Sweep : Type 0 where
  pub best : Best
  pub syy : Float

unfoldable pub sweep_turn : List Float → List Float → ℕ → Sweep → ℕ → Sweep
sweep_turn xcorr y len s i = record { best = considered s.best (get_or xcorr i nan) s.syy i; syy = next_energy y len s.syy i }

-- none found yet: the pair is 0 and 1
abbrev pub best_start : Best
best_start = record { first = record { num = minus_one; den = zero32; at = 0 }; second = record { num = minus_one; den = zero32; at = 1 } }

unfoldable pub sweep_to : List Float → List Float → ℕ → ℕ → Sweep
sweep_to xcorr y len n = fold_to (sweep_turn xcorr y len) (record { best = best_start; syy = first_energy y len }) n

-- the two best places among the first n of xcorr, each measured against the energy of the len samples of y from there on
unfoldable pub find_best_pitch : List Float → List Float → ℕ → ℕ → Best
find_best_pitch xcorr y len n = (sweep_to xcorr y len n).best

-- the pair, where xcorr has n values and y the samples that they are measured by
unfoldable pub best_pitches : List Float → List Float → ℕ → ℕ → Option (ℕ × ℕ)
best_pitches xcorr y len n =
    cond (leb n (length xcorr) && leb (len + n) (length y))
    (Some ((find_best_pitch xcorr y len n).first.at, (find_best_pitch xcorr y len n).second.at))
    None
