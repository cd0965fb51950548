-- Two channels of the all-pole filter, and the lengths that are taken.
use Rattle.std.specs.Prelude.{Bool, ◌&&◌, List, ℕ, eqb, leb, Float}

-- two channels that are filtered side by side
pub record Channels : Type 0 where
  pub first : List Float
  pub second : List Float

abbrev pub channels : List Float → List Float → Channels
channels a b = record { first = a; second = b }

-- the lengths that are taken
abbrev pub iir_pair_takes : ℕ → ℕ → Bool
iir_pair_takes x z = eqb x z && leb x 1200
