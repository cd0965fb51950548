-- What the private steps hand to each other. Nothing of it stands in a public contract.
use Rattle.std.specs.Prelude.{ℕ, ◌+◌, ◌^◌, ◌≤◌, ◌≡◌, Bool, cond}
use Rattle.std.specs.Float.{binary32, binary64}
use Rattle.std.specs.Float.Ieee.{to_bits}
use Rattle.float_bits.specs.Steps.{significand}
use Rattle.float_narrow.specs.Clause.{round_ties_to_even}

-- r is the bits, without the sign's, of the f32 nearest to what the fields e and t stand for
pub record Magnitude (e t r : ℕ) : Type 0 where
  pub small : r ≤ 0x7f80_0000
  pub bits : (s : Bool) → to_bits binary32 (round_ties_to_even s (significand binary64 e t)) ≡ cond s (2 ^ 31) 0 + r
