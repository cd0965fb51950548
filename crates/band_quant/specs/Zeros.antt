-- A band whose values are all zero, of either sign.
use Rattle.std.specs.Prelude.{◌≡◌, List, ◌⊎◌, ℕ, ◌<◌, length, get_or, Float}
use Rattle.std.specs.Float.{nan, binary32}
use Rattle.std.specs.Float.Ieee.{of_bits}

abbrev pub Zero : Float → Type 0
Zero v = (v ≡ of_bits binary32 0) ⊎ (v ≡ of_bits binary32 0x8000_0000)

abbrev pub AllZero : List Float → Type 0
AllZero xs = (i : ℕ) → i < length xs → Zero (get_or xs i nan)
