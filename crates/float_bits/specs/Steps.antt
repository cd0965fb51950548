-- What the fields of a float's bits stand for. Nothing of it stands in a public contract.
use Rattle.std.specs.Prelude.{ℕ, zero, suc, ◌+◌, ◌*◌, ◌^◌}
use Rattle.std.specs.Float.{Format}
use Rattle.std.specs.Float.Ieee.{hid}

-- what a format's fields e and t stand for, in units of its smallest value
abbrev pub significand : Format → ℕ → ℕ → ℕ
significand f zero t = t
significand f (suc x) t = (hid f + t) * 2 ^ x
