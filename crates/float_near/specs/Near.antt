-- How near one whole number lies to another, as a part of that.
use Rattle.std.specs.Prelude.{ℕ, ◌+◌, ◌*◌, ◌≤◌}

-- a differs from b by at most b / d
pub record Near (d a b : ℕ) : Type 0 where
  pub low : d * b ≤ d * a + b
  pub high : d * a ≤ d * b + b
