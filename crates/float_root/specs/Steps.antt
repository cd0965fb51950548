-- What the private steps of the root hand to each other. Nothing of it stands in the public contract.
use Rattle.std.specs.Prelude.{ℕ, ◌+◌, ◌*◌, ◌^◌, ◌≤◌, ◌<◌, ◌≡◌}

-- n is m * 4 ^ k, and m has 47 or 48 digits
pub record ScaledTo (n m k : ℕ) : Type 0 where
  pub same : m * (2 ^ k * 2 ^ k) ≡ n
  pub low : 2 ^ 46 ≤ m
  pub high : m < 2 ^ 48
  pub few : k ≤ 201

-- r is the bits of q * 2 ^ k units, q being the whole number nearest to √m
pub record RootBits (n r : ℕ) : Type 0 where
  pub m : ℕ
  pub k : ℕ
  pub q : ℕ
  pub scaled : ScaledTo n m k
  pub low : 2 ^ 23 ≤ q
  pub high : q ≤ 2 ^ 24
  pub under : q * q < m + q
  pub over : m ≤ q * q + q
  pub is : k * 2 ^ 23 + q ≡ r
