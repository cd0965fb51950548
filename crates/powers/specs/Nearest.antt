-- Each entry of the table is the f64 nearest to 2 ^ (i / 256).
use Rattle.std.specs.Prelude.{◌≡◌, refl, Bool, ◌&&◌, ℕ, ◌+◌, ◌*◌, ◌-◌, ◌^◌, ◌/◌, ◌%◌, ◌<◌, get_or, ltb, eqb}
use Rattle.std.proofs.Common.{ltb-true, eqb-true}
use Rattle.loops.specs.Logic.{and-true}
use Rattle.powers.specs.Powers.{power_bits}
use Rattle.loops.specs.Below.{below, below_at}

-- twice the significand of an f64 from 1 up to 2
abbrev pub twice : ℕ → ℕ
twice b = 2 * (2 ^ 52 + b % 2 ^ 52)

-- The bits b are those of M / 2 ^ 52 for an M of 53 digits,
-- and 2 ^ (i / 256) lies between (2 M - 1) / 2 ^ 53 and (2 M + 1) / 2 ^ 53:
-- the three of them to the power 256, times 2 ^ (53 * 256)
pub record NearestPower (i b : ℕ) : Type 0 where
  pub field : b / 2 ^ 52 ≡ 1023
  pub above : (twice b - 1) ^ 256 < 2 ^ (i + 53 * 256)
  pub under : 2 ^ (i + 53 * 256) < (twice b + 1) ^ 256

near : ℕ → Bool
near i =
    let b = get_or power_bits i 0 in
    eqb (b / 2 ^ 52) 1023 && (ltb ((twice b - 1) ^ 256) (2 ^ (i + 53 * 256)) && ltb (2 ^ (i + 53 * 256)) ((twice b + 1) ^ 256))

pub powers_nearest : (i : ℕ) → i < 256 → NearestPower i (get_or power_bits i 0)
unfolding near below power_bits
powers_nearest i h =
    let b = get_or power_bits i 0 in
    let r = and-true _ _ (below_at near 256 i refl h) in
    let t = and-true _ _ r.1 in
    record {
      field = eqb-true (b / 2 ^ 52) 1023 r.0;
      above = ltb-true ((twice b - 1) ^ 256) (2 ^ (i + 53 * 256)) t.0;
      under = ltb-true (2 ^ (i + 53 * 256)) ((twice b + 1) ^ 256) t.1;
    }
