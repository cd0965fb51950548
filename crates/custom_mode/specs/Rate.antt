-- The factor by which a rate in Hz is below 48,000, where there is one.
use Rattle.std.specs.Prelude.{cond, ℕ, eqb, Option, Some, None, unwrap_or}

-- the factor, 0 where there is none
abbrev pub factor_number : Option ℕ → ℕ
factor_number f = unwrap_or f 0

unfoldable pub resampling_factor : ℕ → Option ℕ
resampling_factor rate =
    cond (eqb rate 48_000) (Some 1)
    (cond (eqb rate 24_000) (Some 2)
    (cond (eqb rate 16_000) (Some 3)
    (cond (eqb rate 12_000) (Some 4)
    (cond (eqb rate 8_000) (Some 6) None))))
