-- The version that a caller asks for.
use Rattle.std.specs.Prelude.{ℕ, ◌+◌, ◌*◌}

-- as the header has it
abbrev pub version_number : (major minor patch : ℕ) → ℕ
version_number major minor patch = 65536 * major + 256 * minor + patch
