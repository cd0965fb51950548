-- The frame that a channel's block is laid over.
use mathlib.Core.Path.{◌≡◌}
use Prim.Native.Nat.{ℕ, ◌+◌, ◌*◌, ◌≤◌}
use native.Mathlib.Omega.{arith}
use Rattle.settings.specs.Settings.{frame, check_settings, block_factor}
use Rattle.settings.specs.declared.Settings.{Settings}
use Rattle.settings.proofs.Passed.{frame_is, frame-low, frame-high}

pub sized : (k : Settings) → check_settings k ≡ 0 → (n : ℕ) → n ≡ 120 * block_factor k.lm
    → (120 ≤ n) × (n ≤ 960) × (n + 120 ≤ 1080) × (n ≡ frame k)
sized k good n e =
    let f = frame_is k good n e in
    (omega (arith, frame-low k good), omega (arith, frame-high k good), omega (arith, frame-high k good), f)
