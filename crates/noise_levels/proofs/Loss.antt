-- Every band of a noise loss is as loud as a drawn band is, before its gain. Assumes nothing.
use mathlib.Core.Path.{◌≡◌, refl}
use mathlib.Core.List.{List}
use Prim.Native.Nat.{ℕ, ◌^◌, ◌≤◌}
use native.Mathlib.Omega.{arith}
use lib.Pow.{pow_mono}
use lib.ListN.{length, replicate, length-replicate}
use lib.Ieee.{Float}
use Rattle.buffers.specs.Buffers.{zero32}
use Rattle.settings.specs.Settings.{factor, frame, check_settings}
use Rattle.settings.specs.declared.Settings.{Settings}
use Rattle.settings.proofs.Passed.{passed}
use Rattle.state.specs.State.{core}
use Rattle.state.specs.Refusal.{AcceptedState}
use Rattle.state.specs.declared.State.{State}
use Rattle.state.proofs.Keep.{ok-start}
use Rattle.noise_block.specs.Block.{noise_block}
use Rattle.noise_loss.specs.Loss.{channel_block}
use Rattle.loss.specs.Loss.{blocks}
use Rattle.noise_levels.specs.Loss.{shape_of, spectrum_of, ChannelLevel, LossLevel}
use Rattle.noise_levels.proofs.Bands.{shape-levels}
use Rattle.noise_levels.proofs.Given.{spectrum-at}

channel-level : (k : Settings) (seed : ℕ) → check_settings k ≡ 0 → ChannelLevel k seed
unfolding shape_of spectrum_of channel_block noise_block frame factor
channel-level k seed good =
    let p = passed k good in
    let few : factor k ≤ 2 ^ 3 = pow_mono p.lm in
    let zeros : List Float = replicate (frame k) zero32 in
    let sized : length zeros ≡ frame k = length-replicate (frame k) zero32 in
    record {
      level = shape-levels (factor k) k.start seed zeros (omega arith) few;
      transformed = λ energies. refl;
      given = λ energies i j h l lo-j hi-j b. spectrum-at (factor k) k.start k.end k.downsample seed energies i j h l p.end lo-j hi-j b;
    }

-- from every accepted state
pub loss-level : (s : State) (h : List Float) → AcceptedState s h → LossLevel s
loss-level s h a =
    let good = (ok-start s h a).settings in
    record {
      first = channel-level s.settings s.seed good;
      second = channel-level s.settings (blocks (core s)).first.seed good;
    }
