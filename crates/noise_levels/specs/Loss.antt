-- How loud each band of a noise loss is, before its gain, and what the transform is given of it.
use Rattle.std.specs.Prelude.{◌≡◌, List, ℕ, ◌+◌, ◌≤◌, ◌<◌, get_or, replicate, Float}
use Rattle.std.specs.Float.{nan}
use Rattle.loops.specs.Front.{tab}
use Rattle.buffers.specs.Buffers.{zero32, times}
use Rattle.custom_mode.specs.Mode.{overlap}
use Rattle.mdct.specs.Imdct.{imdct}
use Rattle.settings.specs.Settings.{factor, frame}
use Rattle.settings.specs.declared.Settings.{Settings}
use Rattle.state.specs.State.{core}
use Rattle.state.specs.declared.State.{State}
use Rattle.noise_shape.specs.Shape.{lo, noise_shape}
use Rattle.noise_spectrum.specs.Spectrum.{gain_of_band, bound, spectrum}
use Rattle.noise_block.specs.Block.{windowed}
use Rattle.noise_loss.specs.Loss.{channel_block}
use Rattle.loss.specs.Loss.{blocks}
use Rattle.noise_levels.specs.Bands.{EveryBand}

-- the noise of one channel's block before its gains
unfoldable pub shape_of : Settings → ℕ → List Float
shape_of k seed = (noise_shape (factor k) k.start seed (replicate (frame k) zero32)).bins

-- its spectrum
unfoldable pub spectrum_of : Settings → ℕ → List Float → List Float
spectrum_of k seed energies = spectrum (factor k) k.start k.end k.downsample seed energies

-- one channel, drawn from a seed
pub record ChannelLevel (k : Settings) (seed : ℕ) : Type 0 where
  pub level : EveryBand (factor k) k.start seed (shape_of k seed)
  -- the transform is given the spectrum
  pub transformed : (energies : List Float) → (channel_block k seed energies).samples
      ≡ tab (windowed (frame k) (imdct (frame k) (spectrum_of k seed energies))) (frame k + overlap)
  -- and that has in bin j of band i, up to where it ends, what the shape has, times the band's gain
  pub given : (energies : List Float) (i j : ℕ) → k.start ≤ i → i < k.end → lo (factor k) i ≤ j → j < lo (factor k) (i + 1)
      → j < bound (factor k) k.end k.downsample
      → get_or (spectrum_of k seed energies) j nan ≡ times (gain_of_band energies i) (get_or (shape_of k seed) j nan)

-- a noise loss from a state: both channels, the second's seed being that after the first one's block
pub record LossLevel (s : State) : Type 0 where
  pub first : ChannelLevel s.settings s.seed
  pub second : ChannelLevel s.settings (blocks (core s)).first.seed
