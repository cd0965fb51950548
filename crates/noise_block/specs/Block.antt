-- A noise block: N + 120 samples, a function of settings, seed and one channel's 25 energies alone.
use Rattle.std.specs.Prelude.{◌≡◌, List, ℕ, ◌+◌, ◌*◌, ◌-◌, ◌/◌, ◌≤◌, length, get_or, replicate, Float}
use Rattle.std.specs.Float.{nan, binary32}
use Rattle.std.specs.Float.Ieee.{of_bits, mul}
use Rattle.loops.specs.Front.{tab, length-tab}
use Rattle.buffers.specs.Buffers.{zero32}
use Rattle.draw.specs.Draw.{draws}
use Rattle.custom_mode.specs.Mode.{short_block, overlap, bands, last_edge, edge}
use Rattle.mdct.specs.Imdct.{imdct}
use Rattle.celt_window.specs.Window.{window, low_overlap_window}
use Rattle.noise_shape.specs.Shape.{noise_shape, noise_seed_lem}
use Rattle.noise_spectrum.specs.Spectrum.{spectrum}

-- sample j of the block from the outputs u of the transform, 2 n of them: twice the output, times the window
unfoldable pub windowed : ℕ → List Float → ℕ → Float
windowed n u j = mul binary32 (mul binary32 (of_bits binary32 0x4000_0000) (get_or u ((n - overlap) / 2 + j) nan)) (low_overlap_window window n j)

pub record Block : Type 0 where
  pub samples : List Float
  pub seed : ℕ

abbrev pub drawn_block : List Float → ℕ → Block
drawn_block samples seed = record { samples = samples; seed = seed }

-- at block factor m, for a frame of 120 m samples
unfoldable pub noise_block : ℕ → ℕ → ℕ → ℕ → ℕ → List Float → Block
noise_block m start end downsample seed energies =
    let n = short_block * m in
    record {
      samples = tab (windowed n (imdct n (spectrum m start end downsample seed energies))) (n + overlap);
      seed = (noise_shape m start seed (replicate n zero32)).seed;
    }

pub length-block : (m start end downsample seed : ℕ) (energies : List Float)
    → length (noise_block m start end downsample seed energies).samples ≡ short_block * m + overlap
unfolding noise_block
length-block m start end downsample seed energies = length-tab _ (short_block * m + overlap)

-- a block takes m * (last_edge - edge start) draws
pub block_seed : (m start end downsample seed : ℕ) (energies : List Float) → start ≤ bands
    → (noise_block m start end downsample seed energies).seed ≡ draws (m * (last_edge - edge start)) seed
unfolding noise_block
block_seed m start end downsample seed energies h = noise_seed_lem m start seed (replicate (short_block * m) zero32) h
