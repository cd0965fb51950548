-- The marked examples of document 01, "Edges": what one theorem shows.
use Rattle.std.specs.Prelude.{◌≡◌, true, false, List, [], ◌∷◌, ℕ, ◌+◌, ◌^◌, pos, negsuc, Float}
use Rattle.std.specs.Float.{nan, fin, binary32}
use Rattle.std.specs.Float.Ieee.{of_bits, to_bits, neg}
use Rattle.float_root.specs.Root.{sqrt_of}
use Rattle.float_narrow.specs.Narrow.{narrow}
use Rattle.draw.specs.Draw.{draws}
use Rattle.draw.specs.Noise.{noise_band}
use Rattle.draw.specs.Marked.{f32_of}
use Rattle.band_gain.specs.Gain.{gain_of}
use Rattle.history.specs.History.{whole}
use Rattle.state.specs.State.{core, noisy}
use Rattle.state.specs.Refusal.{refuses_state}
use Rattle.settings.specs.declared.Settings.{Settings}
use Rattle.state.specs.declared.State.{State}
use Rattle.loss.specs.Loss.{loss}

-- settings with every band and no downsampling
abbrev pub settings_at : ℕ → ℕ → ℕ → Settings
settings_at lm channels start = record { lm = lm; channels = channels; start = start; end = 21; downsample = 1 }

-- an accepted noise loss at these settings, whatever else the state and the history hold, moves the seed on by d draws
abbrev pub Draws : ℕ → ℕ → ℕ → ℕ → Type 0
Draws lm channels start d =
    (s : State) (h : List Float) (p : ℕ) → s.settings ≡ settings_at lm channels start → noisy (core s) ≡ true
    → (loss s h p).report.number ≡ 0 → (loss s h p).state.seed ≡ draws d s.seed

-- a mono state at start 0 and loss count 1 with this lag
abbrev pub carrying : ℕ → State
carrying lag = record {
  settings = settings_at 0 1 0;
  loss_count = 1;
  seed = 0;
  lag = lag;
  filter = record { gain = of_bits binary32 0; period = 15; tapset = 0 };
  coarse = [];
  background = [];
  memories = [];
  predictor = [];
}

pub record MarkedEdges : Type 0 where
  -- draws from seed 0, and the values 966, 1141, -740, -1361
  pub drawn : (draws 1 0 ≡ 0x3c6e_f35f) × (draws 2 0 ≡ 0x4750_2932) × (draws 3 0 ≡ 0xd1cc_f6e9) × (draws 4 0 ≡ 0xaaf9_5334)
  pub heard : noise_band 4 0 ≡ f32_of (pos 966) ∷ f32_of (pos 1141) ∷ f32_of (negsuc 739) ∷ f32_of (negsuc 1360) ∷ []
  -- draws per noise loss
  pub counted : Draws 0 1 0 100 × Draws 3 2 0 1600 × Draws 3 2 17 960 × Draws 0 1 20 22
  -- square roots of 4 and 2
  pub roots : (sqrt_of (fin false 1 (pos 2)) ≡ fin false 1 (pos 1)) × (to_bits binary32 (sqrt_of (fin false 1 (pos 1))) ≡ 0x3fb5_04f3)
  -- rounding to f32 of 1 + 2 ^ -24 and 1 + 3 * 2 ^ -24
  pub rounded : (narrow (fin false (2 ^ 24 + 1) (negsuc 23)) ≡ fin false 1 (pos 0))
      × (narrow (fin false (2 ^ 24 + 3) (negsuc 23)) ≡ fin false (2 ^ 22 + 1) (negsuc 21))
  -- gains at 0, 32, NaN and -150
  pub gains : (gain_of (of_bits binary32 0) ≡ of_bits binary32 0x3f80_0000) × (gain_of (of_bits binary32 0x4200_0000) ≡ of_bits binary32 0x4f80_0000)
      × (gain_of nan ≡ of_bits binary32 0x4f80_0000) × (gain_of (neg (of_bits binary32 0x4316_0000)) ≡ of_bits binary32 0)
  -- lags at start 0 and loss count 1: 102 and 720 pass, 101 and 721 get 7
  pub lags : (refuses_state (carrying 102) whole ≡ 0) × (refuses_state (carrying 101) whole ≡ 7)
      × (refuses_state (carrying 720) whole ≡ 0) × (refuses_state (carrying 721) whole ≡ 7)
