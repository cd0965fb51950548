-- A noise loss of a whole history: a block for each used channel, laid over its newest samples.
use Rattle.std.specs.Prelude.{Bool, cond, ◌&&◌, List, ℕ, take, drop, eqb, Float}
use Rattle.custom_mode.specs.Mode.{max_bands}
use Rattle.history.specs.History.{whole, Tails, tails, with_tails}
use Rattle.settings.specs.Settings.{factor, frame, stereo, check_settings}
use Rattle.settings.specs.declared.Settings.{Settings}
use Rattle.noise_block.specs.Block.{Block, noise_block}
use Rattle.noise_cover.specs.Cover.{covered_tail}

-- the block of one channel: a function of settings, seed and the channel's 25 energies alone
unfoldable pub channel_block : Settings → ℕ → List Float → Block
channel_block k seed energies = noise_block (factor k) k.start k.end k.downsample seed energies

pub record Blocks : Type 0 where
  pub first : Block
  pub second : Block

-- the second goes on from the first one's seed; of the energies channel 0's come first
unfoldable pub noise_blocks : Settings → ℕ → List Float → Blocks
noise_blocks k seed energies =
    let one = channel_block k seed (take max_bands energies) in
    record { first = one; second = channel_block k one.seed (drop max_bands energies) }

-- the seed after the blocks of two channels or one
unfoldable pub noise_seed : Bool → Blocks → ℕ
noise_seed two b = cond two b.second.seed b.first.seed

-- each used channel, of two or one, under its block of n + 120 samples
unfoldable pub noise_tails : Bool → ℕ → Blocks → Tails → Tails
noise_tails two n b t = record {
  first = covered_tail n b.first.samples t.first;
  second = cond two (covered_tail n b.second.samples t.second) t.second;
}

-- a history, and the seed after its blocks
pub record Noised : Type 0 where
  pub history : List Float
  pub seed : ℕ

abbrev pub noised : List Float → ℕ → Noised
noised history seed = record { history = history; seed = seed }

unfoldable pub after_noise : Settings → ℕ → List Float → List Float → Noised
after_noise k seed energies h =
    let b = noise_blocks k seed energies in
    noised (with_tails h (noise_tails (stereo k) (frame k) b (tails h))) (noise_seed (stereo k) b)

-- whether noise_loss takes settings and a history of n samples
unfoldable pub noise_takes : Settings → ℕ → Bool
noise_takes k n = eqb (check_settings k) 0 && eqb n whole
