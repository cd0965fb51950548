-- What is asked of the noise path's steps.
use mathlib.Core.Path.{◌≡◌}
use mathlib.Core.Bool.{Bool}
use mathlib.Core.List.{List, ◌++◌}
use Prim.Native.Nat.{ℕ, ◌+◌, ◌*◌, ◌-◌, ◌≤◌, ◌<◌}
use native.Mathlib.Omega.{arith}
use lib.ListN.{length, take, drop}
use lib.Seq.{slice, length-take-le, drop_at}
use lib.Ieee.{Float}
use Rattle.loops.specs.Logic.{cond_either}
use Rattle.custom_mode.specs.Mode.{bands, last_edge}
use Rattle.history.specs.History.{half, overlap, Tail, Tails}
use Rattle.history.proofs.Parts.{TailSized, Sized}
use Rattle.draw.specs.Draw.{draws}
use Rattle.settings.specs.Settings.{factor, frame, first_bin, check_settings}
use Rattle.settings.specs.declared.Settings.{Settings}
use Rattle.settings.proofs.Passed.{frame-low, frame-high}
use Rattle.noise_block.specs.Block.{length-block, block_seed}
use Rattle.noise_cover.specs.Cover.{overlapped, covered_tail, length_covered_new, length_covered_over}
use Rattle.noise_loss.specs.Loss.{channel_block, noise_blocks, noise_tails}

pub block-samples : (k : Settings) (seed : ℕ) (e : List Float) → length (channel_block k seed e).samples ≡ frame k + overlap
unfolding channel_block frame
block-samples k seed e = length-block (factor k) k.start k.end k.downsample seed e

pub block-draws : (k : Settings) (seed : ℕ) (e : List Float) → k.start < bands → (channel_block k seed e).seed ≡ draws (factor k * (last_edge - first_bin k)) seed
unfolding channel_block first_bin
block-draws k seed e l = block_seed (factor k) k.start k.end k.downsample seed e (omega arith)

-- what a noise block leaves as the newest n
pub covered_newest : (n : ℕ) (b : List Float) (t : Tail) → n ≤ half → length t.new ≡ half
    → drop (half - n) (covered_tail n b t).new ≡ overlapped b t.over ++ slice overlap n b
unfolding covered_tail
covered_newest n b t l z = drop_at (take (half - n) t.new) _ (half - n) (length-take-le (half - n) t.new (omega arith))

module _ (k : Settings) (good : check_settings k ≡ 0) where
  covered_sized : (b : List Float) (t : Tail) → length b ≡ frame k + overlap → TailSized t → TailSized (covered_tail (frame k) b t)
  covered_sized b t l z =
      let low = frame-low k good in
      let high : frame k ≤ half = omega (arith, frame-high k good) in
      record { new = length_covered_new (frame k) b t low high l z.new; over = length_covered_over (frame k) b t low high l }

  pub noises_sized : (two : Bool) (seed : ℕ) (e : List Float) (t : Tails) → Sized t → Sized (noise_tails two (frame k) (noise_blocks k seed e) t)
  unfolding noise_tails noise_blocks
  noises_sized two seed e t z = record {
    first = covered_sized _ t.first (block-samples k _ _) z.first;
    second = cond_either TailSized two _ t.second (covered_sized _ t.second (block-samples k _ _) z.second) z.second;
  }
