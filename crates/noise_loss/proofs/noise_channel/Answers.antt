-- The block fits the room, and the channel's newest samples.
use mathlib.Core.Path.{◌≡◌, refl, ap, ap₂, ◌∙◌, sym}
use Prim.Native.Nat.{◌+◌, ◌-◌, ◌≤◌}
use native.Mathlib.Omega.{arith}
use lib.ListN.{length, take, drop, length-drop}
use lib.Seq.{length-take-le}
use borrow.Author.Rules.{rules}
use Rattle.loops.specs.Part.{put}
use Rattle.buffers.specs.Buffers.{zero32}
use Rattle.history.specs.History.{half, overlap, tail_at, tail_list}
use Rattle.settings.specs.Settings.{frame}
use Rattle.mdct_pairs.proofs.Lent.{lent-count, back-size}
use Rattle.noise_block.specs.Block.{Block}
use Rattle.noise_cover.specs.Cover.{covered_tail}
use Rattle.noise_cover.proofs.Tails.{laid-is, laid-taken, cover-is}
use Rattle.noise_loss.proofs.Channels.{block-taken, block-drawn}
use Rattle.noise_loss.proofs.Sizes.{sized}
use Rattle.noise_loss.proofs.noise_channel.Goals.{After-frame_size-n}
use Rattle.noise_loss.proofs.noise_channel.Goals as goal

-- the frame's size, on which all the rest depends
size : (c : After-frame_size-n)
    → (120 ≤ c.frame_size-n.result) × (c.frame_size-n.result ≤ 960) × (c.frame_size-n.result + 120 ≤ 1080) × (c.frame_size-n.result ≡ frame c.args.k)
size c = sized c.args.k c.requires.0 _ c.frame_size-n.ensures

pub overflow_add-room : goal.overflow_add-room
overflow_add-room c = let z = size (goal.at.overflow_add-room c).After-frame_size-n in search rules

pub slice_bounds-room-end : goal.slice_bounds-room-end
slice_bounds-room-end c = let z = size (goal.at.slice_bounds-room-end c).After-frame_size-n in z.2

pub slice_bounds-block-end : goal.slice_bounds-block-end
slice_bounds-block-end c =
    let z = size (goal.at.slice_bounds-block-end c).After-frame_size-n in
    lent-count zero32 (c.frame_size-n.result + 120) 1080 z.2

pub unwrap-after-requires : goal.unwrap-after-requires
unwrap-after-requires c =
    let z = size (goal.at.unwrap-after-requires c).After-frame_size-n in
    block-taken c.args.k c.requires.0 c.args.energies.now _ c.args.seed c.told-energies
    (sym (lent-count zero32 (c.frame_size-n.result + 120) 1080 z.2) ∙ ap (λ v. v + 120) z.3) c.noise_block.ensures

pub overflow_sub-n : goal.overflow_sub-n
overflow_sub-n c = let z = size (goal.at.overflow_sub-n c).After-frame_size-n in omega arith

pub unwrap-requires : goal.unwrap-requires
unwrap-requires c =
    let z = size (goal.at.unwrap-requires c).After-frame_size-n in
    let n = c.frame_size-n.result in
    let h = c.args.part.now in
    let from = 2048 - n in
    let m = length h - from in
    laid-taken n (take m (drop from h)) c.noise_block.new.block z.0
    (length-take-le m (drop from h) (omega (arith, length-drop from h)) ∙ omega (arith, c.requires.1))
    (back-size zero32 (n + 120) 1080 z.2 c.noise_block.new.block c.noise_block.auto.block) c.lay.ensures

pub returns : goal.returns
returns c =
    let z = size (goal.at.returns c).After-frame_size-n in
    let a = c.args in
    let h = a.part.now in
    let n = c.frame_size-n.result in
    let from = 2048 - n in
    let m = length h - from in
    let b = c.noise_block in
    let y = b.new.block in
    let l = back-size zero32 (n + 120) 1080 z.2 y b.auto.block in
    let e = block-drawn a.k c.requires.0 a.energies.now _ a.seed c.told-energies
    (sym (lent-count zero32 (n + 120) 1080 z.2) ∙ ap (λ v. v + 120) z.3) b.ensures c.unwrap-after.ensures in
    let f = laid-is n (take m (drop from h)) y z.0
    (length-take-le m (drop from h) (omega (arith, length-drop from h)) ∙ omega (arith, c.requires.1)) l c.lay.ensures in (
      ap (λ (v : Block). v.seed) e,
      cover-is n h y (omega (arith, c.requires.1)) z.0 (omega arith) l from m c.lay.new.tail refl (omega (arith, c.requires.1)) f
          ∙ ap₂ (λ v (u : Block). put half (half + overlap) (tail_list (covered_tail v u.samples (tail_at 0 h))) h) z.3 e,
    )
