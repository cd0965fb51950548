-- A refusal that touches nothing, and the block.
use mathlib.Core.Path.{◌≡◌, refl, ap, ap₂, ◌∙◌, sym}
use Prim.Native.Nat.{◌+◌, ◌*◌, ◌/◌}
use native.Mathlib.Omega.{arith}
use lib.ListN.{length}
use Rattle.std.proofs.lemmas.List.{take-replicate}
use Rattle.reply.specs.Reply.{reply-yes, reply-no}
use Rattle.buffers.specs.Buffers.{zero32}
use Rattle.cosine_circle.specs.Circle.{is_frame_size}
use Rattle.mdct_pairs.proofs.Lent.{lent-count, back-size}
use Rattle.mdct_mirrored.proofs.Calls.{mirrored-taken}
use Rattle.noise_spectrum.proofs.Calls.{spectrum-left, spectrum-taken}
use Rattle.loops.specs.Front.{tab}
use Rattle.noise_block.specs.Block.{windowed, noise_block, drawn_block}
use Rattle.noise_block.proofs.Calls.{Taken, taken, taken-small, block-is}
use Rattle.noise_block.proofs.noise_block.Goals.{After-factor-m}
use Rattle.noise_block.proofs.noise_block.Goals as goal

pub returns-then-not-block_takes : goal.returns-then-not-block_takes
returns-then-not-block_takes c = reply-no _ _ _ (sym c.block_takes.ensures ∙ c.if-not-block_takes.true) refl

pub factor-m-requires : goal.factor-m-requires
factor-m-requires c = taken-small c.args.lm _ _ _ _ _ _ c.block_takes.ensures c.if-not-block_takes.false

-- the call is one that is taken
call : (c : After-factor-m)
    → Taken c.args.lm c.args.span.start c.args.span.end c.args.span.downsample (length c.args.energies.now) (length c.args.block.now) c.factor-m.result
call c = taken c.args.lm _ _ _ _ _ c.factor-m.result _ c.block_takes.ensures c.if-not-block_takes.false c.factor-m.ensures.0

pub returns-in_err-after : goal.returns-in_err-after
returns-in_err-after c =
    let t = call (goal.at.returns-in_err-after c).After-factor-m in
    absurd (spectrum-taken _ _ _ _ _ _ _ t.span t.all (sym (lent-count zero32 _ 960 t.bins)) c.noise_spectrum.ensures c.in_err-after.was)

pub returns-in_err-imdct_mirrored_f32 : goal.returns-in_err-imdct_mirrored_f32
returns-in_err-imdct_mirrored_f32 c =
    let t = call (goal.at.returns-in_err-imdct_mirrored_f32 c).After-factor-m in
    let s = c.noise_spectrum in
    let l = back-size zero32 _ 960 t.bins s.new.bins s.auto.bins in
    let o = lent-count zero32 (2 * (120 * c.factor-m.result)) 1920 t.outputs in
    absurd (mirrored-taken _ _ (ap is_frame_size l ∙ t.frame) (sym o ∙ ap (λ y. 2 * y) (sym l))
    c.imdct_mirrored_f32.ensures c.in_err-imdct_mirrored_f32.was)

pub window_outputs-requires : goal.window_outputs-requires
window_outputs-requires c =
    let t = call (goal.at.window_outputs-requires c).After-factor-m in
    let n = 120 * c.factor-m.result in
    let i = c.imdct_mirrored_f32 in
    let l : length i.new.out ≡ 2 * n = back-size zero32 (2 * n) 1920 t.outputs i.new.out i.auto.out in
    let half : length i.new.out / 2 ≡ n = omega arith in
    (omega (arith, c.factor-m.ensures), omega (arith, t.outputs), t.long ∙ ap (λ y. y + 120) (sym half))

pub returns : goal.returns
unfolding noise_block
returns c =
    let t = call (goal.at.returns c).After-factor-m in
    let a = c.args in
    let m = c.factor-m.result in
    let n = 120 * m in
    let p = c.noise_spectrum in
    let i = c.imdct_mirrored_f32 in
    let s = spectrum-left m _ _ _ a.seed a.energies.now _ t.span t.all (sym (lent-count zero32 n 960 t.bins)) p.ensures c.in_ok-after.was
    (take-replicate n 960 zero32 t.bins) in
    let l : length i.new.out ≡ 2 * n = back-size zero32 (2 * n) 1920 t.outputs i.new.out i.auto.out in
    let half : length i.new.out / 2 ≡ n = omega arith in
    let w = c.window_outputs.ensures ∙ ap (λ z. tab (windowed z i.new.out) (z + 120)) half in
    let b = block-is m a.span.start a.span.end a.span.downsample a.seed a.energies.now p.new.bins _ i.new.out _ i.result
    t.frame s.0 (back-size zero32 n 960 t.bins p.new.bins p.auto.bins)
    (sym (lent-count zero32 (2 * n) 1920 t.outputs)) i.ensures w in
    reply-yes _ _ _ (sym c.block_takes.ensures ∙ c.if-not-block_takes.false)
    (ap₂ drawn_block b s.1 ∙ ap (λ z. noise_block z a.span.start a.span.end a.span.downsample a.seed a.energies.now) c.factor-m.ensures.0)
