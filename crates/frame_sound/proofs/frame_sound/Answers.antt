-- The lengths fit, so neither step refuses what is taken.
use Rattle.std.proofs.Common.{arith, refl, rules, ◌∙◌, sym}
use Rattle.reply.specs.Reply.{reply-no}
use Rattle.frame_sound.proofs.Takes.{takes-each}
use Rattle.frame_sound.proofs.Frames.{yes, high, mono-sound, stereo-sound}
use Rattle.frame_sound.proofs.frame_sound.Goals as goal

pub returns-then-not-sound_takes : goal.returns-then-not-sound_takes
returns-then-not-sound_takes c = reply-no _ _ _ (sym c.sound_takes.ensures ∙ c.if-not-sound_takes.true) refl

pub overflow_sub-first : goal.overflow_sub-first
overflow_sub-first c =
    let t = takes-each _ _ _ (sym c.sound_takes.ensures ∙ c.if-not-sound_takes.false) in
    omega (arith, high c.args.k t.0 c.args.history.now t.1 _ c.frame_size-n.ensures)

pub slice_bounds-first-end : goal.slice_bounds-first-end
slice_bounds-first-end c =
    let t = takes-each _ _ _ (sym c.sound_takes.ensures ∙ c.if-not-sound_takes.false) in
    search rules

pub slice_bounds-second-end : goal.slice_bounds-second-end
slice_bounds-second-end c =
    let t = takes-each _ _ _ (sym c.sound_takes.ensures ∙ c.if-not-sound_takes.false) in
    search rules

pub overflow_sub-second : goal.overflow_sub-second
overflow_sub-second c =
    let t = takes-each _ _ _ (sym c.sound_takes.ensures ∙ c.if-not-sound_takes.false) in
    omega (arith, high c.args.k t.0 c.args.history.now t.1 _ c.frame_size-n.ensures)

pub returns-then-is_stereo : goal.returns-then-is_stereo
returns-then-is_stereo c =
    let a = c.args in
    let f = c.frame_size-n in
    let y = sym c.sound_takes.ensures ∙ c.if-not-sound_takes.false in
    let t = takes-each _ _ _ y in
    yes _ _ _ y
    (stereo-sound a.k t.0 a.history.now t.1 f.result f.ensures a.memories a.pcm.now t.2 (sym c.is_stereo.ensures ∙ c.if-is_stereo.true) c.deemphasis_stereo.ensures)

pub returns-else-is_stereo : goal.returns-else-is_stereo
returns-else-is_stereo c =
    let a = c.args in
    let f = c.frame_size-n in
    let y = sym c.sound_takes.ensures ∙ c.if-not-sound_takes.false in
    let t = takes-each _ _ _ y in
    yes _ _ _ y
    (mono-sound a.k t.0 a.history.now t.1 f.result f.ensures a.memories a.pcm.now t.2 (sym c.is_stereo.ensures ∙ c.if-is_stereo.false) c.deemphasis_mono.ensures)
