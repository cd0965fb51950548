-- Refused by the lengths, else filtered.
use Rattle.std.proofs.Common.{◌≡◌, ◌∙◌, ◌/◌, length, rules, sym}
use Rattle.deemphasis.proofs.Laws.{room, stereo-done, stereo-short, stereo_uneven}
use Rattle.deemphasis_stereo.proofs.deemphasis_stereo.Goals as goal
use Rattle.deemphasis_stereo.proofs.deemphasis_stereo.Goals.{then-v-w-via-then-v-w, then-v-w-via-else-v-w+then-not-has_room}

pub returns-then-v-w : goal.returns-then-v-w
returns-then-v-w c =
    let a = c.args in
    let two : length a.memories ≡ 2 = search rules in
    elim c.then-v-w.branch [
      | then-v-w-via-then-v-w w ↦ stereo_uneven a.downsample a.v.now a.memories a.pcm.now two a.w.now w.if-v-w.true
      | then-v-w-via-else-v-w+then-not-has_room w ↦
          stereo-short a.downsample a.v.now a.memories a.pcm.now two a.w.now (sym w.has_room.ensures ∙ w.if-not-has_room.true)
    ]

pub filter_stereo-requires : goal.filter_stereo-requires
filter_stereo-requires c =
    let a = c.args in
    (sym c.if-v-w.false, room a.downsample (length a.v.now) (length a.pcm.now / 2) (sym c.has_room.ensures ∙ c.if-not-has_room.false))

pub returns : goal.returns
returns c =
    let a = c.args in
    let two : length a.memories ≡ 2 = search rules in
    let s = c.filter_stereo in
    stereo-done a.downsample a.v.now a.memories a.pcm.now two a.w.now c.if-v-w.false (sym c.has_room.ensures ∙ c.if-not-has_room.false)
    s.result s.new.pcm s.ensures.0 s.ensures.1
