use mathlib.Core.Path.{◌≡◌, ◌∙◌, sym}
use lib.ListN.{length}
use borrow.Author.Rules.{rules}
use Rattle.deemphasis.proofs.Laws.{room, mono-done, mono-refused}
use Rattle.deemphasis_mono.proofs.deemphasis_mono.Goals as goal

pub filter_mono-requires : goal.filter_mono-requires
filter_mono-requires c =
    let a = c.args in
    room a.downsample (length a.v.now) (length a.pcm.now) (sym c.has_room.ensures ∙ c.if-not-has_room.false)

pub returns : goal.returns
returns c =
    let a = c.args in
    let two : length a.memories ≡ 2 = search rules in
    mono-done a.downsample a.v.now a.memories a.pcm.now two (sym c.has_room.ensures ∙ c.if-not-has_room.false)
    c.filter_mono.result c.filter_mono.new.pcm c.filter_mono.ensures.0 c.filter_mono.ensures.1

pub returns-then-not-has_room : goal.returns-then-not-has_room
returns-then-not-has_room c =
    let a = c.args in
    let two : length a.memories ≡ 2 = search rules in
    mono-refused a.downsample a.v.now a.memories a.pcm.now two (sym c.has_room.ensures ∙ c.if-not-has_room.true)
