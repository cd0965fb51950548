-- `finish::conclude` meets its contract: field by field.
use Rattle.std.proofs.Common.{ap, sym, ◌∙◌, rules}
use Rattle.reply.specs.Reply.{value_or}
use Rattle.deemphasis.specs.Deemphasis.{sound}
use Rattle.finish.proofs.End.{accepted_count, heard, finish-left}
use Rattle.finish.proofs.conclude.Goals as goal

pub unwrap-memories-requires : goal.unwrap-memories-requires
unwrap-memories-requires c =
    let a = c.args in
    (heard a.s a.history.now a.pcm.now _ _ c.requires c.frame_sound.ensures).0

pub overflow_add-state : goal.overflow_add-state
overflow_add-state c =
    let w = accepted_count c.args.s _ _ c.requires (search rules) in
    search rules

pub returns : goal.returns
returns c =
    let a = c.args in
    let y = sym (ap (λ r. sound c.frame_sound.new.pcm (value_or a.s.memories r)) c.unwrap-memories.ensures)
    ∙ (heard a.s a.history.now a.pcm.now _ _ c.requires c.frame_sound.ensures).1 in
    finish-left a.s a.made a.history.now a.pcm.now _ _ y c.needed_samples.ensures
