-- `read_state` meets its contract: its words read as a state.
use Rattle.std.proofs.Common.{ap, ◌∙◌, rules}
use Rattle.loops.specs.Front.{get_or-tab}
use Rattle.state_words.specs.Words.{state_length, state_in}
use Rattle.state_words.proofs.Parts.{state-same}
use Rattle.loops.specs.Made.{made}
use Rattle.words.specs.Bytes.{word_at}
use Rattle.record.specs.Record.{state_of}
use Rattle.record.proofs.read_state.Goals as goal

pub returns : goal.returns
unfolding state_of
returns c =
    let b = c.args.b.now in
    c.from_words.ensures ∙ ap state_in (made _ (word_at b) _ state_length (λ i y q l k. search rules) 0 _ c.from_fn.ensures.items)
    ∙ state-same _ (word_at b) (λ i l. get_or-tab _ state_length i 0 l)
