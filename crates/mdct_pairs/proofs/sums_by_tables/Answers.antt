-- The tables are of the lengths that their makers ask for.
use mathlib.Core.Path.{◌∙◌}
use Rattle.reply.specs.Reply.{reply-lent, reply-taken}
use Rattle.cosine_circle.proofs.Sizes.{few}
use Rattle.cosine_pairs.specs.Pairs.{pairs_reply}
use Rattle.cosine_pairs.proofs.Pairs.{takes-frame}
use Rattle.mdct_pairs.proofs.sums_by_tables.Goals as goal

pub unwrap-requires : goal.unwrap-requires
unfolding pairs_reply
unwrap-requires c = reply-taken _ _ _ c.fill_pairs.ensures ∙ takes-frame _ _ c.requires.frame c.requires.rooms.0

pub fill_inputs-requires : goal.fill_inputs-requires
fill_inputs-requires c = (few _ c.requires.frame, c.requires.rooms.1)

pub invariant_of-tables : goal.invariant_of-tables
unfolding pairs_reply
invariant_of-tables c =
    record {
      frame = c.requires.frame;
      pairs_value = reply-lent _ _ _ c.fill_pairs.ensures (takes-frame _ _ c.requires.frame c.requires.rooms.0);
      inputs_value = c.fill_inputs.ensures;
    }
