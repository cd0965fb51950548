-- A refusal that touches nothing, and the pairs of six quarters.
use mathlib.Core.Path.{◌∙◌, sym}
use native.Mathlib.Omega.{arith}
use borrow.Author.Rules.{rules}
use Rattle.reply.specs.Reply.{reply-yes}
use Rattle.cosine_pairs.specs.Pairs.{pairs_reply}
use Rattle.cosine_pairs.proofs.Pairs.{quarters_none, quarters_more, quarters_all, takes-frame}
use Rattle.cosine_pairs.proofs.fill_pairs.Goals as goal

pub loop-r-init : goal.loop-r-init
loop-r-init c = quarters_none c.args.n c.args.pairs.now

pub loop-r-preserved : goal.loop-r-preserved
loop-r-preserved c = quarters_more _ _ _ _ _ _ c.loop-r.invariant c.quarter.ensures (omega arith)

pub returns : goal.returns
unfolding pairs_reply
returns c =
    let f = sym c.is_frame_size.ensures ∙ c.if-not-is_frame_size.false in
    reply-yes _ _ _ (takes-frame _ _ f c.if-pairs-n.false) (quarters_all _ _ _ _ c.if-pairs-n.false c.loop-r.invariant (search rules))
