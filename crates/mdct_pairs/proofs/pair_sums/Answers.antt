-- The sums, by small tables or large ones.
use mathlib.Core.Path.{ap₂, ◌∙◌, sym}
use native.Mathlib.Omega.{arith}
use Rattle.reply.specs.Reply.{reply-yes}
use Rattle.cosine_circle.proofs.Sizes.{few}
use Rattle.mdct_pairs.specs.Pairs.{pair_reply, summed}
use Rattle.mdct_pairs.proofs.Takes.{takes}
use Rattle.mdct_pairs.proofs.pair_sums.Goals as goal

pub sums_within-requires : goal.sums_within-requires
sums_within-requires c =
    record { frame = sym c.is_frame_size.ensures ∙ c.if-not-is_frame_size.false; rooms = omega arith; sums_len = c.if-sums-n.false }

pub sums_within-requires-else-n-eq-FRAME_LEAST : goal.sums_within-requires-else-n-eq-FRAME_LEAST
sums_within-requires-else-n-eq-FRAME_LEAST c =
    let f = sym c.is_frame_size.ensures ∙ c.if-not-is_frame_size.false in
    record { frame = f; rooms = omega (arith, few _ f); sums_len = c.if-sums-n.false }

pub returns-then-n-eq-FRAME_LEAST : goal.returns-then-n-eq-FRAME_LEAST
unfolding pair_reply
returns-then-n-eq-FRAME_LEAST c =
    let s = c.sums_within in
    reply-yes _ _ _ (takes _ _ (sym c.is_frame_size.ensures ∙ c.if-not-is_frame_size.false) c.if-sums-n.false) (ap₂ summed s.ensures.0 s.ensures.1)

pub returns-else-n-eq-FRAME_LEAST : goal.returns-else-n-eq-FRAME_LEAST
unfolding pair_reply
returns-else-n-eq-FRAME_LEAST c =
    let s = c.sums_within-else-n-eq-FRAME_LEAST in
    reply-yes _ _ _ (takes _ _ (sym c.is_frame_size.ensures ∙ c.if-not-is_frame_size.false) c.if-sums-n.false) (ap₂ summed s.ensures.0 s.ensures.1)
