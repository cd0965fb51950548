-- A refusal that touches nothing, and the outputs.
use mathlib.Core.Path.{refl, ◌∙◌, sym, subst}
use lib.ListN.{length}
use Rattle.reply.specs.Reply.{reply-yes, reply-no}
use Rattle.mdct.specs.Imdct.{takes_fits, imdct_reply}
use Rattle.cosine_circle.specs.Circle.{IsCircle}
use Rattle.cosine_circle.proofs.Circles.{circle_is}
use Rattle.mdct.proofs.imdct.imdct_naive_f32.Goals as goal

pub returns-then-not-imdct_takes : goal.returns-then-not-imdct_takes
unfolding imdct_reply
returns-then-not-imdct_takes c = reply-no _ _ _ (sym c.imdct_takes.ensures ∙ c.if-not-imdct_takes.true) refl

pub invariant_of-frame : goal.invariant_of-frame
invariant_of-frame c =
    let f = takes_fits _ _ (sym c.imdct_takes.ensures ∙ c.if-not-imdct_takes.false) in
    record { circle_is = subst (IsCircle (length c.args.spectrum.now)) (sym c.circle.ensures) (circle_is _ f.0); frame = f.0 }

pub outputs-requires : goal.outputs-requires
outputs-requires c = let f = takes_fits _ _ (sym c.imdct_takes.ensures ∙ c.if-not-imdct_takes.false) in f.1

pub returns : goal.returns
unfolding imdct_reply
returns c = reply-yes _ _ _ (sym c.imdct_takes.ensures ∙ c.if-not-imdct_takes.false) c.outputs.ensures
