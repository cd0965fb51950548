use mathlib.Core.Path.{refl, ◌∙◌, sym}
use Rattle.reply.specs.Reply.{reply-yes, reply-no}
use Rattle.noise_shape.proofs.Calls.{fits, shape-done}
use Rattle.noise_shape.proofs.noise_shape.Goals as goal

pub returns-then-not-shape_fits : goal.returns-then-not-shape_fits
returns-then-not-shape_fits c = reply-no _ _ _ (sym c.shape_fits.ensures ∙ c.if-not-shape_fits.true) refl

pub shape_each-requires : goal.shape_each-requires
shape_each-requires c = fits c.args.m c.args.start _ (sym c.shape_fits.ensures ∙ c.if-not-shape_fits.false)

pub returns : goal.returns
returns c =
    let r = c.shape_each in
    reply-yes _ _ _ (sym c.shape_fits.ensures ∙ c.if-not-shape_fits.false) (shape-done r.ensures.0 r.ensures.1)
