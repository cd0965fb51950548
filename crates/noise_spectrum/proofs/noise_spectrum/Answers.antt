use mathlib.Core.Path.{◌≡◌, refl, ap₂, ◌∙◌, sym}
use Prim.Native.Nat.{◌-◌}
use native.Mathlib.Omega.{arith}
use lib.ListN.{length, take, drop, replicate}
use borrow.Author.Rules.{rules}
use Rattle.reply.specs.Reply.{reply-yes, reply-no}
use Rattle.buffers.specs.Buffers.{zero32}
use Rattle.noise_shape.specs.Shape.{shaped}
use Rattle.noise_shape.proofs.Calls.{shape-left, shape-takes}
use Rattle.noise_spectrum.proofs.Calls.{takes, spectrum-is, seed_is}
use Rattle.noise_spectrum.proofs.noise_spectrum.Goals as goal

pub returns-then-not-spectrum_takes : goal.returns-then-not-spectrum_takes
returns-then-not-spectrum_takes c = reply-no _ _ _ (sym c.spectrum_takes.ensures ∙ c.if-not-spectrum_takes.true) refl

pub returns-in_err-after : goal.returns-in_err-after
returns-in_err-after c =
    let f = takes c.args.m _ _ _ _ _ (sym c.spectrum_takes.ensures ∙ c.if-not-spectrum_takes.false) in
    absurd (shape-takes _ _ _ _ f.0.small (omega (arith, f)) (omega (arith, f)) c.noise_shape.ensures c.in_err-after.was)

pub returns : goal.returns
returns c =
    let a = c.args in
    let t = sym c.spectrum_takes.ensures ∙ c.if-not-spectrum_takes.false in
    let f = takes a.m _ _ _ _ _ t in
    let z = shape-left a.m a.span.start a.seed a.bins.now f.0.small (omega (arith, f)) (omega (arith, f)) c.noise_shape.ensures c.in_ok-after.was in
    let g = c.apply_gains.new.bins in
    let y : c.fill.new.self ≡ replicate (length (take (length g - c.bound.result) (drop c.bound.result g))) zero32 = search rules in
    reply-yes _ _ _ t
    (ap₂ shaped
    (spectrum-is a.m a.span.start a.span.end a.span.downsample a.seed c.bound.result a.energies.now a.bins.now _ g _
    z.1 c.apply_gains.ensures c.bound.ensures.0 (omega (arith, f)) y)
    (seed_is a.m a.span.start a.span.end a.span.downsample a.seed _ a.energies.now a.bins.now z.0))
