-- A refusal that touches nothing, and the outputs from the sums.
use mathlib.Core.Path.{◌≡◌, refl, ◌∙◌, sym}
use mathlib.Core.Bool.{true}
use lib.ListN.{length}
use Rattle.reply.specs.Reply.{reply-no}
use Rattle.mdct.specs.Imdct.{imdct_takes, takes_fits}
use Rattle.mdct_mirrored.specs.Mirrored.{mirrored_reply}
use Rattle.mdct_mirrored.proofs.Calls.{few-in, lent-in, back-even, back-room, sums-taken, summed-is, taken}
use Rattle.mdct_mirrored.proofs.imdct_mirrored_f32.Goals.{Else-not-imdct_takes}
use Rattle.mdct_mirrored.proofs.imdct_mirrored_f32.Goals as goal

pub returns-then-not-imdct_takes : goal.returns-then-not-imdct_takes
unfolding mirrored_reply
returns-then-not-imdct_takes c = reply-no _ _ _ (sym c.imdct_takes.ensures ∙ c.if-not-imdct_takes.true) refl

-- a call that is taken, from here on
takes : (c : Else-not-imdct_takes) → imdct_takes (length c.args.spectrum.now) (length c.args.out.now) ≡ true
takes c = sym c.imdct_takes.ensures ∙ c.if-not-imdct_takes.false

pub slice_bounds-room-end : goal.slice_bounds-room-end
slice_bounds-room-end c = few-in _ _ (takes c)

pub slice_bounds-sums-end : goal.slice_bounds-sums-end
slice_bounds-sums-end c = lent-in _ _ (takes (goal.at.slice_bounds-sums-end c).Else-not-imdct_takes)

pub returns-in_err-products : goal.returns-in_err-products
returns-in_err-products c =
    let t = takes (goal.at.returns-in_err-products c).Else-not-imdct_takes in
    absurd (sums-taken _ _ (takes_fits _ _ t).0 (sym (lent-in _ _ t)) c.pair_sums.ensures c.in_err-products.was)

pub invariant_of-outputs : goal.invariant_of-outputs
invariant_of-outputs c =
    record { even = back-even _ _ (takes (goal.at.invariant_of-outputs c).Else-not-imdct_takes) _ c.pair_sums.auto.sums }

pub outputs-requires : goal.outputs-requires
outputs-requires c = back-room _ _ (takes (goal.at.outputs-requires c).Else-not-imdct_takes) _ c.pair_sums.auto.sums

pub returns : goal.returns
returns c =
    let s = c.pair_sums in
    let t = takes (goal.at.returns c).Else-not-imdct_takes in
    let l = lent-in _ _ t in
    taken _ _ s.new.sums _ _ t (s.auto.sums ∙ sym l) (summed-is _ _ (takes_fits _ _ t).0 (sym l) s.ensures c.in_ok-products.was)
    c.outputs.ensures
