use Rattle.std.proofs.Common.{◌≡◌, sym, ◌∙◌, arith, ℕ, ◌+◌}
use Rattle.std.specs.Float.{nan}
use Rattle.loops.specs.Front.{tab-none, tab-more}
use Rattle.loops.specs.Sum.{sum-none}
use Rattle.reply.specs.Reply.{reply-yes}
use Rattle.periodic_copy.specs.Copy.{position_at, position-none, position-more, decay_none, decay_more}
use Rattle.periodic_copy.proofs.Positions.{position_in, cycle-takes, copied_sample, heard_more, whole_cycle}
use Rattle.periodic_copy.proofs.periodic_copy.Goals as goal

pub loop-sample-init : goal.loop-sample-init
loop-sample-init c = record {
  within = omega arith;
  at = position-none _;
  decay = decay_none _ _;
  copied = tab-none _ _;
  heard = sym (sum-none _ _ _);
}

pub loop-sample-preserved : goal.loop-sample-preserved
loop-sample-preserved c =
    let a = c.args in
    let h = c.loop-sample.invariant in
    let i : ℕ = c.loop-sample.sample-index in
    let at : c.next-place.result.at ≡ position_at a.lag (i + 1) = c.next-place.ensures.0 ∙ position-more _ _ _ h.at in
    record {
      within = omega (arith, position_in a.lag (i + 1) (omega arith));
      at = at;
      decay = c.next-place.ensures.1 ∙ decay_more _ _ _ _ _ h.at h.decay;
      copied = tab-more _ nan _ _ _ h.copied _ (copied_sample a.exc.now a.newest.now _ _ _ _ _ h.at h.decay) (omega arith);
      heard = heard_more a.exc.now a.newest.now _ _ _ _ _ h.at h.decay _ h.heard;
    }

pub returns : goal.returns
returns c =
    let h = c.loop-sample.invariant in
    reply-yes _ _ _ (cycle-takes _ _ c.if-newest-ne-HALF.false (omega arith) (omega arith)) (whole_cycle _ _ _ _ _ _ _ _ h.copied h.heard (omega arith))
