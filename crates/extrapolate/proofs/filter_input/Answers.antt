use Rattle.std.proofs.Common.{ap, ◌∙◌, sym, length}
use Rattle.reply.specs.Reply.{value_or, reply-taken}
use Rattle.buffers.specs.Buffers.{zero32}
use Rattle.periodic_copy.proofs.Positions.{cycle-takes}
use Rattle.extrapolate.proofs.Steps.{faded_is}
use Rattle.extrapolate.proofs.filter_input.Goals as goal

pub unwrap-energy-requires : goal.unwrap-energy-requires
unwrap-energy-requires c =
    let r = c.requires in reply-taken _ _ _ c.repeat_cycle.ensures ∙ cycle-takes _ _ r.0 r.1 r.2

pub returns : goal.returns
returns c =
    let a = c.args in
    let v = c.args.voice in
    let r = c.requires in
    let f =
    faded_is (length a.e.now) v.newest.now v.lpc.now c.most_recent-mem.result a.e.now c.repeat_cycle.new.e _ v.lag a.first _ _ c.fade_of.result r.0 r.1 r.2
    c.repeat_cycle.ensures c.fade_of.ensures c.scale.ensures in
    (c.most_recent-mem.ensures, f.0, sym (ap (value_or zero32) c.unwrap-energy.ensures) ∙ f.1)
