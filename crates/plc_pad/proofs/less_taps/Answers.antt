-- After as many turns as pairs were yielded, so many taps are taken.
use Rattle.std.proofs.Common.{◌≡◌, sym, length}
use Rattle.std.proofs.lemmas.List.{length_push}
use Rattle.std.proofs.lemmas.Iterator.{YieldsList-from_slice, YieldsList-from_zip}
use Rattle.std.proofs.lemmas.Iterator.Adapters.{YieldsList-from_rev_slice}
use Rattle.std.proofs.lemmas.Iterator.Consumers.{YieldsList-turn}
use Rattle.loops.specs.Fold.{fold-none}
use Rattle.plc_pad.proofs.Taps.{tap_more}
use Rattle.plc_pad.proofs.less_taps.Goals as goal

pub loop-d-init : goal.loop-d-init
loop-d-init c = sym (fold-none _ _)

pub loop-d-preserved : goal.loop-d-preserved
loop-d-preserved c =
    let den = c.args.den.now in
    let past = c.args.past.now in
    let l = c.loop-d in
    let p : length den ≡ 24 = cc in
    let q : length past ≡ 24 = cc in
    let all = YieldsList-from_zip (YieldsList-from_slice den cc) (YieldsList-from_rev_slice past cc) in
    let t = YieldsList-turn all l.yielded l.d-iterator l.yielded_by c.next.result c.next.new.self (c.in-Some.d, c.in-Some.v) c.in-Some.is c.next.ensures.steps in
    tap_more den past c.args.x l.y _ _ (length l.yielded) _ l.invariant p q t.0 t.1 (length_push l.yielded (c.in-Some.d, c.in-Some.v))
