use Rattle.std.proofs.Common.{◌≡◌, refl, ◌∙◌, sym, true, false, length, arith}
use Rattle.reply.specs.Reply.{reply-yes, reply-taken}
use Rattle.extrapolate.proofs.Steps.{takes-fits, pair-takes, iir-pair-takes, pair_is}
use Rattle.extrapolate.proofs.extrapolate_pair.Goals as goal

pub filter_input-s0-requires : goal.filter_input-s0-requires
filter_input-s0-requires c = let f = takes-fits _ _ _ (sym c.if-not-takes.ensures) in (f.whole, f.lag_low, f.lag_high)

pub filter_input-s1-requires : goal.filter_input-s1-requires
filter_input-s1-requires c = let f = takes-fits _ _ _ (sym c.if-not-takes-2.ensures) in (f.whole, f.lag_low, f.lag_high)

pub returns-in_err-celt_iir_pair : goal.returns-in_err-celt_iir_pair
returns-in_err-celt_iir_pair c =
    let a = c.args in
    let v = c.args.voice0 in
    let w = c.args.voice1 in
    let x = c.filter_input-s0 in
    let y = c.filter_input-s1 in
    let no : false ≡ true = reply-taken _ _ _ c.in_err-celt_iir_pair.ensures
    ∙ iir-pair-takes (length a.e0.now) v.newest.now w.newest.now v.lpc.now w.lpc.now x.result.0 y.result.0 _ _
    c.celt_iir_pair.new.a c.celt_iir_pair.new.b _ _ v.lag w.lag a.first _ _
    x.ensures.0 y.ensures.0 (length a.e1.now) (omega arith) (x.ensures.1, x.ensures.2) (y.ensures.1, y.ensures.2) refl refl
    (takes-fits _ _ _ (sym c.if-not-takes.ensures)).room in
    cc

pub returns : goal.returns
returns c =
    let a = c.args in
    let v = c.args.voice0 in
    let w = c.args.voice1 in
    let x = c.filter_input-s0 in
    let y = c.filter_input-s1 in
    reply-yes _ _ _ (pair-takes _ _ _ _ _ _ (omega arith) (sym c.if-not-takes.ensures) (sym c.if-not-takes-2.ensures))
    (pair_is (length a.e0.now) v.newest.now w.newest.now v.lpc.now w.lpc.now x.result.0 y.result.0 _ _ _ _ _ _ v.lag w.lag a.first _ _
    x.ensures.0 y.ensures.0 (length a.e1.now) (omega arith) (x.ensures.1, x.ensures.2) (y.ensures.1, y.ensures.2)
    c.energy_guard.ensures.1 c.energy_guard-2.ensures.1 _
    (takes-fits _ _ _ (sym c.if-not-takes.ensures)).room
    c.in_ok-celt_iir_pair.ensures)
