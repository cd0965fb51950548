use Rattle.std.proofs.Common.{◌≡◌, refl, ◌∙◌, sym, true, false, length}
use Rattle.reply.specs.Reply.{reply-yes, reply-no, reply-taken}
use Rattle.extrapolate.proofs.Steps.{takes-fits, iir-takes, extrapolate_is}
use Rattle.extrapolate.proofs.extrapolate.Goals as goal

pub returns-then-not-takes : goal.returns-then-not-takes
returns-then-not-takes c = reply-no _ _ _ (sym c.if-not-takes.ensures) refl

pub filter_input-energy-requires : goal.filter_input-energy-requires
filter_input-energy-requires c = let f = takes-fits _ _ _ (sym c.if-not-takes.ensures) in (f.whole, f.lag_low, f.lag_high)

pub returns-in_err-celt_iir_inplace : goal.returns-in_err-celt_iir_inplace
returns-in_err-celt_iir_inplace c =
    let a = c.args in
    let v = c.args.voice in
    let x = c.filter_input-energy in
    let no : false ≡ true = reply-taken _ _ _ c.in_err-celt_iir_inplace.ensures
    ∙ iir-takes (length a.e.now) v.newest.now v.lpc.now x.result.0 _ c.celt_iir_inplace.new.buf _ v.lag a.first _ x.ensures.0 (x.ensures.1, x.ensures.2) refl
    (takes-fits _ _ _ (sym c.if-not-takes.ensures)).room in
    cc

pub returns : goal.returns
returns c =
    let a = c.args in
    let v = c.args.voice in
    let x = c.filter_input-energy in
    reply-yes _ _ _ (sym c.if-not-takes.ensures)
    (extrapolate_is (length a.e.now) v.newest.now v.lpc.now x.result.0 _ _ _ v.lag a.first _ x.ensures.0 (x.ensures.1, x.ensures.2)
    c.energy_guard.ensures.1
    _
    (takes-fits _ _ _ (sym c.if-not-takes.ensures)).room
    c.in_ok-celt_iir_inplace.ensures)
