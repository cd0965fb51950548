-- The taps of the padded part are the filter from that place on.
use borrow.Author.Rules.{rules}
use Rattle.plc_fir.proofs.Firs.{fir_part}
use Rattle.plc_fir.proofs.filter_from.Goals as goal

pub returns : goal.returns
returns c = let a = c.args in
    let p = c.padded-pad in
    fir_part a.num.now a.mem.now a.buf.now p.result a.from p.ensures.0 p.ensures.1 (search rules) (search rules) (search rules) _
    c.add_taps.ensures
