-- From place 0 on is all.
use Rattle.plc_fir.proofs.Firs.{fir_all}
use Rattle.plc_fir.proofs.celt_fir_inplace.Goals as goal

pub returns : goal.returns
returns c = let a = c.args in
    fir_all a.num.now a.mem.now a.buf.now c.celt_fir_from.ensures
