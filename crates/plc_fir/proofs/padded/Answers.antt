-- The memory stands before place 24 and the samples from it on.
use Rattle.std.proofs.Common.{rules}
use Rattle.buffers.specs.Buffers.{zero32}
use Rattle.plc_pad.proofs.Taps.{remember-taken, remembers_all}
use Rattle.plc_fir.proofs.Taps.{remembers_put, holds-put}
use Rattle.plc_fir.proofs.padded.Goals as goal

pub unwrap-requires : goal.unwrap-requires
unwrap-requires c = remember-taken c.args.mem.now 1048 zero32 c.remember.ensures (search rules) (search rules)

pub returns : goal.returns
returns c = let a = c.args in
    let pad = c.remember in
    let copy = c.copy_from_slice in (
      remembers_put a.mem.now a.buf.now pad.new.pad copy.new.self _ (search rules)
          (remembers_all a.mem.now 1048 zero32 pad.ensures (search rules) (search rules)) (search rules),
      holds-put a.mem.now a.buf.now pad.new.pad copy.new.self _ (search rules) copy.ensures.after,
    )
