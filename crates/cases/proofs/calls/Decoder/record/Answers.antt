use Rattle.std.proofs.Common.{rules}
use Rattle.cases.proofs.Takes.{record_takes}
use Rattle.cases.proofs.calls.Decoder.record.Goals as goal

pub unwrap-requires : goal.unwrap-requires
unwrap-requires c = record_takes _ _ _ _ _ _ c.write_record.ensures (search rules) (search rules)
