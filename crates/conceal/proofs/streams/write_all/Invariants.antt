-- What writes the rest from here on has written all.
use Rattle.std.proofs.Common.{ℕ, List, length}
use Rattle.std.specs.declared.option.Option.{Option}
use Rattle.std.specs.Io.KnownBytes.{Appends}
use Rattle.conceal.proofs.streams.write_all.Given as goal

abbrev pub invariant-loop-rest : goal.invariant-loop-rest
invariant-loop-rest g l = (new : Option (List ℕ)) → Appends (g.W.Write.contents l.output) new l.rest → Appends (g.W.Write.contents l.initial.output) new l.buf

abbrev pub decreases-loop-rest : goal.decreases-loop-rest
decreases-loop-rest g l = length l.rest
