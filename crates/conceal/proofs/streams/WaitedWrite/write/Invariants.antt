-- A failed write appends nothing.
use Rattle.std.specs.Io.KnownBytes.{Keeps}
use Rattle.conceal.proofs.streams.WaitedWrite.write.Given as goal

abbrev pub invariant-loop : goal.invariant-loop
invariant-loop g l = Keeps (g.W.Write.contents l.initial.self.stream) (g.W.Write.contents l.self.stream)
