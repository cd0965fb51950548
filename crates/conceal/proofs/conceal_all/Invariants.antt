-- What was written so far, and what the rest of the input asks for.
use Rattle.conceal.proofs.Turns.{Turned}
use Rattle.std.proofs.Common.{◌-◌, ◌^◌}
use Rattle.conceal.proofs.conceal_all.Given as goal

abbrev pub invariant-loop-whole : goal.invariant-loop-whole
invariant-loop-whole g l =
    Turned (2 ^ 64 - 1) l.whole (g.R.Read.remaining l.initial.input) (g.R.Read.remaining l.input)
    (g.W.Write.contents l.initial.output) (g.W.Write.contents l.output)
