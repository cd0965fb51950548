-- What is left of either period, and what the samples before it make.
use Rattle.std.proofs.Common.{length}
use Rattle.std.specs.Iterator.Adapters.{zip_first, zip_second}
use Rattle.std.specs.Slice.Iter.{iter_rest}
use Rattle.excitation.proofs.Steps.{PeriodsAt}
use Rattle.excitation.proofs.decay.pitch_decay.Given as goal

abbrev pub invariant-loop-a : goal.invariant-loop-a
invariant-loop-a l = PeriodsAt l.exc l.period (iter_rest (zip_first l.a-iterator)) (iter_rest (zip_second l.a-iterator)) (length l.yielded) l.e1 l.e2
