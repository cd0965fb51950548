-- Nothing drops from loss count 5 on; else the energies before place i are lower where they drop.
use borrow.Author.Rules.{rules}
use borrow.Author.Tests.{le-leb}
use Rattle.loops.specs.Front.{tab-none}
use Rattle.noise_energies.specs.Energies.{lower_energies}
use Rattle.noise_energies.proofs.Laws.{lower-more, lower-all}
use Rattle.noise_energies.proofs.lower_energies.Goals as goal

pub returns-then-count-ge-LATE : goal.returns-then-count-ge-LATE
unfolding lower_energies
returns-then-count-ge-LATE c = rw (le-leb 5 c.args.count c.if-count-ge-LATE.true)

pub loop-i-init : goal.loop-i-init
loop-i-init c = tab-none _ _

pub loop-i-preserved : goal.loop-i-preserved
loop-i-preserved c =
    lower-more _ _ _ _ _ _ _ c.loop-i.invariant _ _ c.energy_drop-by.ensures (search rules) c.dropped.ensures

pub returns : goal.returns
returns c = lower-all _ _ _ _ _ _ _ c.loop-i.invariant (search rules) (search rules)
