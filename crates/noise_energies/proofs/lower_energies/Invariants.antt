-- The energies before place i are lower where they drop.
use mathlib.Core.Path.{◌≡◌}
use Rattle.loops.specs.Front.{front, tab}
use Rattle.noise_energies.specs.Energies.{dropped_at}
use Rattle.noise_energies.proofs.lower_energies.Given as goal

abbrev pub invariant-loop-i : goal.invariant-loop-i
invariant-loop-i l = l.energy-items ≡ front (tab (dropped_at l.channels l.start l.end l.count l.initial.energy-items) l.i) l.initial.energy-items l.i
