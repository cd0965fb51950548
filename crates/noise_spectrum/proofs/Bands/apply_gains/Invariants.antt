-- Before band i those from start on have their gain.
use mathlib.Core.Path.{◌≡◌}
use Rattle.noise_spectrum.specs.Spectrum.{gain_turn}
use Rattle.loops.specs.Fold.{fold_range}
use Rattle.noise_spectrum.proofs.Bands.apply_gains.Given as goal

abbrev pub invariant-loop-i : goal.invariant-loop-i
invariant-loop-i l = l.bins ≡ fold_range (gain_turn l.self.m l.energies) l.initial.bins l.fn.self.span.start l.i
