use Prim.Native.Nat.{◌-◌, ◌*◌, ◌^◌, ◌≤◌, ◌<◌}
use Rattle.float_root.proofs.isqrt.Given as goal

abbrev pub invariant-loop-lo : goal.invariant-loop-lo
invariant-loop-lo l = (l.lo < l.hi) × (l.hi ≤ 2 ^ 24) × (l.lo * l.lo ≤ l.m) × (l.m < l.hi * l.hi)

abbrev pub decreases-loop-lo : goal.decreases-loop-lo
decreases-loop-lo l = l.hi - l.lo
