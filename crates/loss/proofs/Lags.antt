-- A found lag is within the limits.
use mathlib.Core.Bool.{Bool}
use mathlib.Core.List.{List}
use Prim.Native.Nat.{◌≤◌}
use native.Mathlib.Omega.{arith}
use lib.Ieee.{Float}
use Rattle.state.specs.Refusal.{lag_least, lag_most}
use Rattle.plc_search.specs.Offset.{offset-le}
use Rattle.pitch_lag.specs.Lag.{lag_of, low_passed}

pub lag_low : (two : Bool) (h : List Float) → lag_least ≤ lag_of two h
unfolding lag_of
lag_low two h = omega (arith, offset-le (low_passed two h))

pub lag_high : (two : Bool) (h : List Float) → lag_of two h ≤ lag_most
unfolding lag_of
lag_high two h = omega arith
