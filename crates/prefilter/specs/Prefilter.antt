-- The pre-filter of the overlap.
use Rattle.std.specs.Prelude.{◌≡◌, ℕ, ◌+◌, Bool, ◌&&◌, List, ◌++◌, length, take, drop, eqb, Float}
use Rattle.std.proofs.Math.Path.{refl, ap}
use Rattle.std.proofs.Common.{◌∙◌}
use Rattle.std.proofs.Math.Bool.{true, false, cond}
use Rattle.std.specs.Float.Ieee.{nan, binary32, neg, eq, lt, le, of_bits}
use Rattle.history.specs.History.{half, overlap}
use Rattle.post_filter.specs.declared.Filter.{Filter}
use Rattle.post_filter.specs.Limits.{filter_fits}
use Rattle.comb_filter.specs.Comb.{comb_filtered, length-comb_filtered}

-- a gain of zero, of either sign, skips the filter; a NaN does not
unfoldable pub skips : Float → Bool
skips g = eq g (of_bits binary32 0)

-- the overlap behind the newest samples
unfoldable pub pre_filtered : Filter → List Float → List Float → List Float
pre_filtered f new over = cond (skips f.gain) over (comb_filtered f (new ++ over))

-- both zeros skip it; a NaN and a gain below zero do not
module _ (f : Filter) (new over : List Float) where
  by_gain : (g : Float) (b : Bool) → skips g ≡ b → f.gain ≡ g → pre_filtered f new over ≡ cond b over (comb_filtered f (new ++ over))
  unfolding pre_filtered
  by_gain g b e q = ap (λ z. cond z over (comb_filtered f (new ++ over))) (ap skips q ∙ e)

  pub zero-skips : f.gain ≡ of_bits binary32 0 → pre_filtered f new over ≡ over
  unfolding skips eq lt le of_bits
  zero-skips q = by_gain (of_bits binary32 0) true refl q

  pub minus-zero-skips : f.gain ≡ neg (of_bits binary32 0) → pre_filtered f new over ≡ over
  unfolding skips eq lt le neg of_bits
  minus-zero-skips q = by_gain (neg (of_bits binary32 0)) true refl q

  pub nan_filters : f.gain ≡ nan → pre_filtered f new over ≡ comb_filtered f (new ++ over)
  unfolding skips eq lt le
  nan_filters q = by_gain nan false refl q

  pub minus-one_filters : f.gain ≡ neg (of_bits binary32 0x3f80_0000) → pre_filtered f new over ≡ comb_filtered f (new ++ over)
  unfolding skips eq lt le neg of_bits
  minus-one_filters q = by_gain (neg (of_bits binary32 0x3f80_0000)) false refl q

pub length-pre_filtered : (f : Filter) (new over : List Float) → length over ≡ overlap → length (pre_filtered f new over) ≡ overlap
unfolding pre_filtered
length-pre_filtered f new over l = go (skips f.gain)
  where
    go : (b : Bool) → length (cond b over (comb_filtered f (new ++ over))) ≡ overlap
    go true = l
    go false = length-comb_filtered f (new ++ over)

-- the newest 1,024 as they were, and the overlap behind them
unfoldable pub pre_filtered_end : Filter → List Float → List Float
pre_filtered_end f t = take half t ++ pre_filtered f (take half t) (drop half t)

-- how many samples, which setting
unfoldable pub prefilter_takes : ℕ → Filter → Bool
prefilter_takes n f = eqb n (half + overlap) && filter_fits f
