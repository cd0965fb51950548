-- The pitch step of one channel as the Rust has it: with the forward `comb_filter` over the old overlap, ahead of the roll.
use Rattle.std.specs.Prelude.{Bool, cond, List, ℕ, ◌+◌, ◌-◌, get_or, set, take, Float}
use Rattle.std.proofs.Math.Seq.{slice}
use Rattle.std.specs.Float.{nan, binary32}
use Rattle.std.specs.Float.Ieee.{add, mul}
use Rattle.loops.specs.Fold.{fold_to}
use Rattle.loops.specs.Part.{put}
use Rattle.celt_window.specs.Window.{window}
use Rattle.history.specs.History.{half, overlap, Tail, tail_list, tail_of}
use Rattle.comb_filter.specs.Comb.{pair_at}
use Rattle.prefilter.specs.Prefilter.{skips, pre_filtered_end}
use Rattle.post_filter.specs.Gains.{comb_gains}
use Rattle.post_filter.specs.declared.Filter.{Filter}
use Rattle.roll.specs.Roll.{moved_back}
use Rattle.fold.specs.Fold.{folded}
use Rattle.extrapolate.specs.Extrapolate.{extrapolated}
use Rattle.take_in.specs.TakeIn.{extra}

-- y[i] += g0 × y[a] + g1 × (y[a - 1] + y[a + 1]) + g2 × (y[a - 2] + y[a + 2]), one period t back, in place:
-- later samples read filtered ones
unfoldable pub comb_turn : ℕ → Float → Float → Float → List Float → ℕ → List Float
comb_turn t g0 g1 g2 y j =
    let i = half + j in
    let a = i - t in
    set y i
    (add binary32 (get_or y i nan)
    (add binary32 (add binary32 (mul binary32 g0 (get_or y a nan)) (mul binary32 g1 (pair_at y a 1))) (mul binary32 g2 (pair_at y a 2))))

-- `comb_filter` of the overlap behind the newest 1,024, both settings the same
unfoldable pub comb_filter : ℕ → Float → Float → Float → List Float → List Float
comb_filter t g0 g1 g2 x = fold_to (comb_turn t g0 g1 g2) x overlap

-- a tap: the gain times the tapset's factor k
unfoldable pub forward_gain : Filter → ℕ → Float
forward_gain f k = mul binary32 f.gain (get_or (comb_gains f.tapset) k nan)

unfoldable pub post_filtered : Filter → List Float → List Float
post_filtered f x =
    cond (skips f.gain) x (comb_filter f.period (forward_gain f 0) (forward_gain f 1) (forward_gain f 2) x)

-- the steps after the synthesis e, in the Rust's order:
-- the forward filter, the roll with the overlap in it, the fold, the frame, the pre-filter
unfoldable pub framed : ℕ → List Float → List Float → Filter → List Float
framed n e x f =
    let rolled = moved_back n (post_filtered f x) in
    let blended = put half overlap (folded window (slice n (n + overlap) e)) rolled in
    pre_filtered_end f (put (half - n) n (take n e) blended)

unfoldable pub forward_tail : ℕ → Tail → ℕ → Bool → List Float → Filter → Tail
forward_tail n t lag first c f = tail_of (framed n (extrapolated (n + extra) t.new lag first c) (tail_list t) f)
