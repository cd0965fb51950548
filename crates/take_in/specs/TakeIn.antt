-- A frame taken in at the newest end of one channel's tail.
use Rattle.std.specs.Prelude.{ℕ, ◌+◌, Bool, ◌&&◌, List, take, eqb, leb, Float}
use Rattle.std.proofs.Math.Seq.{slice}
use Rattle.history.specs.History.{half, overlap, Tail}
use Rattle.celt_window.specs.Window.{window}
use Rattle.post_filter.specs.declared.Filter.{Filter}
use Rattle.post_filter.specs.Limits.{filter_fits}
use Rattle.prefilter.specs.Prefilter.{pre_filtered}
use Rattle.roll.specs.Roll.{rolled}
use Rattle.fold.specs.Fold.{folded}

abbrev pub longest_frame : ℕ
longest_frame = 960

-- what is extrapolated beyond a frame: twice the overlap
abbrev pub extra : ℕ
extra = 240

-- a tail after the first n samples of e came in: the next 120 are folded into the overlap, and that is pre-filtered
unfoldable pub tail_after : ℕ → List Float → Filter → Tail → Tail
tail_after n e f t =
    let new = rolled (take n e) t.new in
    record { new = new; over = pre_filtered f new (folded window (slice n (n + overlap) e)) }

-- how many samples, which frame, of how many, and which filter are taken
unfoldable pub tail_takes : ℕ → ℕ → ℕ → Filter → Bool
tail_takes size n m f = eqb size (half + overlap) && (leb n longest_frame && (eqb m (n + extra) && filter_fits f))
