-- The lag of a history, from the 2,048 samples of each used channel.
use Rattle.std.specs.Prelude.{ℕ, ◌+◌, ◌-◌, Bool, cond, List, Float}
use Rattle.std.proofs.Math.Seq.{slice}
use Rattle.history.specs.History.{samples, channel}
use Rattle.plc_search.specs.Search.{pitch_search}
use Rattle.plc_downsample.specs.Downsample.{pitch_downsample, pitch_downsample_pair}

abbrev pub longest_lag : ℕ
longest_lag = 720

-- what the search reads, of two channels or one
unfoldable pub low_passed : Bool → List Float → List Float
low_passed two h = cond two (pitch_downsample_pair (slice 0 samples h) (slice channel (channel + samples) h)) (pitch_downsample (slice 0 samples h))

unfoldable pub lag_of : Bool → List Float → ℕ
lag_of two h = longest_lag - pitch_search (low_passed two h)
