-- A pitch loss, from the tails alone: the frame, the overlap, and each used channel's tail after them.
use Rattle.std.specs.Prelude.{ℕ, ◌+◌, Bool, cond, ◌&&◌, List, take, drop, eqb, leb, Float}
use Rattle.history.specs.History.{whole, Tail, Tails}
use Rattle.post_filter.specs.declared.Filter.{Filter}
use Rattle.post_filter.specs.Limits.{filter_fits}
use Rattle.settings.specs.declared.Settings.{Settings}
use Rattle.settings.specs.Settings.{check_settings}
use Rattle.state.specs.Refusal.{lag_least, lag_most}
use Rattle.extrapolate.specs.Extrapolate.{order, extrapolated}
use Rattle.take_in.specs.TakeIn.{extra, tail_after}

-- the pitch step of one channel: a frame of n, the tail, the lag, whether it is the first loss, 24 coefficients, the filter
unfoldable pub pitch_tail : ℕ → Tail → ℕ → Bool → List Float → Filter → Tail
pitch_tail n t lag first c f = tail_after n (extrapolated (n + extra) t.new lag first c) f t

-- each used channel, of two or one, by its 24 of 48 coefficients
unfoldable pub pitch_tails : Bool → ℕ → ℕ → Bool → List Float → Filter → Tails → Tails
pitch_tails two n lag first c f t =
    record { first = pitch_tail n t.first lag first (take order c) f; second = cond two (pitch_tail n t.second lag first (drop order c) f) t.second }

-- which settings, history, lag and filter are taken
unfoldable pub pitch_takes : Settings → ℕ → ℕ → Filter → Bool
pitch_takes k size lag f = eqb (check_settings k) 0 && (eqb size whole && (leb lag_least lag && (leb lag lag_most && filter_fits f)))
