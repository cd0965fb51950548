-- The states and buffers that are refused: document 01's numbers in their order, each a check of its own. 0 passes.
use Rattle.std.specs.Prelude.{◌≡◌, cond, not, ◌&&◌, List, ℕ, length, leb, eqb, Float}
use Rattle.history.specs.History.{whole}
use Rattle.post_filter.specs.Limits.{filter_fits}
use Rattle.post_filter.specs.declared.Filter.{Filter}
use Rattle.settings.specs.Number.{or_else, within}
use Rattle.settings.specs.Settings.{check_settings, needed}
use Rattle.state.specs.declared.State.{State}

-- the shortest lag and the longest
abbrev pub lag_least : ℕ
lag_least = 102

abbrev pub lag_most : ℕ
lag_most = 720

abbrev pub check_count : ℕ → ℕ
check_count c = cond (not (eqb c 4_294_967_295)) 0 6

-- a carried lag is read where start is 0 and the loss count 1 to 4
abbrev pub check_lag : ℕ → ℕ → ℕ → ℕ
check_lag start c lag = cond (eqb start 0 && within 1 4 c) (cond (within lag_least lag_most lag) 0 7) 0

abbrev pub check_filter : Filter → ℕ
check_filter f = cond (filter_fits f) 0 8

abbrev pub check_history : ℕ → ℕ
check_history n = cond (eqb n whole) 0 9

-- of the samples needed and those lent
abbrev pub check_pcm : ℕ → ℕ → ℕ
check_pcm needs p = cond (leb needs p) 0 10

-- 1 to 9: of a state and its history's length
unfoldable pub refuses_state : State → ℕ → ℕ
refuses_state s n =
    or_else (check_settings s.settings)
    (or_else (check_count s.loss_count)
    (or_else (check_lag s.settings.start s.loss_count s.lag)
    (or_else (check_filter s.filter) (check_history n))))

-- 1 to 10, 0 for none: of a state, its history's length and a PCM buffer's length
unfoldable pub refusal : State → ℕ → ℕ → ℕ
refusal s n p = or_else (refuses_state s n) (check_pcm (needed s.settings) p)

-- with its history it gets none of 1 to 9
abbrev pub AcceptedState : State → List Float → Type 0
AcceptedState s h = refuses_state s (length h) ≡ 0
