-- Document 01's numbers, and how checks are joined.
use Rattle.std.specs.Prelude.{Bool, ◌&&◌, ℕ, zero, suc, leb, Result, Ok, Err}
use Rattle.settings.specs.declared.Refusal.{Refusal}
use Rattle.settings.specs.declared.Refusal.TheVariants.{BadLm, BadChannels, BadStart, BadEnd, BadDownsample, CountFull, BadLag, BadFilter, BadHistory, ShortPcm}

abbrev pub number_of : Refusal → ℕ
number_of BadLm = 1
number_of BadChannels = 2
number_of BadStart = 3
number_of BadEnd = 4
number_of BadDownsample = 5
number_of CountFull = 6
number_of BadLag = 7
number_of BadFilter = 8
number_of BadHistory = 9
number_of ShortPcm = 10

-- 0 is acceptance
abbrev pub number_in : {A : Type 0} → Result A Refusal → ℕ
number_in (Ok x) = 0
number_in (Err e) = number_of e

-- the first number, or the second where the first is 0
unfoldable pub or_else : ℕ → ℕ → ℕ
or_else zero m = m
or_else (suc n) m = suc n

abbrev pub within : ℕ → ℕ → ℕ → Bool
within lo hi x = leb lo x && leb x hi
