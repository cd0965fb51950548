-- A history of 4,336 samples: of each channel 2,048, oldest first, and then 120 of overlap.
use Rattle.std.specs.Prelude.{Bool, true, false, List, [], ◌∷◌, ◌++◌, ℕ, ◌+◌, ◌-◌, take, drop, Float}
use Rattle.std.proofs.Math.Seq.{slice}
pub use Rattle.custom_mode.specs.Mode.{overlap}

-- the newest samples of a channel that a loss may change
abbrev pub half : ℕ
half = 1024

-- a channel's samples without its overlap
abbrev pub samples : ℕ
samples = 2048

-- a channel with its overlap; channel 1 starts here
abbrev pub channel : ℕ
channel = 2168

-- both channels
abbrev pub whole : ℕ
whole = 4336

-- a channel's newest 1,024 samples and its overlap
pub record Tail : Type 0 where
  pub new : List Float
  pub over : List Float

-- all of a history but each channel's oldest 1,024
pub record Tails : Type 0 where
  pub first : Tail
  pub second : Tail

-- the tail of the channel whose samples start at `at`
unfoldable pub tail_at : ℕ → List Float → Tail
tail_at at h = record { new = slice (at + half) (at + samples) h; over = slice (at + samples) (at + channel) h }

unfoldable pub tails : List Float → Tails
tails h = record { first = tail_at 0 h; second = tail_at channel h }

-- each channel's oldest 1,024 samples
unfoldable pub oldest : List Float → List (List Float)
oldest h = take half h ∷ slice channel (channel + half) h ∷ []

-- the oldest 1,024 of each channel kept, and the rest replaced
unfoldable pub with_tails : List Float → Tails → List Float
with_tails h t = take half h ++ (t.first.new ++ (t.first.over ++ (slice channel (channel + half) h ++ (t.second.new ++ t.second.over))))

-- a tail as the 1,144 samples that it is, and back
unfoldable pub tail_list : Tail → List Float
tail_list t = t.new ++ t.over

unfoldable pub tail_of : List Float → Tail
tail_of x = record { new = take half x; over = drop half x }

-- channel 0's, and channel 1's where two are used
abbrev pub both : {A : Type 0} → Bool → A → A → List A
both true a b = a ∷ b ∷ []
both false a b = a ∷ []

-- the newest n samples of each used channel, of two or one
unfoldable pub newest : Bool → ℕ → List Float → List (List Float)
newest two n h = both two (slice (samples - n) samples h) (slice (channel + samples - n) (channel + samples) h)
