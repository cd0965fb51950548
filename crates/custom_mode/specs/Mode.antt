-- The standard mode: its numbers and tables, stated here and nowhere else. What stands past a table's end is said with each.
use Rattle.std.specs.Prelude.{List, [], ◌∷◌, ℕ, get_or, Float}
use Rattle.std.specs.Float.Ieee.{of_bits}
use Rattle.std.specs.Float.{binary32}

-- the samples of the shortest block
abbrev pub short_block : ℕ
short_block = 120

-- the samples in which a block and the next one overlap
abbrev pub overlap : ℕ
overlap = 120

abbrev pub bands : ℕ
bands = 21

-- the energies of a channel: more than it has bands
abbrev pub max_bands : ℕ
max_bands = 25

-- where the last band ends
abbrev pub last_edge : ℕ
last_edge = 100

-- the band edges, in bins of the shortest block; past the last the last
unfoldable pub edges : List ℕ
edges = 0 ∷ 1 ∷ 2 ∷ 3 ∷ 4 ∷ 5 ∷ 6 ∷ 7 ∷ 8 ∷ 10 ∷ 12 ∷ 14 ∷ 16 ∷ 20 ∷ 24 ∷ 28 ∷ 34 ∷ 40 ∷ 48 ∷ 60 ∷ 78 ∷ 100 ∷ []

unfoldable pub edge : ℕ → ℕ
edge i = get_or edges i last_edge

abbrev f32 : ℕ → Float
f32 b = of_bits binary32 b

-- the mean energy of each band; past the last +0
unfoldable pub means : List Float
means =
    f32 0x40ce_0000 ∷ f32 0x40c8_0000 ∷ f32 0x40b8_0000 ∷ f32 0x40aa_0000 ∷ f32 0x40a2_0000
    ∷ f32 0x409a_0000 ∷ f32 0x4090_0000 ∷ f32 0x408c_0000 ∷ f32 0x409c_0000 ∷ f32 0x4096_0000
    ∷ f32 0x4092_0000 ∷ f32 0x408e_0000 ∷ f32 0x409c_0000 ∷ f32 0x4094_0000 ∷ f32 0x408a_0000
    ∷ f32 0x4090_0000 ∷ f32 0x408c_0000 ∷ f32 0x4094_0000 ∷ f32 0x4098_0000 ∷ f32 0x408e_0000
    ∷ f32 0x4070_0000 ∷ f32 0x4070_0000 ∷ f32 0x4070_0000 ∷ f32 0x4070_0000 ∷ f32 0x4070_0000 ∷ []

unfoldable pub mean : ℕ → Float
mean i = get_or means i (f32 0)

-- the de-emphasis coefficients: 0.8500061, 0, 1, 1
unfoldable pub preemph : List Float
preemph = f32 0x3f59_9a00 ∷ f32 0 ∷ f32 0x3f80_0000 ∷ f32 0x3f80_0000 ∷ []
