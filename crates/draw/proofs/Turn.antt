-- One turn of the loop that draws a band.
use Rattle.std.proofs.Common.{◌≡◌, ℕ, ◌+◌, ◌<◌, List, length, set, sym, ap, ◌∙◌}
use lib.Ieee.{Float, nan}
use Rattle.loops.specs.Front.{front, tab, tab-more}
use Rattle.float_bits.specs.Words.{noise_value}
use Rattle.draw.specs.Draw.{draw, draws}
use Rattle.draw.proofs.Draws.{draws-more}
use Rattle.draw.specs.Noise.{noise_at}

pub seed_more : (seed s r i : ℕ) → s ≡ draws i seed → r ≡ draw s → r ≡ draws (i + 1) seed
seed_more seed s r i e f = f ∙ ap draw e ∙ sym (draws-more i seed)

pub noise_more : (seed s i : ℕ) (xs b : List Float) (v : Float) → s ≡ draws (i + 1) seed → v ≡ noise_value s
    → b ≡ front (tab (noise_at seed) i) xs i → i < length xs
    → set b i v ≡ front (tab (noise_at seed) (i + 1)) xs (i + 1)
noise_more seed s i xs b v e f h l = tab-more (noise_at seed) nan xs b i h v (f ∙ ap noise_value e) l
