-- What the loop over the bands rests on.
use mathlib.Core.Path.{◌≡◌, ap, ap₂, ◌∙◌, sym}
use mathlib.Core.List.{List, ◌++◌}
use Prim.Native.Nat.{ℕ, ◌+◌, ◌≤◌}
use lib.ListN.{take, drop}
use lib.Ieee.{Float}
use Rattle.loops.specs.Fold.{fold_range, range-more}
use Rattle.draw.specs.Draw.{draws}
use Rattle.noise_shape.specs.Shape.{lo, width, band_noise, Shape, noise_turn}

-- one more band of noise: y came back for the part of k bins from a on
pub noise_more : (m start i k a len s s' : ℕ) (z : Shape) (bins y : List Float)
    → fold_range (noise_turn m) z start i ≡ record { bins = bins; seed = s } → start ≤ i → a ≡ lo m i → k ≡ width m i → len ≡ k
    → y ≡ band_noise len s → s' ≡ draws len s
    → fold_range (noise_turn m) z start (i + 1) ≡ record { bins = take a bins ++ (y ++ drop k (drop a bins)); seed = s' }
unfolding noise_turn
noise_more m start i k a len s s' z bins y e h ea ek el ey es =
    let w : len ≡ width m i = el ∙ ek in
    sym (range-more (noise_turn m) z (record { bins = bins; seed = s }) start i (sym e) h)
    ∙ ap₂ (λ (b : List Float) (r : ℕ). record { bins = b; seed = r })
    (ap₂ (λ p q. take p bins ++ (band_noise (width m i) s ++ drop q (drop p bins))) (sym ea) (sym ek)
    ∙ ap (λ v. take a bins ++ (v ++ drop k (drop a bins))) (sym (ey ∙ ap (λ n. band_noise n s) w)))
    (sym (es ∙ ap (λ n. draws n s) w))
