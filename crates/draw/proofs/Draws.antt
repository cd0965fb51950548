-- Draws one after the other.
use Rattle.std.specs.Prelude.{◌≡◌, ℕ, zero, suc, ◌+◌}
use Rattle.std.proofs.Common.{ap, ◌∙◌, suc-add, zero-add}
use Rattle.draw.specs.Draw.{draw, draws}

-- a draws and then b are a + b draws
pub draws-add : (a b s : ℕ) → draws (a + b) s ≡ draws b (draws a s)
unfolding draws
draws-add zero b s = ap (λ n. draws n s) (zero-add b)
draws-add (suc a) b s = ap (λ n. draws n s) (suc-add a b) ∙ draws-add a b (draw s)

-- one more draw, after d and before d
pub draws-more : (d s : ℕ) → draws (d + 1) s ≡ draw (draws d s)
unfolding draws
draws-more d s = draws-add d 1 s
