-- What one input adds to one output, read off the circle.
use mathlib.Core.Path.{◌≡◌, ap, ◌∙◌}
use mathlib.Core.List.{List}
use Prim.Native.Nat.{ℕ, ◌+◌, ◌*◌, ◌/◌, ◌<◌}
use native.Mathlib.Omega.{arith}
use lib.ListN.{get_or}
use lib.Ieee.{Float, nan, binary64, mul}
use Rattle.mdct.specs.Imdct.{imdct_term}
use Rattle.cosine_circle.specs.Circle.{cos_at, IsCircle}
use Rattle.cosine_circle.proofs.Sizes.{Size, at_least}
use Rattle.mdct.proofs.Angles.{place, place-less, on_circle}

pub term_is : (n : ℕ) (circle xs : List Float) (t k i : ℕ) (v : Float) → Size n → IsCircle n circle → v ≡ get_or xs k nan → i ≡ place n t k
    → mul binary64 v (get_or circle i nan) ≡ imdct_term n xs t k
unfolding imdct_term
term_is n circle xs t k i v z r e f =
    let l : i < 4 * n = omega (arith, place-less n t k (omega (arith, at_least n z))) in
    ap (λ y. mul binary64 y (get_or circle i nan)) e
    ∙ ap (mul binary64 (get_or xs k nan)) (r.entry i l ∙ ap (λ y. cos_at (960 / n * (2 * y + 1))) f ∙ ap cos_at (on_circle n t k z))
