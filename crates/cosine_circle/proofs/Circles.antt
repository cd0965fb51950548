-- The circle of a frame size, what it has at each of its places, and the circle of any other size.
use mathlib.Core.Path.{◌≡◌, ap, ◌∙◌, sym}
use mathlib.Core.Bool.{true, false}
use mathlib.Core.List.{List, ◌++◌}
use Prim.Native.Nat.{ℕ, ◌+◌, ◌*◌, ◌/◌, ◌≤◌, ◌<◌}
use native.Mathlib.Omega.{arith}
use lib.ListN.{get_or, length, take, drop, get_or-append}
use lib.Seq.{length-take-le}
use lib.Ieee.{Float, nan}
use Rattle.loops.specs.Front.{front, tab, length-tab, get_or-tab}
use Rattle.loops.specs.Pick.{pick_true, pick-false}
use Rattle.cosine_circle.proofs.Sizes.{sized, at_least, at_most, per_most, parts-most}
use Rattle.cosine_circle.specs.Circle.{cos_at, is_frame_size, no_cosines, circle_of, IsCircle}

pub circle_none : (n : ℕ) → is_frame_size n ≡ false → no_cosines ≡ circle_of n
unfolding circle_of
circle_none n e = sym (pick-false (is_frame_size n) _ no_cosines e)

-- the part of 3,840 places that a frame size's circle takes
pub part_size : (n : ℕ) → is_frame_size n ≡ true → length (take (4 * n) no_cosines) ≡ 4 * n
part_size n e = length-take-le (4 * n) no_cosines (omega (arith, at_most n (sized n e)))

pub circle_some : (n : ℕ) (part : List Float) → is_frame_size n ≡ true
    → part ≡ tab (λ (i : ℕ). cos_at (960 / n * (2 * i + 1))) (4 * n) → part ++ drop (4 * n) no_cosines ≡ circle_of n
unfolding circle_of front
circle_some n part e h =
    let f : ℕ → Float = λ (i : ℕ). cos_at (960 / n * (2 * i + 1)) in
    ap (λ z. z ++ drop (4 * n) no_cosines) h ∙ sym (pick_true (is_frame_size n) (front (tab f (4 * n)) no_cosines (4 * n)) no_cosines e)

pub circle_is : (n : ℕ) → is_frame_size n ≡ true → IsCircle n (circle_of n)
unfolding circle_of front
circle_is n e = record {
  entry = λ i h.
      let f : ℕ → Float = λ (i : ℕ). cos_at (960 / n * (2 * i + 1)) in
      ap (λ z. get_or z i nan) (pick_true (is_frame_size n) (front (tab f (4 * n)) no_cosines (4 * n)) no_cosines e)
      ∙ get_or-append (tab f (4 * n)) (drop (4 * n) no_cosines) nan i (omega (arith, length-tab f (4 * n)))
      ∙ get_or-tab f (4 * n) i nan h;
}

-- the numbers of a frame size n
pub known : (n : ℕ) → is_frame_size n ≡ true → (120 ≤ n) × (n ≤ 960) × (960 / n ≤ 8)
known n f = let z = sized n f in (at_least _ z, at_most _ z, per_most _ z)

-- and of its place i
pub place_known : (n i : ℕ) → is_frame_size n ≡ true → i < 4 * n → (n ≤ 960) × (960 / n * (2 * i + 1) ≤ 7680)
place_known n i f h = let z = sized n f in (at_most _ z, parts-most _ z i h)
