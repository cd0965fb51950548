-- The pairs of a frame size n, by quarters of n of them: r quarters and a step within the next are 1,920 r parts of the circle and those of the step.
use mathlib.Core.Path.{◌≡◌, refl, ap, ◌∙◌, sym}
use mathlib.Core.Bool.{true}
use mathlib.Core.List.{List}
use Prim.Native.Nat.{ℕ, ◌+◌, ◌-◌, ◌*◌, ◌/◌, ◌%◌, ◌≤◌, ◌<◌}
use native.Mathlib.Omega.{arith}
use native.Mathlib.Nat.{mul-add, mul_assoc, mul_comm, mul_left_comm, mul-le-mul_left, mul-lt-mul_of_pos_left}
use lib.ListN.{length, get_or, set}
use lib.Ieee.{Float, nan, neg}
use borrow.Author.Tests.{eq-eqb}
use Rattle.loops.specs.Front.{front, tab, tab-none, tab-more, tab-all}
use Rattle.loops.specs.Part.{put}
use Rattle.loops.specs.Logic.{and_both}
use Rattle.mdct.proofs.Fronts.{run_put}
use Rattle.cosine_table.specs.Cosines.{cosines}
use Rattle.cosine_circle.specs.Circle.{cos_at, is_frame_size}
use Rattle.cosine_circle.proofs.Sizes.{Size, sized, per_least, whole}
use Rattle.cosine_circle.proofs.Circles.{known}
use Rattle.cosine_circle.proofs.Quadrants.{first, second, third, fourth}
use Rattle.cosine_pairs.specs.Pairs.{step_cos, pair_at, pairs_of, pairs_take}

-- the table, read at each of the four quarters
module _ (c : List Float) (j r : ℕ) (e : c ≡ cosines) (h : 0 < j) (g : j < 1920) where
  entry : (i k : ℕ) → i ≡ k → get_or c i nan ≡ get_or cosines k nan
  entry i k q = ap (λ z. get_or z i nan) e ∙ ap (λ z. get_or cosines z nan) q

  pub corner_first : r % 4 ≡ 0 → get_or c j nan ≡ cos_at ((1920 * r + j) % 7680)
  corner_first o =
      let q : (1920 * r + j) % 7680 ≡ j = omega arith in
      entry j _ (sym q) ∙ sym (first _ (omega arith))

  pub corner_second : r % 4 ≡ 1 → neg (get_or c (1920 - j) nan) ≡ cos_at ((1920 * r + j) % 7680)
  corner_second o =
      let q : (1920 * r + j) % 7680 ≡ 1920 + j = omega arith in
      ap neg (entry (1920 - j) (3840 - (1920 * r + j) % 7680) (omega arith)) ∙ sym (second _ (omega arith) (omega arith))

  pub corner_third : r % 4 ≡ 2 → neg (get_or c j nan) ≡ cos_at ((1920 * r + j) % 7680)
  corner_third o =
      let q : (1920 * r + j) % 7680 ≡ 3840 + j = omega arith in
      ap neg (entry j ((1920 * r + j) % 7680 - 3840) (omega arith)) ∙ sym (third _ (omega arith) (omega arith))

  pub corner_fourth : r % 4 ≡ 3 → get_or c (1920 - j) nan ≡ cos_at ((1920 * r + j) % 7680)
  corner_fourth o =
      let q : (1920 * r + j) % 7680 ≡ 5760 + j = omega arith in
      entry (1920 - j) (7680 - (1920 * r + j) % 7680) (omega arith) ∙ sym (fourth _ (omega arith))

-- an even place of the pairs, and the one behind it
pair-even : (n i j : ℕ) → j ≡ 2 * i → pair_at n j ≡ step_cos n i
unfolding pair_at
pair-even n i j e =
    let q : j / 2 ≡ i = omega arith in
    let m : j % 2 ≡ 0 = omega arith in
    let s : i + 0 * n ≡ i = omega arith in
    ap (λ z. step_cos n (z + j % 2 * n)) q ∙ ap (λ z. step_cos n (i + z * n)) m ∙ ap (step_cos n) s

pair-odd : (n i j : ℕ) → j ≡ 2 * i + 1 → pair_at n j ≡ step_cos n (i + n)
unfolding pair_at
pair-odd n i j e =
    let q : j / 2 ≡ i = omega arith in
    let m : j % 2 ≡ 1 = omega arith in
    let s : i + 1 * n ≡ i + n = omega arith in
    ap (λ z. step_cos n (z + j % 2 * n)) q ∙ ap (λ z. step_cos n (i + z * n)) m ∙ ap (step_cos n) s

-- the step's parts lie within a quarter
module _ (n p : ℕ) (z : Size n) where
  pub parts-most : p < n → 960 / n * (2 * p + 1) < 1920
  parts-most h =
      let m : 2 * p + 1 < 2 * n = omega arith in
      omega (arith, mul-lt-mul_of_pos_left m (per_least n z), mul_left_comm (960 / n) 2 n, mul_comm (960 / n) n, whole n z)

  pub parts-least : 0 < 960 / n * (2 * p + 1)
  parts-least = let m : 0 < 2 * p + 1 = omega arith in omega (arith, mul-lt-mul_of_pos_left m (per_least n z))

  pub step_is : (r : ℕ) → step_cos n (n * r + p) ≡ cos_at ((1920 * r + 960 / n * (2 * p + 1)) % 7680)
  unfolding step_cos
  step_is r =
      let s = 960 / n in
      let e : 2 * (n * r + p) + 1 ≡ 2 * (n * r) + (2 * p + 1) = omega arith in
      let w : s * (n * r) ≡ 960 * r = sym (mul_assoc s n r) ∙ ap (λ k. k * r) (mul_comm s n ∙ whole n z) in
      let q : s * (2 * (n * r + p) + 1) ≡ 1920 * r + s * (2 * p + 1) =
      ap (λ k. s * k) e ∙ mul-add s (2 * (n * r)) (2 * p + 1) ∙ ap (λ k. k + s * (2 * p + 1)) (mul_left_comm s 2 (n * r) ∙ omega (arith, w)) in
      ap (λ k. cos_at (k % 7680)) q

  module _ (r : ℕ) (v : Float) where
    pub pair_is : v ≡ cos_at ((1920 * r + 960 / n * (2 * p + 1)) % 7680) → v ≡ pair_at n (2 * (n * r) + 2 * p)
    pair_is e = e ∙ sym (step_is r) ∙ sym (pair-even n (n * r + p) _ (omega arith))

    pub pair-behind : v ≡ cos_at ((1920 * (r + 1) + 960 / n * (2 * p + 1)) % 7680) → v ≡ pair_at n (2 * (n * r) + (2 * p + 1))
    pair-behind e =
        let q : n * (r + 1) + p ≡ n * r + p + n = omega (arith, mul-add n r 1) in
        e ∙ sym (step_is (r + 1)) ∙ ap (step_cos n) q ∙ sym (pair-odd n (n * r + p) _ (omega arith))

-- the pairs of a circle and a half have room for those of quarter r
pub room : (n r : ℕ) → r < 6 → 2 * (n * r) + 2 * n ≤ 12 * n
room n r h = let m : r ≤ 5 = omega arith in omega (arith, mul-le-mul_left n m)

-- the numbers of a frame size n, and of quarter r and pair p
pub in_quarter : (n r : ℕ) → is_frame_size n ≡ true → r < 6 → (120 ≤ n) × (n ≤ 960) × (960 / n ≤ 8) × (2 * (n * r) + 2 * n ≤ 12 * n)
in_quarter n r f h = let k = known n f in (k.0, k.1, k.2, room n r h)

pub in_step : (n p : ℕ) → is_frame_size n ≡ true → p < n → (0 < 960 / n * (2 * p + 1)) × (960 / n * (2 * p + 1) < 1920)
in_step n p f h = let z = sized n f in (parts-least n p z, parts-most n p z h)

-- the first p pairs of quarter r, and one pair more
abbrev pub quarter_to : ℕ → ℕ → List Float → ℕ → List Float
quarter_to n r was p = front (tab (λ (j : ℕ). pair_at n (2 * (n * r) + j)) (2 * p)) was (2 * p)

pub quarter-more : (n r p : ℕ) (was b : List Float) (v w : Float) → Size n → p < n → length was ≡ 2 * n → b ≡ quarter_to n r was p
    → v ≡ cos_at ((1920 * r + 960 / n * (2 * p + 1)) % 7680) → w ≡ cos_at ((1920 * (r + 1) + 960 / n * (2 * p + 1)) % 7680)
    → set (set b (2 * p) v) (2 * p + 1) w ≡ quarter_to n r was (p + 1)
quarter-more n r p was b v w z g l e f i =
    let at : ℕ → Float = λ (j : ℕ). pair_at n (2 * (n * r) + j) in
    let t : 2 * p + 1 + 1 ≡ 2 * (p + 1) = omega arith in
    tab-more at nan was _ (2 * p + 1) (tab-more at nan was b (2 * p) e v (pair_is n p z r v f) (omega arith))
    w (pair-behind n p z r w i) (omega arith)
    ∙ ap (λ y. front (tab at y) was y) t

-- the pairs of the first r quarters, and a quarter more
abbrev pub quarters_to : ℕ → List Float → ℕ → List Float
quarters_to n was r = front (tab (pair_at n) (2 * (n * r))) was (2 * (n * r))

pub quarters_none : (n : ℕ) (was : List Float) → was ≡ quarters_to n was 0
quarters_none n was = let q : 0 ≡ 2 * (n * 0) = omega arith in tab-none (pair_at n) was ∙ ap (λ y. front (tab (pair_at n) y) was y) q

pub quarters_more : (n r k : ℕ) (was b d : List Float) → b ≡ quarters_to n was r
    → d ≡ tab (λ (j : ℕ). pair_at n (2 * (n * r) + j)) (2 * n) → k ≡ 2 * n → put (2 * (n * r)) k d b ≡ quarters_to n was (r + 1)
quarters_more n r k was b d e f q =
    run_put (pair_at n) _ was b d (2 * (n * r)) (2 * n) k (2 * (n * (r + 1))) e f (λ j h. refl) q (omega (arith, mul-add n r 1))

pub quarters_all : (n r : ℕ) (was b : List Float) → length was ≡ 12 * n → b ≡ quarters_to n was r → r ≡ 6 → b ≡ pairs_of n
unfolding pairs_of
quarters_all n r was b l e q =
    let m : 2 * (n * r) ≡ 12 * n = ap (λ y. 2 * (n * y)) q ∙ omega arith in
    tab-all (pair_at n) nan was b (12 * n) (e ∙ ap (λ y. front (tab (pair_at n) y) was y) m) l ∙ ap (tab (pair_at n)) l

-- what fill_pairs takes
pub takes-frame : (n m : ℕ) → is_frame_size n ≡ true → m ≡ 12 * n → pairs_take n m ≡ true
unfolding pairs_take
takes-frame n m e h = and_both _ _ e (eq-eqb m (12 * n) h)

-- and quarter r has room in it
pub in_room : (n m r : ℕ) → m ≡ 12 * n → r < 6 → 2 * (n * r) + 2 * n ≤ m
in_room n m r e h = omega (arith, room n r h)
