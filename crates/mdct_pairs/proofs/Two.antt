-- A turn of `lanes::four`: with two inputs every lane goes two steps on and is taken back into the circle, and each sum gets two terms more.
use mathlib.Core.Path.{◌≡◌, refl, ap, ◌∙◌, sym}
use mathlib.Core.Bool.{true, cond}
use mathlib.Core.Logic.{inl, inr}
use mathlib.Core.List.{List, [], ◌∷◌}
use Prim.Native.Nat.{ℕ, zero, suc, ◌+◌, ◌≤◌, ◌<◌, ◌*◌, ◌/◌, ◌%◌, ◌-◌}
use native.Mathlib.Omega.{arith}
use lib.Dec.{ltb}
use Rattle.std.proofs.Common.{lt-ltb, le-ltb}
use Rattle.std.proofs.Math.Nat.{mod-eq_of_lt, mod-eq-sub-mod}
use Rattle.std.proofs.lemmas.Bool.{cases_lt}
use lib.ListN.{length, get_or}
use lib.Ieee.{Float, nan, binary64, add, mul}
use Rattle.loops.specs.Front.{tab, tab-same, length-tab}
use Rattle.cosine_circle.specs.Circle.{is_frame_size}
use Rattle.cosine_circle.proofs.Sizes.{Size, sized, few}
use Rattle.mdct.specs.Imdct.{imdct_sum}
use Rattle.cosine_pairs.specs.Pairs.{pairs_of}
use Rattle.mdct_pairs.specs.Inputs.{inputs_of}
use Rattle.mdct_pairs.specs.declared.lanes.Tables.{Tables}
use Rattle.mdct.proofs.Lanes.{places}
use Rattle.mdct_pairs.proofs.PairLanes.{sums, on-table, before, moved, turned, sums-more}
use Rattle.mdct_pairs.proofs.PairLanes.{step_of, first_on, second-on, third-on, first-in, second-in, first_small, second-small, third-small}

-- ---- lengths of what is lent

pub inputs-count : (xs inputs : List Float) → inputs ≡ inputs_of xs → length inputs ≡ 2 * length xs
unfolding inputs_of
inputs-count xs inputs e = ap length e ∙ length-tab _ _

pairs-count : (n : ℕ) (pairs : List Float) → pairs ≡ pairs_of n → length pairs ≡ 12 * n
unfolding pairs_of
pairs-count n pairs e = ap length e ∙ length-tab _ _

two-more : (h n : ℕ) → h < n / 2 → 2 * h + 2 ≤ n
two-more h n g = omega arith

pub short-step : (t n : ℕ) → n ≤ 960 → 2 * t + 8 ≤ n → 2 * (2 * t + 1 + n) < 8000
short-step t n h g = omega arith

-- the next sum e, and the next four pairs of sums, from two inputs
abbrev pub term_of : List Float → List Float → List ℕ → List Float → ℕ → Float
term_of pairs two at acc e =
    add binary64 (get_or acc e nan) (mul binary64 (get_or two (e % 2) nan) (get_or pairs (get_or at (e / 2) 0 + e % 2) nan))

abbrev pub termed : List Float → List Float → List ℕ → List Float → List Float
termed pairs two at acc = tab (term_of pairs two at acc) 8

-- two of the inputs, from the one numbered i on
abbrev Two : List Float → ℕ → List Float → Type 0
Two inputs i two = (j : ℕ) → j < 2 → get_or two j nan ≡ get_or inputs (i + j) nan

terms : (pairs inputs two : List Float) (i : ℕ) (at : List ℕ) (acc : List Float) → Two inputs i two
    → termed pairs two at acc
    ≡ tab (λ (e : ℕ). add binary64 (get_or acc e nan)
    (mul binary64 (get_or inputs (i + e % 2) nan) (get_or pairs (get_or at (e / 2) 0 + e % 2) nan))) 8
terms pairs inputs two i at acc t =
    tab-same _ _ 8
    (λ e h. ap (λ y. add binary64 (get_or acc e nan) (mul binary64 y (get_or pairs (get_or at (e / 2) 0 + e % 2) nan))) (t (e % 2) (omega arith)))

pub two-of : (inputs : List Float) (h s : ℕ) (a b : Float) → a ≡ get_or inputs (4 * h + s) nan → b ≡ get_or inputs (4 * h + (s + 1)) nan
    → Two inputs (4 * h + s) (a ∷ b ∷ [])
two-of inputs h s a b p q zero l = let e : 4 * h + s ≡ 4 * h + s + 0 = omega arith in p ∙ ap (λ z. get_or inputs z nan) e
two-of inputs h s a b p q (suc zero) l = let e : 4 * h + (s + 1) ≡ 4 * h + s + 1 = omega arith in q ∙ ap (λ z. get_or inputs z nan) e
two-of inputs h s a b p q (suc (suc j)) l = let z : ⊥ = omega arith in absurd z

-- sum j of the frame
abbrev pub pair_sum : ℕ → List Float → ℕ → Float
pair_sum n x j = imdct_sum n x (j / 2 + j % 2 * n)

-- a place back in a circle of w places
abbrev pub wrap : ℕ → ℕ → ℕ
wrap w i = cond (ltb i w) i (i - w)

wrap-is : (w i : ℕ) → i < 2 * w → wrap w i ≡ i % w
wrap-is w i h = elim (cases_lt i w) [
  | inl l ↦ ap (λ z. cond z i (i - w)) (lt-ltb i w l) ∙ sym (mod-eq_of_lt l)
  | inr l ↦ ap (λ z. cond z i (i - w)) (le-ltb i w l) ∙ sym (mod-eq-sub-mod l ∙ mod-eq_of_lt (omega arith))
]

-- the places a step on
abbrev pub stepped : ℕ → List ℕ → List ℕ
stepped s at = tab (λ (j : ℕ). get_or at j 0 + (s + 4 * j)) 4

-- ---- where turn h begins

pub record Turn (xs pairs inputs : List Float) (t h : ℕ) (at : List ℕ) (acc : List Float) : Type 0 where
  pub frame : is_frame_size (length xs) ≡ true
  pub tables : (pairs ≡ pairs_of (length xs)) × (inputs ≡ inputs_of xs)
  pub room : 2 * t + 8 ≤ length xs
  pub more : h < length xs / 2
  pub at_is : at ≡ tab (λ (j : ℕ). 2 * places (length xs) t (2 * h) j) 4
  pub acc_is : acc ≡ tab (sums (length xs) xs t (2 * h)) 8

pub turn : (s : Tables) {t h : ℕ} {at : List ℕ} {acc : List Float} → 2 * t + 8 ≤ length s.x.now → h < length s.x.now / 2
    → at ≡ tab (λ (j : ℕ). 2 * places (length s.x.now) t (2 * h) j) 4 → acc ≡ tab (sums (length s.x.now) s.x.now t (2 * h)) 8
    → Turn s.x.now s.pairs.now s.inputs.now t h at acc
turn s r m a e = record { frame = s.frame; tables = (s.pairs_value, s.inputs_value); room = r; more = m; at_is = a; acc_is = e }

-- of as many fours as there are
pub more-left : (s : Tables) {h : ℕ} (k : ℕ) → k ≡ length s.inputs.now / 4 → h < k → h < length s.x.now / 2
more-left s k e g = let i = inputs-count s.x.now s.inputs.now s.inputs_value in omega arith

module _ {xs pairs inputs : List Float} {t h : ℕ} {at : List ℕ} {acc : List Float} (w : Turn xs pairs inputs t h at acc) where
  abbrev n : ℕ
  n = length xs

  size : Size n
  size = sized _ w.frame

  left : 2 * h + 2 ≤ n
  left = two-more h n w.more

  next : 2 * h < n
  next = omega (arith, left)

  next-2 : 2 * h + 1 < n
  next-2 = omega (arith, left)

  pub pairs-in : length pairs ≤ 11520
  pairs-in = omega (arith, pairs-count n pairs w.tables.0, few n w.frame)

  in_pairs : (b : List ℕ) → ((j : ℕ) → j < 4 → get_or b j 0 + 2 ≤ 12 * n) → (j : ℕ) → j < 4 → get_or b j 0 + 2 ≤ length pairs
  in_pairs b g j i = omega (arith, pairs-count n pairs w.tables.0, g j i)

  pub reads : (j : ℕ) → j < 4 → get_or at j 0 + 2 ≤ length pairs
  reads = in_pairs at (on-table n t size w.room (2 * h) _ _ w.at_is (first-in n t size w.room (2 * h)))

  pub small : (j : ℕ) → j < 4 → get_or at j 0 < 16000
  small = before n t size w.room (2 * h) _ _ w.at_is 16000 (first_small n t size w.room (2 * h))

  -- after the first input
  module _ (to two : List Float) (v : Two inputs (4 * h + 0) two) (d : to ≡ termed pairs two at acc) where
    sums-1 : to ≡ tab (sums n xs t (2 * h + 1)) 8
    sums-1 =
        sums-more n t size w.room (2 * h) _ _ w.at_is xs refl next (first-in n t size w.room (2 * h)) (first_on n t size w.room (2 * h))
        (4 * h + 0) _ _ _ _ (omega arith) w.tables.1 w.tables.0 w.acc_is (d ∙ terms _ _ _ _ _ _ v)

  -- after the first step
  module _ (b : List ℕ) (s : ℕ) (e : s ≡ 2 * (2 * t + 1 + n)) (g : b ≡ stepped s at) where
    lanes-1 : b ≡ tab (λ (j : ℕ). 2 * (places n t (2 * h) j + step_of n t j)) 4
    lanes-1 = moved n t size w.room (2 * h) _ _ w.at_is s e _ g

    pub reads-1 : (j : ℕ) → j < 4 → get_or b j 0 + 2 ≤ length pairs
    reads-1 = in_pairs b (on-table n t size w.room (2 * h) _ _ lanes-1 (second-in n t size w.room (2 * h)))

    pub small-1 : (j : ℕ) → j < 4 → get_or b j 0 < 16000
    small-1 = before n t size w.room (2 * h) _ _ lanes-1 16000 (second-small n t size w.room (2 * h))

    -- after the second input
    module _ (to two : List Float) (v : Two inputs (4 * h + 0) two) (d : to ≡ termed pairs two at acc)
        (on two₂ : List Float) (v₂ : Two inputs (4 * h + 2) two₂) (f : on ≡ termed pairs two₂ b to) where
      pub sums-2 : on ≡ tab (sums n xs t (2 * h + 1 + 1)) 8
      sums-2 =
          sums-more n t size w.room (2 * h + 1) _ _ lanes-1 xs refl next-2 (second-in n t size w.room (2 * h)) (second-on n t size w.room (2 * h))
          (4 * h + 2) _ _ _ _ (omega arith) w.tables.1 w.tables.0 (sums-1 to two v d) (f ∙ terms _ _ _ _ _ _ v₂)

    -- after the second step
    module _ (b₂ : List ℕ) (g₂ : b₂ ≡ stepped s b) where
      lanes-2 : b₂ ≡ tab (λ (j : ℕ). 2 * (places n t (2 * h) j + step_of n t j + step_of n t j)) 4
      lanes-2 = moved n t size w.room (2 * h) _ _ lanes-1 s e _ g₂

      small-2 : (j : ℕ) → j < 4 → get_or b₂ j 0 < 2 * (8 * n)
      small-2 = before n t size w.room (2 * h) _ _ lanes-2 _ (third-small n t size w.room (2 * h))

      -- back in the circle
      pub lanes-3 : (b₃ : List ℕ) → b₃ ≡ tab (λ (j : ℕ). wrap (8 * n) (get_or b₂ j 0)) 4 → b₃ ≡ tab (λ (j : ℕ). 2 * places n t (2 * h + 1 + 1) j) 4
      lanes-3 b₃ g₃ =
          turned n t size w.room (2 * h + 1 + 1) _ _ lanes-2 _
          (g₃ ∙ tab-same _ _ 4 (λ j i. wrap-is (8 * n) (get_or b₂ j 0) (small-2 j i))) (third-on n t size w.room (2 * h))
