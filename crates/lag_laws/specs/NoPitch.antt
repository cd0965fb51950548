-- Samples with no pitch: all zero, of either sign, or all NaN, give offset 0 and so lag 720.
use Rattle.std.specs.Prelude.{◌≡◌, refl, Bool, cond, ◌||◌, List, ℕ, ◌+◌, ◌*◌, ◌<◌, pos, drop, Float}
use Rattle.std.proofs.Math.Path.{ap}
use Rattle.std.proofs.Common.{◌∙◌, arith, get_or-drop}
use Rattle.std.proofs.Math.Bool.{true, false}
use Rattle.std.proofs.Math.ListN.{get_or}
use Rattle.std.specs.Float.Ieee.{nan, add, mul, lt, neg, is_nan, of_bits, unlike}
use Rattle.std.specs.Float.{fin, binary32}
use Rattle.loops.specs.Fold.{fold-suc, fold-holds}
use Rattle.loops.specs.Front.{get_or-tab}
use Rattle.loops.specs.Nan.{add-nan}
use Rattle.loops.specs.Pick.{pick-false}
use Rattle.loops.specs.Sum.{sum_to}
use Rattle.buffers.specs.Buffers.{zero32}
use Rattle.float_extremes.specs.Extremes.{max_of}
use Rattle.plc_best.specs.Best.{minus_one, considered, sweep_turn, sweep_to, best_start, find_best_pitch}
use Rattle.plc_correlate.specs.Correlation.{cross_sum, correlation}
use Rattle.plc_search.specs.Search.{every_second, near, fine_at, coarse, fine, coarse_best, fine_best, refined, pitch_search}

-- where no correlation is above 0 the pair stays 0 and 1
pub none-positive : (xcorr y : List Float) (len n : ℕ) → ((i : ℕ) → i < n → lt zero32 (get_or xcorr i nan) ≡ false) → find_best_pitch xcorr y len n ≡ best_start
unfolding find_best_pitch sweep_to sweep_turn considered
none-positive xcorr y len n h =
    fold-holds (λ s. s.best ≡ best_start) (sweep_turn xcorr y len) _ n refl (λ s i l e. pick-false _ _ _ (h i l) ∙ e)

-- ---- with no positive correlation the offset is 0
abbrev NotPositive : Float → Type 0
NotPositive v = lt zero32 v ≡ false

zero-not-positive : NotPositive zero32
unfolding lt of_bits
zero-not-positive = refl

module _ (y : List Float) (c : (i : ℕ) → i < 155 → NotPositive (correlation (every_second (drop 360 y) 332) (every_second y 487) 332 i))
    (f : (i : ℕ) → i < 310 → NotPositive (correlation (drop 360 y) y 664 i)) where
  coarse-best_start : coarse_best y ≡ best_start
  unfolding coarse_best coarse
  coarse-best_start =
      none-positive (coarse y) (every_second y 487) 332 155
      (λ i h. ap (lt zero32) (get_or-tab (correlation (every_second (drop 360 y) 332) (every_second y 487) 332) 155 i nan h) ∙ c i h)

  fine-not : (b0 b1 i : ℕ) → i < 310 → NotPositive (fine_at y b0 b1 i)
  unfolding fine_at
  fine-not b0 b1 i h = go (near b0 i || near b1 i)
    where
      go : (p : Bool) → NotPositive (cond p (correlation (drop 360 y) y 664 i) zero32)
      go true = f i h
      go false = zero-not-positive

  fine-best_start : fine_best y ≡ best_start
  unfolding fine_best fine
  fine-best_start =
      none-positive (fine y (coarse_best y)) y 664 310
      (λ i h. ap (lt zero32) (get_or-tab (fine_at y (coarse_best y).first.at (coarse_best y).second.at) 310 i nan h)
      ∙ fine-not (coarse_best y).first.at (coarse_best y).second.at i h)

  pub none_found : pitch_search y ≡ 0
  unfolding pitch_search refined
  none_found = ap (λ z. refined (fine y (coarse_best y)) z.first.at) fine-best_start

-- ---- what samples a correlation reads
module _ (P : Float → Type 0) (y : List Float) (a : (i : ℕ) → i < 1024 → P (get_or y i nan)) where
  later : (j : ℕ) → j < 664 → P (get_or (drop 360 y) j nan)
  later j h = rw (get_or-drop 360 y j nan) (a (360 + j) (omega arith))

  later_second : (j : ℕ) → j < 332 → P (get_or (every_second (drop 360 y) 332) j nan)
  unfolding every_second
  later_second j h = rw (get_or-tab (λ (k : ℕ). get_or (drop 360 y) (2 * k) nan) 332 j nan h) (later (2 * j) (omega arith))

  second : (j : ℕ) → j < 487 → P (get_or (every_second y 487) j nan)
  unfolding every_second
  second j h = rw (get_or-tab (λ (k : ℕ). get_or y (2 * k) nan) 487 j nan h) (a (2 * j) (omega arith))

-- ---- zeros of either sign
pub record SignedZero (v : Float) : Type 0 where
  pub sign : Bool
  pub is : v ≡ fin sign 0 (pos 0)

pub zero-mul : (s t : Bool) → mul binary32 (fin s 0 (pos 0)) (fin t 0 (pos 0)) ≡ fin (unlike s t) 0 (pos 0)
unfolding mul
zero-mul s t = refl

pub zero-add : (t : Bool) → add binary32 zero32 (fin t 0 (pos 0)) ≡ zero32
unfolding add of_bits
zero-add true = refl
zero-add false = refl

cross-zero : (x y : List Float) (i n : ℕ) → ((j : ℕ) → j < n → SignedZero (get_or x j nan)) → ((j : ℕ) → j < n → SignedZero (get_or y (i + j) nan))
    → cross_sum x y i n ≡ zero32
unfolding cross_sum sum_to
cross-zero x y i n a b =
    fold-holds (λ s. s ≡ zero32) _ zero32 n refl
    (λ s j h e.
    ap (λ z. add binary32 z (mul binary32 (get_or x j nan) (get_or y (i + j) nan))) e
    ∙ ap (λ z. add binary32 zero32 (mul binary32 z (get_or y (i + j) nan))) (a j h).is
    ∙ ap (λ z. add binary32 zero32 (mul binary32 (fin (a j h).sign 0 (pos 0)) z)) (b j h).is
    ∙ ap (add binary32 zero32) (zero-mul (a j h).sign (b j h).sign)
    ∙ zero-add (unlike (a j h).sign (b j h).sign))

zero-raised : max_of zero32 minus_one ≡ zero32
unfolding max_of is_nan lt neg of_bits
zero-raised = refl

correlation-zero : (x y : List Float) (n i : ℕ) → ((j : ℕ) → j < n → SignedZero (get_or x j nan)) → ((j : ℕ) → j < n → SignedZero (get_or y (i + j) nan))
    → NotPositive (correlation x y n i)
unfolding correlation
correlation-zero x y n i a b = ap (λ z. lt zero32 (max_of z minus_one)) (cross-zero x y i n a b) ∙ ap (lt zero32) zero-raised ∙ zero-not-positive

pub silent : (y : List Float) → ((i : ℕ) → i < 1024 → SignedZero (get_or y i nan)) → pitch_search y ≡ 0
silent y a =
    none_found y
    (λ i h. correlation-zero (every_second (drop 360 y) 332) (every_second y 487) 332 i (later_second SignedZero y a) (λ j k. second SignedZero y a (i + j) (omega arith)))
    (λ i h. correlation-zero (drop 360 y) y 664 i (later SignedZero y a) (λ j k. a (i + j) (omega arith)))

-- ---- NaN

mul-nan : (y : Float) → mul binary32 nan y ≡ nan
unfolding mul
mul-nan y = refl

-- the last term decides
cross-nan : (x y : List Float) (i n : ℕ) → get_or x n nan ≡ nan → cross_sum x y i (n + 1) ≡ nan
unfolding cross_sum sum_to
cross-nan x y i n e =
    fold-suc _ _ n
    ∙ ap (λ z. add binary32 (cross_sum x y i n) (mul binary32 z (get_or y (i + n) nan))) e
    ∙ ap (add binary32 (cross_sum x y i n)) (mul-nan (get_or y (i + n) nan))
    ∙ add-nan (cross_sum x y i n)

nan-raised : NotPositive (max_of nan minus_one)
unfolding max_of is_nan lt neg of_bits
nan-raised = refl

correlation-lost : (x y : List Float) (n i : ℕ) → get_or x n nan ≡ nan → NotPositive (correlation x y (n + 1) i)
unfolding correlation
correlation-lost x y n i e = ap (λ z. lt zero32 (max_of z minus_one)) (cross-nan x y i n e) ∙ nan-raised

pub all-nan : (y : List Float) → ((i : ℕ) → i < 1024 → get_or y i nan ≡ nan) → pitch_search y ≡ 0
all-nan y a =
    none_found y
    (λ i h. correlation-lost (every_second (drop 360 y) 332) (every_second y 487) 331 i (later_second (λ v. v ≡ nan) y a 331 (omega arith)))
    (λ i h. correlation-lost (drop 360 y) y 663 i (later (λ v. v ≡ nan) y a 663 (omega arith)))
