-- What the steps make together: of the excitation, only its last two periods are read.
use mathlib.Core.Path.{◌≡◌, refl, ap, ◌∙◌, sym}
use mathlib.Core.Bool.{Bool, true, false, cond, ◌&&◌}
use mathlib.Core.List.{List, [], ◌∷◌, ◌++◌}
use Prim.Native.Nat.{ℕ, zero, suc, ◌+◌, ◌*◌, ◌-◌, ◌≤◌, ◌<◌}
use native.Mathlib.Omega.{arith}
use lib.Dec.{eqb, leb, ltb}
use lib.ListN.{length, get_or, take, drop, length-drop}
use lib.Seq.{length-take-le, drop-cons, get_or-append-add, get_or-take, get_or-drop}
use lib.Ieee.{Float, nan, binary32, add, mul, div}
use Rattle.float_extremes.specs.Extremes.{min_of}
use Rattle.float_root.specs.Root.{sqrt_of}
use borrow.Author.Tests.{eqb-true, leb-true, eq-eqb, le-leb}
use Rattle.loops.specs.Logic.{and-true}
use Rattle.reply.specs.Reply.{reply, reply_if, reply-lent}
use Rattle.buffers.specs.Buffers.{zero32, one32, square_at}
use Rattle.history.specs.History.{half}
use Rattle.loops.specs.Fold.{fold_to}
use Rattle.loops.specs.Front.{tab-same}
use Rattle.loops.specs.Sum.{sum-none, sum_more, sum_same}
use Rattle.plc_fir.specs.Fir.{celt_fir, celt_fir_from, fir_takes}
use Rattle.periodic_copy.specs.Copy.{stepped, position_at, decay_at, periodic_copy, copied_energy, cycle, cycle_takes}
use Rattle.excitation.specs.Decay.{longest_period, decay_period, period_energy, decay_of, pitch_decay}
use Rattle.excitation.specs.Cycle.{repeated_cycle, pitch_cycle}

-- the two lists have the same from a on
abbrev Agree : ℕ → List Float → List Float → Type 0
Agree a x y = (i : ℕ) → a ≤ i → get_or x i nan ≡ get_or y i nan

from-agrees : (from : ℕ) (num mem x : List Float) → from ≤ length x → Agree from (celt_fir_from from num mem x) (celt_fir num mem x)
unfolding celt_fir_from
from-agrees from num mem x h i g =
    let l : length (take from x) ≡ from = length-take-le from x h in
    let p : i ≡ length (take from x) + (i - from) = omega arith in
    let q : from + (i - from) ≡ i = omega arith in
    ap (λ z. get_or (take from x ++ drop from (celt_fir num mem x)) z nan) p
    ∙ get_or-append-add (take from x) (drop from (celt_fir num mem x)) (i - from) nan
    ∙ get_or-drop from (celt_fir num mem x) (i - from) nan
    ∙ ap (λ z. get_or (celt_fir num mem x) z nan) q

-- no position lies before the last cycle
stepped-ge : (lag p : ℕ) → half - lag ≤ p → half - lag ≤ stepped lag p
unfolding stepped
stepped-ge lag p h = go (eqb (p + 1) half) refl
  where
    go : (b : Bool) → eqb (p + 1) half ≡ b → half - lag ≤ cond b (p + 1 - lag) (p + 1)
    go true e = omega (arith, eqb-true (p + 1) half e)
    go false e = omega arith

position-ge : (lag i : ℕ) → half - lag ≤ position_at lag i
unfolding position_at fold_to
position-ge lag zero = omega arith
position-ge lag (suc i) = stepped-ge lag (position_at lag i) (position-ge lag i)

-- two periods are at least one lag
period-ge : (lag : ℕ) → lag ≤ half → lag ≤ 2 * decay_period lag
unfolding decay_period
period-ge lag h = go (ltb lag longest_period) refl
  where
    go : (b : Bool) → ltb lag longest_period ≡ b → lag ≤ 2 * cond b lag longest_period
    go true e = omega arith
    go false e = omega arith

module _ (a : ℕ) (x y : List Float) (s : Agree a x y) where
  energy-same : (k n : ℕ) → a ≤ k → period_energy x k n ≡ period_energy y k n
  unfolding period_energy
  energy-same k n h =
      sum_same binary32 _ _ _ n
      (λ i _. let e : get_or x (k + i) nan ≡ get_or y (k + i) nan = s (k + i) (omega arith) in ap (λ z. mul binary32 z z) e)

  decay_same : (lag : ℕ) → a ≤ half - 2 * decay_period lag → pitch_decay x lag ≡ pitch_decay y lag
  unfolding pitch_decay
  decay_same lag h =
      let p : ℕ = decay_period lag in
      ap (λ z. decay_of z (period_energy x (half - 2 * p) p)) (energy-same (half - p) p (omega arith))
      ∙ ap (decay_of (period_energy y (half - p) p)) (energy-same (half - 2 * p) p h)

  copy-same : (lag : ℕ) (d : Float) (n : ℕ) → a ≤ half - lag → periodic_copy x lag d n ≡ periodic_copy y lag d n
  unfolding periodic_copy
  copy-same lag d n h =
      tab-same _ _ n
      (λ i _. ap (mul binary32 (decay_at lag d i)) (s (position_at lag i) (omega (arith, position-ge lag i))))

-- the filter takes the newest samples, and what it leaves of them
module _ (lpc newest mem x : List Float) (l : length lpc ≡ 24) (k : length mem ≡ 24) (m : length newest ≡ half) (p : x ≡ newest) where
  pub fir-fits : fir_takes (length lpc) (length mem) (length x) ≡ true
  fir-fits =
      let n : length x ≡ half = ap length p ∙ m in
      simp (eq-eqb (length lpc) (length mem) (omega arith), le-leb (length lpc) 24 (omega arith), le-leb (length x) half (omega arith))

  pub whitened_is : (from : ℕ) (y : List Float) (t : Bool)
      → reply t y ≡ reply_if (fir_takes (length lpc) (length mem) (length x)) (celt_fir_from from lpc mem x) x → y ≡ celt_fir_from from lpc mem newest
  whitened_is from y t e = reply-lent _ _ _ e fir-fits ∙ ap (celt_fir_from from lpc mem) p

-- the cycle, from an excitation worked out only from `from` on
cycle-is : (m from : ℕ) (newest lpc mem exc : List Float) (lag : ℕ) (d : Float) → length newest ≡ half → lag ≤ half → from ≡ half - 2 * decay_period lag
    → exc ≡ celt_fir_from from lpc mem newest → d ≡ pitch_decay exc lag
    → cycle (periodic_copy exc lag d m) (copied_energy newest lag m) ≡ pitch_cycle m lpc mem newest lag
unfolding repeated_cycle pitch_cycle
cycle-is m from newest lpc mem exc lag d l h q p1 p2 =
    let full : List Float = celt_fir lpc mem newest in
    let part : List Float = celt_fir_from from lpc mem newest in
    let a : Agree from part full = from-agrees from lpc mem newest (omega arith) in
    let u : pitch_decay part lag ≡ pitch_decay full lag = decay_same from part full a lag (omega arith) in
    let v : periodic_copy part lag d m ≡ periodic_copy full lag d m = copy-same from part full a lag d m (omega (arith, period-ge lag h)) in
    let d' : d ≡ pitch_decay full lag = p2 ∙ ap (λ z. pitch_decay z lag) p1 ∙ u in
    let e' : periodic_copy exc lag d m ≡ periodic_copy full lag (pitch_decay full lag) m =
    ap (λ z. periodic_copy z lag d m) p1 ∙ v ∙ ap (λ z. periodic_copy full lag z m) d' in
    ap (λ z. cycle z (copied_energy newest lag m)) e'

-- only what is taken need be the same
reply-same : {A : Type 0} (b : Bool) (x y was : A) → (b ≡ true → x ≡ y) → reply_if b x was ≡ reply_if b y was
unfolding reply_if
reply-same true x y was h = ap (λ z. reply true z) (h refl)
reply-same false x y was h = refl

takes_lag : (n lag : ℕ) → cycle_takes n lag ≡ true → lag ≤ half
unfolding cycle_takes
takes_lag n lag e = leb-true lag half (and-true (eqb n half && leb 1 lag) (leb lag half) e).1

-- with the lags that the copy takes
pub repeat-is : (m from : ℕ) (newest lpc mem exc e₀ e : List Float) (lag : ℕ) (d s : Float) (t : Bool) → length newest ≡ half → from ≡ half - 2 * decay_period lag
    → exc ≡ celt_fir_from from lpc mem newest → d ≡ pitch_decay exc lag
    → reply t (cycle e s) ≡ reply_if (cycle_takes (length newest) lag) (cycle (periodic_copy exc lag d m) (copied_energy newest lag m)) (cycle e₀ zero32)
    → reply t (cycle e s) ≡ reply_if (cycle_takes (length newest) lag) (pitch_cycle m lpc mem newest lag) (cycle e₀ zero32)
repeat-is m from newest lpc mem exc e₀ e lag d s t l q p1 p2 r =
    r ∙ reply-same _ _ _ _ (λ b. cycle-is m from newest lpc mem exc lag d l (takes_lag (length newest) lag b) q p1 p2)

-- what is left of either period after k samples, and what those make
pub record PeriodsAt (exc : List Float) (p : ℕ) (xs ys : List Float) (k : ℕ) (e1 e2 : Float) : Type 0 where
  pub within : k ≤ p
  pub first : xs ≡ drop k (take p (drop (half - p) exc))
  pub second : ys ≡ drop k (take p (drop (half - 2 * p) exc))
  pub newest : e1 ≡ period_energy exc (half - p) k
  pub before : e2 ≡ period_energy exc (half - 2 * p) k

-- the sample that comes next of a part
left : (exc xs xs' : List Float) (p k at : ℕ) (x : Float) → k ≤ p → at + p ≤ length exc → xs ≡ drop k (take p (drop at exc)) → xs ≡ x ∷ xs'
    → (k < p) × (xs' ≡ drop (k + 1) (take p (drop at exc))) × (x ≡ get_or exc (at + k) nan)
left exc xs xs' p k at x w r e f =
    let t : List Float = take p (drop at exc) in
    let l : length t ≡ p = length-take-le p (drop at exc) (omega (arith, length-drop at exc)) in
    let n : length xs' + 1 ≡ p - k = omega (arith, ap length (sym f ∙ e), length-drop k t, l) in
    let g : k < length t = omega arith in
    let d : x ∷ xs' ≡ get_or t k nan ∷ drop (suc k) t = sym f ∙ e ∙ drop-cons t k nan g in
    let j : suc k ≡ k + 1 = omega arith in (
      omega arith,
      ap (drop 1) d ∙ ap (λ z. drop z t) j,
      ap (λ z. get_or z 0 nan) d ∙ get_or-take p (drop at exc) k nan (omega arith) ∙ get_or-drop at exc k nan,
    )

module _ (exc : List Float) (p : ℕ) (l : length exc ≡ half) (h : p ≤ longest_period) where
  pub periods-none : (xs ys : List Float) (m n : ℕ) → m ≡ p → n ≡ p → xs ≡ take m (drop (half - p) exc) → ys ≡ take n (drop (half - 2 * p) exc)
      → PeriodsAt exc p xs ys 0 one32 one32
  unfolding period_energy
  periods-none xs ys m n r q e f = record {
    within = omega arith;
    first = e ∙ ap (λ z. take z (drop (half - p) exc)) r;
    second = f ∙ ap (λ z. take z (drop (half - 2 * p) exc)) q;
    newest = sym (sum-none _ _ _);
    before = sym (sum-none _ _ _);
  }

  pub periods-more : (xs ys xs' ys' : List Float) (k j : ℕ) (e1 e2 a b : Float) → j ≡ k + 1 → PeriodsAt exc p xs ys k e1 e2 → xs ≡ a ∷ xs' → ys ≡ b ∷ ys'
      → PeriodsAt exc p xs' ys' j (add binary32 e1 (mul binary32 a a)) (add binary32 e2 (mul binary32 b b))
  unfolding period_energy
  periods-more xs ys xs' ys' k j e1 e2 a b q at e f =
      let u = left exc xs xs' p k (half - p) a at.within (omega arith) at.first e in
      let v = left exc ys ys' p k (half - 2 * p) b at.within (omega arith) at.second f in
      record {
        within = omega (arith, u.0);
        first = u.1 ∙ ap (λ z. drop z (take p (drop (half - p) exc))) (sym q);
        second = v.1 ∙ ap (λ z. drop z (take p (drop (half - 2 * p) exc))) (sym q);
        newest =
            ap (λ z. add binary32 e1 (mul binary32 z z)) u.2 ∙ sum_more binary32 (λ (i : ℕ). square_at exc (half - p + i)) _ _ _ at.newest
            ∙ ap (period_energy exc (half - p)) (sym q);
        before =
            ap (λ z. add binary32 e2 (mul binary32 z z)) v.2 ∙ sum_more binary32 (λ (i : ℕ). square_at exc (half - 2 * p + i)) _ _ _ at.before
            ∙ ap (period_energy exc (half - 2 * p)) (sym q);
      }

  pub periods-level : (xs ys : List Float) (k : ℕ) (e1 e2 : Float) → PeriodsAt exc p xs ys k e1 e2 → length xs ≡ length ys
  periods-level xs ys k e1 e2 at =
      omega (
        arith,
        ap length at.first,
        ap length at.second,
        length-drop k (take p (drop (half - p) exc)),
        length-drop k (take p (drop (half - 2 * p) exc)),
        length-take-le p (drop (half - p) exc) (omega (arith, length-drop (half - p) exc)),
        length-take-le p (drop (half - 2 * p) exc) (omega (arith, length-drop (half - 2 * p) exc)),
      )

  pub periods-all : (xs ys : List Float) (k : ℕ) (e1 e2 : Float) → PeriodsAt exc p xs ys k e1 e2 → xs ≡ [] → k ≡ p
  periods-all xs ys k e1 e2 at e =
      let t : List Float = take p (drop (half - p) exc) in
      omega (arith, at.within, ap length (sym e ∙ at.first), length-drop k t, length-take-le p (drop (half - p) exc) (omega (arith, length-drop (half - p) exc)))

-- the decay, from the energies that a loop over a period leaves
pub decay_is : (exc : List Float) (lag p i : ℕ) (e1 e2 low r : Float) → p ≡ decay_period lag → e1 ≡ period_energy exc (half - p) i
    → e2 ≡ period_energy exc (half - 2 * p) i → i ≡ p → low ≡ min_of e1 e2 → r ≡ sqrt_of (div binary32 low e2) → r ≡ pitch_decay exc lag
unfolding pitch_decay decay_of
decay_is exc lag p i e1 e2 low r q h1 h2 l m s =
    s ∙ ap (λ z. sqrt_of (div binary32 z e2)) m
    ∙ (λ k. decay_of (h1 k) (h2 k))
    ∙ ap (λ z. decay_of (period_energy exc (half - p) z) (period_energy exc (half - 2 * p) z)) l
    ∙ ap (λ z. decay_of (period_energy exc (half - z) z) (period_energy exc (half - 2 * z) z)) q
