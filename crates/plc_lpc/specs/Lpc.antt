-- celt_lpc: Levinson-Durbin, turn by turn
use Rattle.std.specs.Prelude.{◌≡◌, refl, Bool, true, false, cond, List, ℕ, ◌+◌, ◌-◌, ◌/◌, ◌≤◌, length, get_or, set, replicate, Float}
use Rattle.std.proofs.Common.{ap, sym, ◌∙◌, arith, length-set}
use Rattle.std.proofs.lemmas.List.{length-replicate}
use Rattle.std.specs.Float.{nan, binary32}
use Rattle.std.specs.Float.Ieee.{add, sub, mul, div, neg, lt, eq, of_bits}
use Rattle.loops.specs.Fold.{fold_to, fold-suc, fold-keeps, fold-still}
use Rattle.loops.specs.Pick.{pick_true, pick-false}
use Rattle.loops.specs.Sum.{sum_to}
use Rattle.buffers.specs.Buffers.{zero32}

-- 0.001, the part of the first correlation at which the predictor stops
abbrev pub small32 : Float
small32 = of_bits binary32 0x3a83_126f

-- the sum of lpc[j] * ac[i - j] over j below n
abbrev pub back_to : List Float → List Float → ℕ → ℕ → Float
back_to lpc ac i n = sum_to binary32 (λ (j : ℕ). mul binary32 (get_or lpc j nan) (get_or ac (i - j) nan)) zero32 n

-- turn i's reflection coefficient
abbrev pub reflection : List Float → Float → List Float → ℕ → Float
reflection lpc error ac i = div binary32 (neg (add binary32 (back_to lpc ac i i) (get_or ac (i + 1) nan))) error

-- the places j and i - 1 - j, each with r times the other added
abbrev pub crossed : Float → ℕ → List Float → ℕ → List Float
crossed r i l j =
    set (set l j (add binary32 (get_or l j nan) (mul binary32 r (get_or l (i - 1 - j) nan)))) (i - 1 - j)
    (add binary32 (get_or l (i - 1 - j) nan) (mul binary32 r (get_or l j nan)))

pub record Lpc : Type 0 where
  pub lpc : List Float
  pub error : Float
  pub done : Bool

-- turn i with its coefficient r
abbrev pub lpc_with : List Float → Lpc → ℕ → Float → Lpc
lpc_with ac s i r =
    let e = sub binary32 s.error (mul binary32 (mul binary32 r r) s.error) in
    record {
      lpc = fold_to (crossed r i) (set s.lpc i r) ((i + 1) / 2);
      error = e;
      done = lt e (mul binary32 small32 (get_or ac 0 nan));
    }

-- a turn; once it is done nothing changes
abbrev pub lpc_turn : List Float → Lpc → ℕ → Lpc
lpc_turn ac s i = cond s.done s (lpc_with ac s i (reflection s.lpc s.error ac i))

-- the first n turns of p
unfoldable pub lpc_to : List Float → ℕ → ℕ → Lpc
lpc_to ac p n = fold_to (lpc_turn ac) (record { lpc = replicate p zero32; error = get_or ac 0 nan; done = false }) n

-- the p predictor coefficients
unfoldable pub celt_lpc : List Float → ℕ → List Float
celt_lpc ac p = cond (eq (get_or ac 0 nan) zero32) (replicate p zero32) (lpc_to ac p p).lpc

length-with : (ac : List Float) (s : Lpc) (i : ℕ) (r : Float) → length (lpc_with ac s i r).lpc ≡ length s.lpc
length-with ac s i r = fold-keeps length (crossed r i) (set s.lpc i r) ((i + 1) / 2) (λ l j. simp length-set) ∙ simp length-set

length-turn : (ac : List Float) (s : Lpc) (i : ℕ) → length (lpc_turn ac s i).lpc ≡ length s.lpc
length-turn ac s i = go s.done
  where
    go : (b : Bool) → length (cond b s (lpc_with ac s i (reflection s.lpc s.error ac i))).lpc ≡ length s.lpc
    go true = refl
    go false = length-with ac s i _

pub length-lpc_to : (ac : List Float) (p n : ℕ) → length (lpc_to ac p n).lpc ≡ p
unfolding lpc_to
length-lpc_to ac p n =
    fold-keeps (λ (s : Lpc). length s.lpc) (lpc_turn ac) _ n (length-turn ac) ∙ length-replicate p zero32

pub length-celt_lpc : (ac : List Float) (p : ℕ) → length (celt_lpc ac p) ≡ p
unfolding celt_lpc
length-celt_lpc ac p = go (eq (get_or ac 0 nan) zero32)
  where
    go : (b : Bool) → length (cond b (replicate p zero32) (lpc_to ac p p).lpc) ≡ p
    go true = length-replicate p zero32
    go false = length-lpc_to ac p p

-- all zero where the first correlation is zero
pub lpc_zero : (ac : List Float) (p : ℕ) → eq (get_or ac 0 nan) zero32 ≡ true → celt_lpc ac p ≡ replicate p zero32
unfolding celt_lpc
lpc_zero ac p e = pick_true _ _ _ e

-- once the error is small, the coefficients stay
pub lpc_stops : (ac : List Float) (p i : ℕ) → (lpc_to ac p i).done ≡ true → i ≤ p → lpc_to ac p p ≡ lpc_to ac p i
unfolding lpc_to
lpc_stops ac p i d h =
    let k : i + (p - i) ≡ p = omega arith in
    ap (lpc_to ac p) (sym k) ∙ fold-still (lpc_turn ac) _ (lpc_to ac p i) i refl (λ n. pick_true _ _ _ d) (p - i)

-- after a turn it is done exactly if the error is below 0.001 of the first correlation
pub lpc_test : (ac : List Float) (p i : ℕ) → (lpc_to ac p i).done ≡ false
    → (lpc_to ac p (i + 1)).done ≡ lt (lpc_to ac p (i + 1)).error (mul binary32 small32 (get_or ac 0 nan))
unfolding lpc_to
lpc_test ac p i d =
    let s : Lpc = lpc_to ac p i in
    let t : lpc_to ac p (i + 1) ≡ lpc_with ac s i (reflection s.lpc s.error ac i) = fold-suc (lpc_turn ac) _ i ∙ pick-false _ _ _ d in
    ap (λ z. z.done) t ∙ sym (ap (λ z. lt z.error (mul binary32 small32 (get_or ac 0 nan))) t)

-- a NaN error does not stop it
pub lpc_nan : (ac : List Float) (p i : ℕ) → (lpc_to ac p i).done ≡ false → (lpc_to ac p (i + 1)).error ≡ nan → (lpc_to ac p (i + 1)).done ≡ false
unfolding lt
lpc_nan ac p i d e = lpc_test ac p i d ∙ ap (λ z. lt z (mul binary32 small32 (get_or ac 0 nan))) e
