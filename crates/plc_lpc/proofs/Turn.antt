-- one turn of Levinson-Durbin, over plain lists
use mathlib.Core.Path.{◌≡◌, ap, ◌∙◌, sym}
use mathlib.Core.Bool.{Bool, true, false}
use mathlib.Core.List.{List}
use Prim.Native.Nat.{ℕ, ◌+◌, ◌/◌, ◌≤◌}
use lib.Ieee.{Float, nan, binary32, add, sub, mul, div, neg, lt}
use lib.ListN.{get_or, set, replicate}
use Rattle.loops.specs.Fold.{fold_to, fold-suc, fold-none}
use Rattle.buffers.specs.Buffers.{zero32}
use Rattle.plc_lpc.specs.Lpc.{small32, Lpc, back_to, lpc_to, lpc_turn, lpc_with, reflection, crossed, lpc_stops}

abbrev pub state : List Float → Float → Bool → Lpc
state l e b = record { lpc = l; error = e; done = b }

module _ (ac : List Float) (p : ℕ) where
  pub none : lpc_to ac p 0 ≡ state (replicate p zero32) (get_or ac 0 nan) false
  unfolding lpc_to
  none = fold-none _ _

  more : (i : ℕ) (l l' : List Float) (e r : Float) (n : ℕ) (b : Bool) → lpc_to ac p i ≡ state l e false
      → r ≡ reflection l e ac i → l' ≡ fold_to (crossed r i) (set l i r) n → n ≡ (i + 1) / 2
      → lt (sub binary32 e (mul binary32 (mul binary32 r r) e)) (mul binary32 small32 (get_or ac 0 nan)) ≡ b
      → lpc_to ac p (i + 1) ≡ state l' (sub binary32 e (mul binary32 (mul binary32 r r) e)) b
  unfolding lpc_to
  more i l l' e r n b s er el en eb =
      let e' : Float = sub binary32 e (mul binary32 (mul binary32 r r) e) in
      let t : Bool = lt e' (mul binary32 small32 (get_or ac 0 nan)) in
      fold-suc _ _ i ∙ ap (λ z. lpc_turn ac z i) s ∙ ap (λ z. lpc_with ac (state l e false) i z) (sym er)
      ∙ ap (λ z. state (fold_to (crossed r i) (set l i r) z) e' t) (sym en) ∙ ap (λ z. state z e' t) (sym el) ∙ ap (λ z. state l' e' z) eb

  -- from the sum that the first loop within leaves after m turns, and the coefficients that the second does after n
  pub turned : (i : ℕ) (l l' : List Float) (e rr : Float) (m n : ℕ) (b : Bool) → lpc_to ac p i ≡ state l e false → rr ≡ back_to l ac i m → m ≡ i
      → (let r : Float = div binary32 (neg (add binary32 rr (get_or ac (i + 1) nan))) e in
      l' ≡ fold_to (crossed r i) (set l i r) n → n ≡ (i + 1) / 2
      → lt (sub binary32 e (mul binary32 (mul binary32 r r) e)) (mul binary32 small32 (get_or ac 0 nan)) ≡ b
      → lpc_to ac p (i + 1) ≡ state l' (sub binary32 e (mul binary32 (mul binary32 r r) e)) b)
  turned i l l' e rr m n b s es em el en eb =
      more i l l' e _ n b s (ap (λ z. div binary32 (neg (add binary32 z (get_or ac (i + 1) nan))) e) (es ∙ ap (back_to l ac i) em)) el en eb

  pub stopped : (i : ℕ) (l : List Float) (e : Float) → lpc_to ac p i ≡ state l e true → i ≤ p → (lpc_to ac p p).lpc ≡ l
  stopped i l e s h = ap (λ z. z.lpc) (lpc_stops ac p i (ap (λ z. z.done) s) h ∙ s)
