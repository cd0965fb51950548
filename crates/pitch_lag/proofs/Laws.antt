-- What the steps make together, over plain variables.
use mathlib.Core.Path.{refl, ◌≡◌, ap, ◌∙◌, sym, subst}
use mathlib.Core.Bool.{Bool, true, false}
use mathlib.Core.List.{List}
use Prim.Native.Nat.{ℕ, ◌+◌, ◌-◌, ◌≤◌}
use native.Mathlib.Omega.{arith}
use lib.Dec.{eqb, lit≤}
use lib.ListN.{length, take, drop, length-drop}
use lib.Seq.{length-take-le}
use lib.Ieee.{Float}
use denote.Bor.{Bor}
use Rattle.std.specs.Prelude.{Option, Some, None}
use Rattle.std.specs.Bool.{then_some}
use borrow.Author.Tests.{eq-eqb}
use Rattle.loops.specs.Logic.{and_both}
use Rattle.reply.specs.Reply.{reply-lent, reply-taken}
use Rattle.history.specs.History.{half, samples, channel, whole}
use Rattle.history.proofs.Parts.{slice-take}
use Rattle.plc_search.specs.Search.{pitch_search}
use Rattle.plc_search.specs.Offset.{offset-le}
use Rattle.plc_downsample.proofs.Steps.{Left}
use Rattle.plc_downsample.specs.Downsample.{pitch_downsample_pair, downsample_pair_takes}
use Rattle.pitch_lag.specs.Lag.{longest_lag, low_passed, lag_of}

module _ (two : Bool) (h : List Float) (l : length h ≡ whole) (z low : List Float) (t : Bool) (lz : length z ≡ half) where
  part : (a : ℕ) → a + samples ≤ whole → length (take samples (drop a h)) ≡ samples
  part a p = length-take-le samples (drop a h) (omega (arith, length-drop a h))

  abbrev Both : Option (Bor (List Float)) → Type 0
  Both second = Left (take samples (drop 0 h)) second z t low → (t ≡ true) × (low ≡ low_passed two h)

  -- taken, of one channel and of two
  low-one : (second : Option (Bor (List Float))) → second ≡ None → two ≡ false → Both second
  unfolding low_passed
  low-one second q b =
      subst Both (sym q)
      (λ e.
      let g = and_both (eqb (length (take samples (drop 0 h))) samples) (eqb (length z) half) (eq-eqb _ _ (part 0 (lit≤ tt))) (eq-eqb _ _ lz) in
      (reply-taken _ _ _ e ∙ g, reply-lent _ _ _ e g ∙ sym (ap (λ w. low_passed w h) b)))

  low-two : (second : Option (Bor (List Float))) (y : Bor (List Float)) → second ≡ Some y → y.now ≡ take samples (drop channel h) → two ≡ true → Both second
  unfolding low_passed
  low-two second y q k b =
      subst Both (sym q)
      (λ e.
      let p0 = eq-eqb (length (take samples (drop 0 h))) samples (part 0 (lit≤ tt)) in
      let p1 = eq-eqb (length y.now) samples (ap length k ∙ part channel (lit≤ tt)) in
      let p2 = eq-eqb (length z) half lz in
      let g : downsample_pair_takes (length (take samples (drop 0 h))) (length y.now) (length z) ≡ true = simp (p0, p1, p2) in (
        reply-taken _ _ _ e ∙ g,
        reply-lent _ _ _ e g ∙ ap (pitch_downsample_pair (take samples (drop 0 h))) (k ∙ sym (slice-take channel samples h (omega arith)))
            ∙ sym (ap (λ w. low_passed w h) b),
      ))

  pub low-done : (second : Option (Bor (List Float))) (y : Bor (List Float)) → second ≡ then_some two y → y.now ≡ take samples (drop channel h) → Both second
  low-done second y e k = go two refl e
    where
      go : (b : Bool) → two ≡ b → second ≡ then_some b y → Both second
      go true q p = low-two second y p k q
      go false q p = low-one second p q

pub search-most : (found : ℕ) (y : List Float) → found ≡ pitch_search y → found ≤ longest_lag
search-most found y e = omega (arith, offset-le y)

pub lag_is : (two : Bool) (h low : List Float) (found : ℕ) → low ≡ low_passed two h → found ≡ pitch_search low → longest_lag - found ≡ lag_of two h
unfolding lag_of
lag_is two h low found p q = ap (λ w. longest_lag - w) (q ∙ ap pitch_search p)
