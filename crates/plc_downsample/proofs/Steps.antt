-- The steps of the downsampling put together.
use mathlib.Core.Path.{◌≡◌, refl, ap, ◌∙◌, sym, subst}
use mathlib.Core.Logic.{◌⊎◌, inl, inr}
use mathlib.Core.Bool.{Bool, true, false, ◌&&◌}
use mathlib.Core.List.{List}
use Prim.Native.Nat.{ℕ, ◌<◌}
use lib.Dec.{eqb}
use lib.Ieee.{Float, nan}
use lib.ListN.{length, get_or}
use lib.Seq.{ext_get_or}
use denote.Bor.{Bor}
use borrow.Author.Tests.{eq-eqb, ne_eqb}
use Rattle.std.specs.Prelude.{Option, Some, None, MatchOption}
use Rattle.loops.specs.Front.{tab, get_or-tab, length-tab}
use Rattle.loops.specs.Logic.{and_first, and_second, and_both}
use Rattle.reply.specs.Reply.{reply, reply_if, reply-yes, reply-no, reply-lent, reply-taken}
use Rattle.plc_whiten.specs.Whiten.{whiten_lp}
use Rattle.plc_downsample.specs.Downsample.{smoothed_at, smoothed, summed_at, smoothed_pair, pitch_downsample, pitch_downsample_pair, downsample_takes, downsample_pair_takes}

-- what a call leaves of w, of one channel or two
abbrev pub Left : List Float → Option (Bor (List Float)) → List Float → Bool → List Float → Type 0
Left x second w t b =
    MatchOption second (reply t b ≡ reply_if (downsample_takes (length x) (length w)) (pitch_downsample x) w)
    (λ y. reply t b ≡ reply_if (downsample_pair_takes (length x) (length y.now) (length w)) (pitch_downsample_pair x y.now) w)

-- ---- lengths that are refused
module _ (x w : List Float) where
  one-no : (length x ≡ 2048 → ⊥) ⊎ ((length x ≡ 2048) × (length w ≡ 1024 → ⊥)) → downsample_takes (length x) (length w) ≡ false
  one-no e = elim e [ inl h ↦ and_first _ _ (ne_eqb _ 2048 h) | inr h ↦ and_second (eqb (length x) 2048) _ (ne_eqb _ 1024 h.1) ]

  pair-no : (y : List Float) → (length x ≡ 2048 → ⊥) ⊎ ((length x ≡ 2048) × (length w ≡ 1024 → ⊥)) → downsample_pair_takes (length x) (length y) (length w) ≡ false
  pair-no y e =
      elim e [
        | inl h ↦ and_first (eqb (length x) 2048 && eqb (length y) 2048) _ (and_first _ _ (ne_eqb _ 2048 h))
        | inr h ↦ and_second (eqb (length x) 2048 && eqb (length y) 2048) _ (ne_eqb _ 1024 h.1)
      ]

  pub refused : (second : Option (Bor (List Float))) → (length x ≡ 2048 → ⊥) ⊎ ((length x ≡ 2048) × (length w ≡ 1024 → ⊥)) → Left x second w false w
  refused None e = reply-no _ _ _ (one-no e) refl
  refused (Some y) e = reply-no _ _ _ (pair-no y.now e) refl

  pub second-refused : (second : Option (Bor (List Float))) (y : Bor (List Float)) → second ≡ Some y → (length y.now ≡ 2048 → ⊥) → Left x second w false w
  second-refused second y e h =
      subst (λ (z : Option (Bor (List Float))). Left x z w false w) (sym e)
      (reply-no _ _ _ (and_first (eqb (length x) 2048 && eqb (length y.now) 2048) _ (and_second (eqb (length x) 2048) _ (ne_eqb _ 2048 h))) refl)

-- ---- smoothed, and then whitened
tab-each : (f : ℕ → Float) (b : List Float) (n : ℕ) → length b ≡ n → ((i : ℕ) → i < n → get_or b i nan ≡ f i) → b ≡ tab f n
tab-each f b n l h = ext_get_or nan b (tab f n) (l ∙ sym (length-tab f n)) (λ i k. let j : i < n = subst (λ z. i < z) l k in h i j ∙ sym (get_or-tab f n i nan j))

-- what `whiten` leaves of b, where b is s
passed : {t : Bool} {y : List Float} (b s w : List Float) (c : Bool) → reply t y ≡ reply_if (eqb (length b) 1024) (whiten_lp b) b → b ≡ s → length s ≡ 1024 → c ≡ true
    → reply t y ≡ reply_if c (whiten_lp s) w
passed {y = y} b s w c e q l k =
    let d : eqb (length b) 1024 ≡ true = eq-eqb (length b) 1024 (ap length q ∙ l) in
    ap (λ z. reply z y) (reply-taken (eqb (length b) 1024) (whiten_lp b) b e ∙ d)
    ∙ reply-yes c (whiten_lp s) w k (reply-lent (eqb (length b) 1024) (whiten_lp b) b e d ∙ ap whiten_lp q)

module _ {t : Bool} {y : List Float} (x w b : List Float) (second : Option (Bor (List Float))) (l : length x ≡ 2048) (m : length w ≡ 1024) (n : length b ≡ 1024)
    (e : reply t y ≡ reply_if (eqb (length b) 1024) (whiten_lp b) b) where
  pub one-done : second ≡ None → ((i : ℕ) → i < 1024 → get_or b i nan ≡ smoothed_at x i) → Left x second w t y
  unfolding pitch_downsample smoothed
  one-done q h =
      subst (λ (z : Option (Bor (List Float))). Left x z w t y) (sym q)
      (passed b (smoothed x) w _ e (tab-each (smoothed_at x) b 1024 n h) (length-tab (smoothed_at x) 1024) (and_both _ _ (eq-eqb _ 2048 l) (eq-eqb _ 1024 m)))

  pub pair-done : (z : Bor (List Float)) → second ≡ Some z → length z.now ≡ 2048 → ((i : ℕ) → i < 1024 → get_or b i nan ≡ summed_at x z.now i) → Left x second w t y
  unfolding pitch_downsample_pair smoothed_pair
  pair-done z q k h =
      subst (λ (v : Option (Bor (List Float))). Left x v w t y) (sym q)
      (passed b (smoothed_pair x z.now) w _ e (tab-each (summed_at x z.now) b 1024 n h) (length-tab (summed_at x z.now) 1024)
      (and_both (eqb (length x) 2048 && eqb (length z.now) 2048) _ (and_both _ _ (eq-eqb _ 2048 l) (eq-eqb _ 2048 k)) (eq-eqb _ 1024 m)))
