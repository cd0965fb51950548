-- What the steps of a pitch loss make of the tails.
use mathlib.Core.Path.{◌≡◌, ap, ◌∙◌, sym}
use mathlib.Core.Bool.{Bool, true, false}
use mathlib.Core.List.{List, ◌++◌}
use Prim.Native.Nat.{ℕ, ◌+◌, ◌*◌, ◌≤◌}
use native.Mathlib.Omega.{arith}
use lib.Dec.{eqb, leb}
use lib.ListN.{length, take, drop, length-drop}
use lib.Seq.{length-take-le, take_at}
use lib.Ieee.{Float}
use borrow.Author.Tests.{eqb-true, leb-true, eq-eqb, ne_eqb, le-leb}
use Rattle.loops.specs.Logic.{and-true, and_first, and_second, cond_either}
use Rattle.loops.specs.Part.{put}
use Rattle.reply.specs.Reply.{reply, reply_if, reply-lent}
use Rattle.history.specs.History.{half, overlap, channel, whole, Tail, Tails, tail_at, tails, with_tails, tail_list, tail_of}
use Rattle.history.specs.History as History
use Rattle.history.proofs.Parts.{TailSized, Sized, slice-take, tails-sized, lent-first, lent-second, tail_of-list, with-length, tails-with, put_first, put_both}
use Rattle.plc_iir_pair.specs.Pair.{channels}
use Rattle.post_filter.specs.declared.Filter.{Filter}
use Rattle.post_filter.specs.Limits.{filter_fits}
use Rattle.settings.specs.declared.Settings.{Settings}
use Rattle.settings.specs.Settings.{frame, stereo, check_settings, block_factor}
use Rattle.settings.proofs.Passed.{frame_is, frame-high}
use Rattle.state.specs.Refusal.{lag_least, lag_most}
use Rattle.periodic_copy.specs.Copy.{cycle_takes}
use Rattle.extrapolate.proofs.Steps.{pair-takes}
use Rattle.extrapolate.specs.Extrapolate.{order, longest, extrapolated, length-extrapolated, extrapolate_takes, extrapolate_pair_takes}
use Rattle.take_in.specs.TakeIn.{longest_frame, extra, tail_after, tail_takes}
use Rattle.take_in.proofs.Frame.{after-sized, tail-takes}
use Rattle.pitch_loss.specs.PitchLoss.{pitch_tail, pitch_tails, pitch_takes}

-- ---- sizes

pub pitch_sized : (n : ℕ) (t : Tail) (lag : ℕ) (first : Bool) (c : List Float) (f : Filter) → n ≤ longest_frame → TailSized t
    → TailSized (pitch_tail n t lag first c f)
unfolding pitch_tail
pitch_sized n t lag first c f h z = after-sized n _ f t (length-extrapolated (n + extra) t.new lag first c) h z

pub pitches_sized : (two : Bool) (n lag : ℕ) (first : Bool) (c : List Float) (f : Filter) (t : Tails) → n ≤ longest_frame → Sized t
    → Sized (pitch_tails two n lag first c f t)
unfolding pitch_tails
pitches_sized two n lag first c f t h z = record {
  first = pitch_sized n t.first lag first (take order c) f h z.first;
  second = cond_either TailSized two _ t.second (pitch_sized n t.second lag first (drop order c) f h z.second) z.second;
}

-- ---- the buffers

pub frame-room : (n k : ℕ) → n ≤ longest_frame → k ≡ longest → n + extra ≤ k
frame-room n k l p = omega arith

pub front-size : (n : ℕ) (e : List Float) → n ≤ longest_frame → length e ≡ longest → length (take (n + extra) e) ≡ n + extra
front-size n e l p = length-take-le (n + extra) e (frame-room n (length e) l p)

front-is : (m : ℕ) (e x z : List Float) → e ≡ x → length x ≡ m → take m (e ++ z) ≡ x
front-is m e x z p l = ap (λ w. take m (w ++ z)) p ∙ take_at x z m l

-- ---- a channel continued

module _ (n lag : ℕ) (first : Bool) (h c : List Float) (ln : n ≤ longest_frame) (lh : length h ≡ whole) (low : lag_least ≤ lag) (high : lag ≤ lag_most) where
  new-first : take half (drop half h) ≡ (tails h).first.new
  unfolding tails tail_at
  new-first = sym (slice-take half half h (omega arith))

  new-second : take half (drop (channel + half) h) ≡ (tails h).second.new
  unfolding tails tail_at
  new-second = sym (slice-take (channel + half) half h (omega arith))

  first-size : length (take half (drop half h)) ≡ half
  first-size = ap length new-first ∙ (tails-sized h lh).first.new

  second-size : length (take half (drop (channel + half) h)) ≡ half
  second-size = ap length new-second ∙ (tails-sized h lh).second.new

  taken : (m s : ℕ) → m ≡ n + extra → s ≡ half → extrapolate_takes m s lag ≡ true
  unfolding extrapolate_takes cycle_takes
  taken m s p q = simp (le-leb m longest (omega arith), eq-eqb s half q, le-leb 1 lag (omega arith), le-leb lag half (omega arith))

  -- e: what an extrapolation of new makes of the front of e₀
  follows : (e e₀ x new c₀ d : List Float) → e ≡ extrapolated (length (take (n + extra) e₀)) x lag first c₀ → length e₀ ≡ longest → x ≡ new → c₀ ≡ d
      → take (n + extra) (e ++ drop (n + extra) e₀) ≡ extrapolated (n + extra) new lag first d
  follows e e₀ x new c₀ d g l p q =
      front-is (n + extra) e (extrapolated (n + extra) new lag first d) (drop (n + extra) e₀) (g ∙ (λ i. extrapolated (front-size n e₀ ln l i) (p i) lag first (q i)))
      (length-extrapolated (n + extra) new lag first d)

  pub one-takes : (e₀ : List Float) → length e₀ ≡ longest → extrapolate_takes (length (take (n + extra) e₀)) (length (take half (drop half h))) lag ≡ true
  one-takes e₀ l = taken _ _ (front-size n e₀ ln l) first-size

  pub one_follows : (e₀ e c₀ : List Float) (b : Bool) → length e₀ ≡ longest → c₀ ≡ take order c
      → reply b e
      ≡ reply_if (extrapolate_takes (length (take (n + extra) e₀)) (length (take half (drop half h))) lag)
      (extrapolated (length (take (n + extra) e₀)) (take half (drop half h)) lag first c₀) (take (n + extra) e₀)
      → take (n + extra) (e ++ drop (n + extra) e₀) ≡ extrapolated (n + extra) (tails h).first.new lag first (take order c)
  one_follows e₀ e c₀ b l q r =
      let g = reply-lent _ _ _ r (one-takes e₀ l) in
      follows e e₀ _ _ c₀ _ g l new-first q

  pub both-take : (e₀ d₀ : List Float) → length e₀ ≡ longest → length d₀ ≡ longest
      → extrapolate_pair_takes (length (take (n + extra) e₀)) (length (take (n + extra) d₀)) (length (take half (drop half h)))
      (length (take half (drop (channel + half) h))) lag lag
      ≡ true
  both-take e₀ d₀ l m =
      pair-takes _ _ _ _ lag lag (front-size n e₀ ln l ∙ sym (front-size n d₀ ln m)) (one-takes e₀ l) (taken _ _ (front-size n d₀ ln m) second-size)

  pub both_follow : (e₀ d₀ e d c₀ k₀ : List Float) (b : Bool) → length e₀ ≡ longest → length d₀ ≡ longest
      → c₀ ≡ take order c → k₀ ≡ drop order c
      → reply b (channels e d)
      ≡ reply_if
      (extrapolate_pair_takes (length (take (n + extra) e₀)) (length (take (n + extra) d₀)) (length (take half (drop half h)))
      (length (take half (drop (channel + half) h))) lag lag)
      (channels (extrapolated (length (take (n + extra) e₀)) (take half (drop half h)) lag first c₀)
      (extrapolated (length (take (n + extra) d₀)) (take half (drop (channel + half) h)) lag first k₀))
      (channels (take (n + extra) e₀) (take (n + extra) d₀))
      → (take (n + extra) (e ++ drop (n + extra) e₀) ≡ extrapolated (n + extra) (tails h).first.new lag first (take order c))
      × (take (n + extra) (d ++ drop (n + extra) d₀) ≡ extrapolated (n + extra) (tails h).second.new lag first (drop order c))
  both_follow e₀ d₀ e d c₀ k₀ b l m p q r =
      let g = reply-lent _ _ _ r (both-take e₀ d₀ l m) in (
        follows e e₀ _ _ c₀ _ (ap (λ v. v.first) g) l new-first p,
        follows d d₀ _ _ k₀ _ (ap (λ v. v.second) g) m new-second q,
      )

-- ---- a frame taken in

module _ (n : ℕ) (f : Filter) (t e : List Float) (lt : length t ≡ half + overlap) (ln : n ≤ longest_frame) (le : length e ≡ longest) (fits : filter_fits f ≡ true) where
  pub part-takes : tail_takes (length t) n (length (take (n + extra) e)) f ≡ true
  part-takes = tail-takes _ n _ f lt ln (front-size n e ln le) fits

  pub taken_in : (y : List Float) (b : Bool)
      → reply b y ≡ reply_if (tail_takes (length t) n (length (take (n + extra) e)) f) (tail_list (tail_after n (take (n + extra) e) f (tail_of t))) t
      → y ≡ tail_list (tail_after n (take (n + extra) e) f (tail_of t))
  taken_in y b r = reply-lent _ _ _ r part-takes

-- a part of a channel's size
pub part-size : (at k : ℕ) (h : List Float) → k ≡ half + overlap → at + (half + overlap) ≤ length h → length (take k (drop at h)) ≡ half + overlap
part-size at k h p l = ap (λ j. length (take j (drop at h))) p ∙ length-take-le (half + overlap) (drop at h) (omega (arith, length-drop at h))

-- it stands again where it was lent
pub part-back : (at k n : ℕ) (f : Filter) (h x t : List Float) → k ≡ half + overlap → t ≡ tail_list (tail_after n x f (tail_of (take k (drop at h))))
    → put at k t h ≡ put at (half + overlap) (tail_list (tail_after n x f (tail_of (take (half + overlap) (drop at h))))) h
part-back at k n f h x t p e =
    ap (λ w. put at k w h) e ∙ ap (λ j. put at j (tail_list (tail_after n x f (tail_of (take j (drop at h))))) h) p

-- ---- the tails of a history

module _ (n lag : ℕ) (first : Bool) (f : Filter) (h c : List Float) (lh : length h ≡ whole) (ln : n ≤ longest_frame) where
  -- the part that is lent holds channel 0's tail
  tail-first : tail_of (take (half + overlap) (drop half h)) ≡ (tails h).first
  tail-first = ap tail_of (lent-first h lh) ∙ tail_of-list (tails h).first (tails-sized h lh).first

  -- channel 1's tail still stands where channel 0's was replaced
  tail-second : (t : Tail) → TailSized t → tail_of (take (half + overlap) (drop (channel + half) (put half (half + overlap) (tail_list t) h))) ≡ (tails h).second
  tail-second t z =
      let u : Tails = record { first = t; second = (tails h).second } in
      let s : Sized u = record { first = z; second = (tails-sized h lh).second } in
      ap (λ w. tail_of (take (half + overlap) (drop (channel + half) w))) (put_first h lh t)
      ∙ ap tail_of (lent-second (with_tails h u) (with-length h u lh s))
      ∙ ap (λ (w : Tails). tail_of (tail_list w.second)) (tails-with h u lh s)
      ∙ tail_of-list (tails h).second (tails-sized h lh).second

  pub mono-is : (e h' : List Float) → take (n + extra) e ≡ extrapolated (n + extra) (tails h).first.new lag first (take order c)
      → h' ≡ put half (half + overlap) (tail_list (tail_after n (take (n + extra) e) f (tail_of (take (half + overlap) (drop half h))))) h
      → h' ≡ with_tails h (pitch_tails false n lag first c f (tails h))
  unfolding pitch_tail pitch_tails
  mono-is e h' p q =
      q ∙ (λ i. put half (half + overlap) (tail_list (tail_after n (p i) f (tail-first i))) h) ∙ put_first h lh (pitch_tail n (tails h).first lag first (take order c) f)

  pub stereo-is : (e d h₁ h' : List Float) → take (n + extra) e ≡ extrapolated (n + extra) (tails h).first.new lag first (take order c)
      → take (n + extra) d ≡ extrapolated (n + extra) (tails h).second.new lag first (drop order c)
      → h₁ ≡ put half (half + overlap) (tail_list (tail_after n (take (n + extra) e) f (tail_of (take (half + overlap) (drop half h))))) h
      → h' ≡ put (channel + half) (half + overlap) (tail_list (tail_after n (take (n + extra) d) f (tail_of (take (half + overlap) (drop (channel + half) h₁))))) h₁
      → h' ≡ with_tails h (pitch_tails true n lag first c f (tails h))
  unfolding pitch_tail pitch_tails
  stereo-is e d h₁ h' p q r s =
      let P : Tail = pitch_tail n (tails h).first lag first (take order c) f in
      let Q : Tail = pitch_tail n (tails h).second lag first (drop order c) f in
      let z : TailSized P = pitch_sized n (tails h).first lag first (take order c) f ln (tails-sized h lh).first in
      let g : h₁ ≡ put half (half + overlap) (tail_list P) h = r ∙ (λ i. put half (half + overlap) (tail_list (tail_after n (p i) f (tail-first i))) h) in
      s ∙ ap (λ w. put (channel + half) (half + overlap) (tail_list (tail_after n (take (n + extra) d) f (tail_of (take (half + overlap) (drop (channel + half) w))))) w)
      g
      ∙ (λ i. put (channel + half) (half + overlap) (tail_list (tail_after n (q i) f (tail-second P z i))) (put half (half + overlap) (tail_list P) h))
      ∙ put_both h P Q lh z

-- ---- by the settings

-- of two channels or one, a frame long; v: the history, lent as an array
pub used-is : (k : Settings) (two : Bool) (n lag : ℕ) (first : Bool) (f : Filter) (h v h' c : List Float) → check_settings k ≡ 0 → stereo k ≡ two
    → n ≡ 120 * block_factor k.lm → v ≡ h → h' ≡ with_tails v (pitch_tails two n lag first c f (tails v))
    → h' ≡ with_tails h (pitch_tails (stereo k) (frame k) lag first c f (tails h))
used-is k two n lag first f h v h' c good s p q e = e ∙ (λ i. with_tails (q i) (pitch_tails (sym s i) (frame_is k good n p i) lag first c f (tails (q i))))

pub frame-fits : (k : Settings) (n : ℕ) → check_settings k ≡ 0 → n ≡ 120 * block_factor k.lm → n ≤ longest_frame
frame-fits k n good p = omega (arith, frame_is k good n p, frame-high k good)

-- a history of that size is taken as the rest is, and of no other
pub takes-size : {b : Bool} (k : Settings) (size lag : ℕ) (f : Filter) → size ≡ History.whole → pitch_takes k History.whole lag f ≡ b → pitch_takes k size lag f ≡ b
takes-size k size lag f h e = ap (λ z. pitch_takes k z lag f) h ∙ e

pub refuses-size : (k : Settings) (size lag : ℕ) (f : Filter) → (size ≡ History.whole → ⊥) → pitch_takes k size lag f ≡ false
unfolding pitch_takes
refuses-size k size lag f h = and_second (eqb (check_settings k) 0) _ (and_first (eqb size History.whole) _ (ne_eqb size History.whole h))

-- what an accepted call may go by
pub record Fits (k : Settings) (size lag : ℕ) (f : Filter) : Type 0 where
  pub good : check_settings k ≡ 0
  pub whole : size ≡ History.whole
  pub lag_low : lag_least ≤ lag
  pub lag_high : lag ≤ lag_most
  pub filter : filter_fits f ≡ true

pub takes-fits : (k : Settings) (size lag : ℕ) (f : Filter) → pitch_takes k size lag f ≡ true → Fits k size lag f
unfolding pitch_takes
takes-fits k size lag f e =
    let a = and-true (eqb (check_settings k) 0) _ e in
    let b = and-true (eqb size History.whole) _ a.1 in
    let c = and-true (leb lag_least lag) _ b.1 in
    let d = and-true (leb lag lag_most) _ c.1 in
    record {
      good = eqb-true (check_settings k) 0 a.0;
      whole = eqb-true size History.whole b.0;
      lag_low = leb-true lag_least lag c.0;
      lag_high = leb-true lag lag_most d.0;
      filter = d.1;
    }
