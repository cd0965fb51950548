-- De-emphasis of a history's newest frame never refuses an accepted call.
use mathlib.Core.Path.{◌≡◌, ap, ap₂, sym, ◌∙◌, subst}
use mathlib.Core.Bool.{Bool, true, false}
use mathlib.Core.List.{List, [], ◌∷◌}
use Prim.Native.Nat.{ℕ, ◌+◌, ◌*◌, ◌-◌, ◌/◌, ◌%◌, ◌≤◌}
use native.Mathlib.Omega.{arith}
use lib.ListN.{length, take, drop}
use lib.Seq.{slice, length-slice}
use lib.Dec.{lit≤}
use lib.Ieee.{Float}
use borrow.Author.Tests.{le-leb, eq-eqb, eqb-true}
use Rattle.loops.specs.Logic.{and_both}
use Rattle.reply.specs.Reply.{reply, reply_if, reply-lent, reply-taken, reply-yes}
use Rattle.history.specs.History.{samples, channel, whole, both, newest}
use Rattle.history.proofs.Parts.{slice-take}
use Rattle.settings.specs.Settings.{frame, stereo, check_settings, block_factor, needed}
use Rattle.settings.specs.declared.Settings.{Settings}
use Rattle.settings.proofs.Passed.{one-channel, frame_is, frame-high, frame_divides, downsample_low, needed-is}
use Rattle.deemphasis.specs.Deemphasis.{Sound, has_room, deemphasis, deemphasised, deemphasis_mono, deemphasis_stereo}
use Rattle.frame_sound.specs.FrameSound.{frame_sound, sound_in}

-- a step that took what it was given, where the call takes it
pub yes : {A : Type 0} (b : Bool) (x was : A) {t : Bool} {y : A} → b ≡ true → (t ≡ true) × (y ≡ x) → reply t y ≡ reply_if b x was
yes b x was {y = y} q p = ap (λ z. reply z y) p.0 ∙ reply-yes b x was q p.1

room_fits : (d n room : ℕ) → 1 ≤ d → n % d ≡ 0 → n / d ≤ room → has_room d n room ≡ true
unfolding has_room
room_fits d n room p q r = simp (le-leb 1 d p, eq-eqb (n % d) 0 q, le-leb (n / d) room r)

module _ (k : Settings) (good : check_settings k ≡ 0) (h : List Float) (l : length h ≡ whole) (n : ℕ) (is : n ≡ 120 * block_factor k.lm) where
  size : n ≡ frame k
  size = frame_is k good n is

  pub high : n ≤ 960
  high = omega (arith, frame-high k good, size)

  -- the newest n samples of a channel that ends at e, as they are lent
  abbrev lent : ℕ → List Float
  lent e = take (e - (e - n)) (drop (e - n) h)

  lent_is : (e : ℕ) → 960 ≤ e → e ≤ whole → lent e ≡ slice (e - frame k) e h
  lent_is e p q =
      let r : e - n + (e - (e - n)) ≡ e = omega (arith, high) in
      sym (slice-take (e - n) (e - (e - n)) h (omega (arith, high))) ∙ ap₂ (λ u v. slice (e - u) v h) size r

  lent_length : (e : ℕ) → 960 ≤ e → e ≤ whole → length (lent e) ≡ frame k
  lent_length e p q = ap length (lent_is e p q) ∙ length-slice (e - frame k) e h (omega arith) ∙ omega (arith, high, size)

  fits : (v : List Float) (room : ℕ) → length v ≡ frame k → frame k / k.downsample ≤ room → has_room k.downsample (length v) room ≡ true
  fits v room e f =
      room_fits k.downsample (length v) room (downsample_low k good) (ap (λ z. z % k.downsample) e ∙ frame_divides k good)
      (subst (λ z. z / k.downsample ≤ room) (sym e) f)

  module _ (m p : List Float) (room : needed k ≤ length p) where
    needs : (c : ℕ) → k.channels ≡ c → c * (frame k / k.downsample) ≤ length p
    needs c e = subst (λ z. z * (frame k / k.downsample) ≤ length p) e (subst (λ z. z ≤ length p) (needed-is k good) room)

    pub mono-sound : stereo k ≡ false → {t : Bool} {y : Sound}
        → reply t y ≡ deemphasis_mono k.downsample (lent samples) m p → (t ≡ true) × (y ≡ sound_in p (frame_sound k m h))
    unfolding deemphasis_mono deemphasised sound_in frame_sound newest stereo
    mono-sound c e =
        let f = fits (lent samples) (length p) (lent_length samples (lit≤ tt) (lit≤ tt)) (omega (arith, needs 1 (one-channel k good c))) in (
          reply-taken _ _ _ e ∙ f,
          reply-lent _ _ _ e f
              ∙ ap (λ vs. sound_in p (deemphasis k.downsample vs m))
              (ap (λ v. v ∷ []) (lent_is samples (lit≤ tt) (lit≤ tt))
              ∙ ap (λ z. both z (slice (samples - frame k) samples h) (slice (channel + samples - frame k) (channel + samples) h)) (sym c)),
        )

    pub stereo-sound : stereo k ≡ true → {t : Bool} {y : Sound}
        → reply t y ≡ deemphasis_stereo k.downsample (lent samples) (lent (channel + samples)) m p → (t ≡ true) × (y ≡ sound_in p (frame_sound k m h))
    unfolding deemphasis_stereo deemphasised sound_in frame_sound newest stereo
    stereo-sound c e =
        let lv = lent_length samples (lit≤ tt) (lit≤ tt) in
        let lw = lent_length (channel + samples) (lit≤ tt) (lit≤ tt) in
        let f = fits (lent samples) (length p / 2) lv (omega (arith, needs 2 (eqb-true k.channels 2 c))) in
        let g = and_both _ _ (eq-eqb (length (lent samples)) (length (lent (channel + samples))) (lv ∙ sym lw)) f in (
          reply-taken _ _ _ e ∙ g,
          reply-lent _ _ _ e g
              ∙ ap (λ vs. sound_in p (deemphasis k.downsample vs m))
              (ap₂ (λ v w. v ∷ w ∷ []) (lent_is samples (lit≤ tt) (lit≤ tt)) (lent_is (channel + samples) (lit≤ tt) (lit≤ tt))
              ∙ ap (λ z. both z (slice (samples - frame k) samples h) (slice (channel + samples - frame k) (channel + samples) h)) (sym c)),
        )
