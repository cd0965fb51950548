-- What an accepted call knows, and what its end leaves.
use mathlib.Core.Path.{◌≡◌, refl, ap, ap₂, sym, ◌∙◌}
use mathlib.Core.Bool.{Bool, true, not}
use mathlib.Core.List.{List}
use Prim.Native.Nat.{ℕ, zero, suc, ◌≤◌, ◌<◌}
use native.Mathlib.Omega.{arith}
use lib.ListN.{length}
use lib.Dec.{leb, eqb}
use lib.Ieee.{Float}
use borrow.Author.Tests.{leb-true, eqb-false, not-true}
use Rattle.loops.specs.Front.{front}
use Rattle.reply.specs.Reply.{reply, reply_if, reply-lent, reply-taken}
use Rattle.settings.specs.Settings.{needed}
use Rattle.std.specs.Prelude.{Result, Err}
use Rattle.settings.specs.Number.{number_of}
use Rattle.settings.specs.declared.Refusal.{Refusal}
use Rattle.settings.proofs.Passed.{or-zero, passes}
use Rattle.settings.proofs.Table.{number_low}
use Rattle.state.specs.declared.Answer.{Answer}
use Rattle.state.specs.Refusal.{check_count, check_pcm, refuses_state, refusal}
use Rattle.state.specs.declared.State.{State}
use Rattle.state.proofs.Keep.{ok-start}
use Rattle.deemphasis.specs.Deemphasis.{Sound, sound}
use Rattle.frame_sound.specs.FrameSound.{sound_takes}
use Rattle.frame_sound.proofs.Takes.{takes_all}
use Rattle.finish.specs.Finish.{Outcome, outcome_of, frame_sound, finish_with, finish, refused, in_buffer, sound_in, finished_by, finished}
use Rattle.finish.specs.declared.Made.{Made}

module _ (s : State) (n p : ℕ) (z : refusal s n p ≡ 0) where
  pub accepted_state : refuses_state s n ≡ 0
  unfolding refusal
  accepted_state = (or-zero (refuses_state s n) (check_pcm (needed s.settings) p) z).0

  pub accepted_room : needed s.settings ≤ p
  unfolding refusal
  accepted_room =
      leb-true (needed s.settings) p
      (passes (leb (needed s.settings) p) 9 (or-zero (refuses_state s n) (check_pcm (needed s.settings) p) z).1)

  pub accepted_count : s.loss_count < 4294967296 → s.loss_count < 4294967295
  unfolding refuses_state
  accepted_count l =
      let q = (or-zero (check_count s.loss_count) _ (or-zero _ _ accepted_state).1).0 in
      let e = not-true (eqb s.loss_count 4294967295) (passes (not (eqb s.loss_count 4294967295)) 5 q) in
      omega (arith, eqb-false s.loss_count 4294967295 e)

-- so its frame's sound is made
pub heard : (s : State) (h p : List Float) (t : Bool) (y : Sound) → refusal s (length h) (length p) ≡ 0
    → reply t y ≡ reply_if (sound_takes s.settings (length h) (length p)) (sound_in p (frame_sound s.settings s.memories h)) (sound p s.memories)
    → (t ≡ true) × (y ≡ sound_in p (frame_sound s.settings s.memories h))
heard s h p t y z e =
    let o = ok-start s h (accepted_state s _ _ z) in
    let b = takes_all s.settings (length h) (length p) o.settings o.history (accepted_room s _ _ z) in
    (reply-taken _ _ _ e ∙ b, reply-lent _ _ _ e b)

-- the end of either path
pub finish-left : (s : State) (m : Made) (h p : List Float) (y : Sound) (n : ℕ)
    → y ≡ sound_in p (frame_sound s.settings s.memories h) → n ≡ needed s.settings → finish_with s m h y n ≡ in_buffer p (finish s m h)
unfolding finish in_buffer sound_in
finish-left s m h p y n e f = ap₂ (finish_with s m h) e f

-- a refused call, as its caller finds it
pub refused-is : (e : Refusal) (s : State) (h p : List Float) → outcome_of s (Err e) p h ≡ in_buffer p (refused (number_of e) s h)
unfolding refused in_buffer front
refused-is e s h p = refl

-- by a definition that takes a call's number
pub refused-as : (s : State) (h p : List Float) (f : ℕ → Outcome) → ((n : ℕ) → f (suc n) ≡ refused (suc n) s h)
    → (r : Result Answer Refusal) (e : Refusal) {n : ℕ} → r ≡ Err e → number_of e ≡ n → outcome_of s r p h ≡ in_buffer p (f n)
refused-as s h p f g r e q k =
    ap (λ z. outcome_of s z p h) q ∙ refused-is e s h p ∙ ap (in_buffer p) (refuses (number_of e) (number_low e) ∙ ap f k)
  where
    refuses : (n : ℕ) → (n ≡ 0 → ⊥) → refused n s h ≡ f n
    refuses zero z = absurd (z refl)
    refuses (suc n) z = sym (g n)

module _ (s : State) (m : Made) (h p : List Float) where
  pub finished_accepted : refusal s (length h) (length p) ≡ 0 → finish s m h ≡ finished s m h (length p)
  unfolding finished finished_by
  finished_accepted z = ap (λ n. finished_by n s m h) (sym z)

  -- concluded, as its caller finds it
  pub concluded : (o : Outcome) → o ≡ in_buffer p (finish s m h) → refusal s (length h) (length p) ≡ 0 → o ≡ in_buffer p (finished s m h (length p))
  concluded o e z = e ∙ ap (in_buffer p) (finished_accepted z)

  pub finished-refused : (r : Result Answer Refusal) (e : Refusal) → r ≡ Err e → number_of e ≡ refusal s (length h) (length p)
      → outcome_of s r p h ≡ in_buffer p (finished s m h (length p))
  unfolding finished finished_by
  finished-refused r e = refused-as s h p (λ n. finished_by n s m h) (λ n. refl) r e
