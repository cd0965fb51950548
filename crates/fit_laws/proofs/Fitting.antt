-- A loss keeps a state fit to be written and read back: feeding records back loses nothing.
use mathlib.Core.Path.{◌≡◌, refl, ap, sym, subst, ◌∙◌}
use mathlib.Core.Bool.{Bool, true, false, not}
use mathlib.Core.List.{List}
use Prim.Native.Nat.{ℕ, zero, suc, ◌+◌, ◌-◌, ◌^◌, ◌<◌, ◌≤◌}
use native.Mathlib.Omega.{arith}
use lib.ListN.{length, get_or, drop, length-append, length-drop}
use lib.Dec.{eqb}
use lib.Ieee.{Float}
use borrow.Author.Tests.{eqb-false, not-true}
use Rattle.loops.specs.Logic.{cond_either}
use Rattle.history.specs.History.{half, samples, channel, Tails, tails, tail_at, newest}
use Rattle.settings.specs.Settings.{frame, stereo, check_settings}
use Rattle.state.specs.State.{core, noisy, searches}
use Rattle.state.specs.Refusal.{check_count, refuses_state, refusal}
use Rattle.state.specs.declared.State.{State}
use Rattle.settings.proofs.Passed.{or-zero, passes, passed}
use Rattle.state.proofs.Keep.{Ok, ok-start}
use Rattle.pitch_fit.specs.Fit.{order, pitch_fit, length-pitch_fit}
use Rattle.pitch_predictor.specs.Predictor.{fitted_to}
use Rattle.pitch_lag.specs.Lag.{lag_of}
use Rattle.noise_energies.specs.Energies.{length-lower_energies}
use Rattle.noise_loss.specs.Loss.{noise_blocks, noise_seed}
use Rattle.deemphasis.specs.Deemphasis.{length_memories}
use Rattle.finish.proofs.End.{accepted_state}
use Rattle.finish.specs.declared.Made.{Made}
use Rattle.loss.specs.Loss.{
  lowered,
  blocks,
  noise_made,
  pitch_made,
  made,
  tails_by_noise,
  tails_by_pitch,
  tails_after,
  history_after,
  frame_sound,
  finish,
  concealed,
  refused,
  answered,
  loss,
}
use Rattle.loss.proofs.Fields.{made_lag}
use Rattle.loss.proofs.Keep.{after-length}
use Rattle.loss.proofs.Laws.{block-draws}
use Rattle.loss.proofs.Lags.{lag_high}
use Rattle.state_words.specs.Words.{head_words}
use Rattle.record_laws.specs.StateBack.{Fit}
use Rattle.fit_laws.specs.Values.{AllSingle, all-index, index-all, all-slice, all-cond}
use Rattle.fit_laws.proofs.Steps.{lowered-single, memories_single, fitted_single, TailsSingle, pitches_single, noises_single, with-single, draws-word}

-- a word of 32 bits
Word : ℕ → Type 0
Word n = n < 2 ^ 32

tails-single : (h : List Float) → AllSingle h → TailsSingle (tails h)
unfolding tails tail_at
tails-single h a = record {
  first = record { new = all-slice half samples h a; over = all-slice samples channel h a };
  second = record { new = all-slice (channel + half) (channel + samples) h a; over = all-slice (channel + samples) (channel + channel) h a };
}

newest-most : (two : Bool) (n : ℕ) (h : List Float) → length (newest two n h) ≤ 2
unfolding newest
newest-most true n h = omega arith
newest-most false n h = omega arith

module _ (s : State) (h : List Float) (fit : Fit s h) (o : Ok s h) (c : check_count s.loss_count ≡ 0) where
  count_word : Word (s.loss_count + 1)
  unfolding Word head_words
  count_word =
      let n = eqb-false s.loss_count 4294967295 (not-true _ (passes (not (eqb s.loss_count 4294967295)) 5 c)) in
      omega (arith, fit.words 5, n)

  seed_word : Word (made s h).seed
  unfolding Word made noise_made pitch_made noise_seed blocks noise_blocks head_words
  seed_word =
      let k = s.settings in
      let start = (passed k o.settings).start in
      let one = subst Word (sym (block-draws k s.seed _ start)) (draws-word _ _ (fit.words 6)) in
      cond_either (λ (m : Made). Word m.seed) (noisy (core s)) (noise_made s) (pitch_made s h)
      (cond_either Word (stereo k) _ _ (subst Word (sym (block-draws k _ _ start)) (draws-word _ _ one)) one)
      (fit.words 6)

  lag_word : Word (made s h).lag
  unfolding Word head_words
  lag_word =
      subst Word (sym (made_lag s h))
      (cond_either Word (searches s) (lag_of (stereo s.settings) h) s.lag (omega (arith, lag_high (stereo s.settings) h)) (fit.words 7))

  words-after : (i : ℕ) → get_or (head_words (concealed s h).state) i 0 < 2 ^ 32
  unfolding Word head_words concealed finish
  words-after zero = fit.words 0
  words-after (suc zero) = fit.words 1
  words-after (suc (suc zero)) = fit.words 2
  words-after (suc (suc (suc zero))) = fit.words 3
  words-after (suc (suc (suc (suc zero)))) = fit.words 4
  words-after (suc (suc (suc (suc (suc zero))))) = count_word
  words-after (suc (suc (suc (suc (suc (suc zero)))))) = seed_word
  words-after (suc (suc (suc (suc (suc (suc (suc zero))))))) = lag_word
  words-after (suc (suc (suc (suc (suc (suc (suc (suc i)))))))) = fit.words (suc (suc (suc (suc (suc (suc (suc (suc i))))))))

  -- what stands in each list, and how many
  coarse-single : AllSingle (made s h).coarse
  unfolding made noise_made pitch_made lowered
  coarse-single =
      let a = index-all s.coarse fit.coarse in
      cond_either (λ (m : Made). AllSingle m.coarse) (noisy (core s)) (noise_made s) (pitch_made s h) (lowered-single _ _ _ _ s.coarse a) a

  coarse-length : length (made s h).coarse ≡ 50
  unfolding made noise_made pitch_made lowered
  coarse-length =
      cond_either (λ (m : Made). length m.coarse ≡ 50) (noisy (core s)) (noise_made s) (pitch_made s h)
      (length-lower_energies _ _ _ _ s.coarse ∙ fit.coarse-size) fit.coarse-size

  predictor_single : AllSingle (made s h).predictor
  unfolding made noise_made pitch_made
  predictor_single =
      let a = index-all s.predictor fit.predictor in
      cond_either (λ (m : Made). AllSingle m.predictor) (noisy (core s)) (noise_made s) (pitch_made s h) a
      (all-cond (searches s) _ s.predictor (fitted_single (stereo s.settings) s.predictor (tails h) a) a)

  fitted_length : (two : Bool) (t : Tails) → length (fitted_to two s.predictor t) ≡ 48
  unfolding fitted_to
  fitted_length two t =
      length-append (pitch_fit t.first.new) _
      ∙ omega (
        arith,
        length-pitch_fit t.first.new,
        cond_either (λ x. length x ≡ 24) two (pitch_fit t.second.new) (drop order s.predictor) (length-pitch_fit t.second.new)
            (length-drop order s.predictor ∙ ap (λ n. n - 24) fit.predictor_size),
      )

  predictor_length : length (made s h).predictor ≡ 48
  unfolding made noise_made pitch_made
  predictor_length =
      cond_either (λ (m : Made). length m.predictor ≡ 48) (noisy (core s)) (noise_made s) (pitch_made s h) fit.predictor_size
      (cond_either (λ x. length x ≡ 48) (searches s) _ s.predictor (fitted_length (stereo s.settings) (tails h)) fit.predictor_size)

  history_single : AllSingle (history_after s h)
  unfolding history_after tails_after tails_by_noise tails_by_pitch blocks
  history_single =
      let a = index-all h fit.history in
      let t = tails-single h a in
      with-single h _ a
      (cond_either TailsSingle (noisy (core s)) _ _
      (noises_single (stereo s.settings) (frame s.settings) s.settings _ _ (tails h) t)
      (pitches_single (stereo s.settings) (frame s.settings) _ _ _ s.filter (tails h) t))

  memories_after : AllSingle (frame_sound s.settings s.memories (history_after s h)).memories
  unfolding frame_sound
  memories_after = memories_single _ _ s.memories (index-all s.memories fit.memories)

  memories_length : length (frame_sound s.settings s.memories (history_after s h)).memories ≡ 2
  unfolding frame_sound
  memories_length =
      let k = s.settings in
      length_memories k.downsample (newest (stereo k) (frame k) (history_after s h)) s.memories
      (omega (arith, newest-most (stereo k) (frame k) (history_after s h), fit.memories_size))
      ∙ fit.memories_size

  fit-concealed : Fit (concealed s h).state (concealed s h).history
  unfolding concealed finish
  fit-concealed = record {
    words = words-after;
    gain = fit.gain;
    coarse = all-index _ coarse-single;
    background = fit.background;
    memories = all-index _ memories_after;
    predictor = all-index _ predictor_single;
    history = all-index _ history_single;
    coarse-size = coarse-length;
    background_size = fit.background_size;
    memories_size = memories_length;
    predictor_size = predictor_length;
    history_size = after-length s h o;
  }

passed-count : (s : State) (h : List Float) → refuses_state s (length h) ≡ 0 → check_count s.loss_count ≡ 0
unfolding refuses_state
passed-count s h e = (or-zero (check_count s.loss_count) _ (or-zero (check_settings s.settings) _ e).1).0

-- whatever the call: what it leaves is fit where what it took was
pub stays_fit : (s : State) (h : List Float) (p : ℕ) → Fit s h → Fit (loss s h p).state (loss s h p).history
unfolding loss answered refused
stays_fit s h p fit = go (refusal s (length h) p) (accepted_state s _ _)
  where
    go : (n : ℕ) → (n ≡ 0 → refuses_state s (length h) ≡ 0) → Fit (answered n s h).state (answered n s h).history
    go zero f = fit-concealed s h fit (ok-start s h (f refl)) (passed-count s h (f refl))
    go (suc n) f = fit
