-- Reading back a state's words gives the state again.
use Rattle.std.specs.Prelude.{◌≡◌, Bool, true, false, ℕ, zero, suc, ◌+◌, ◌^◌, ◌<◌, ◌≤◌, length, T, leb, Float}
use Rattle.std.proofs.Math.Path.{refl, ap}
use Rattle.std.proofs.Common.{ap₂, ◌∙◌, sym, subst, arith, lit<, leb-true, leb-false}
use mathlib.Core.List.{List, [], ◌∷◌, ◌++◌, append_assoc, append-nil}
use Rattle.std.proofs.Math.ListN.{get_or, length-append, get_or-append, get_or-eq_default}
use Rattle.std.proofs.Math.Seq.{get_or-append-add}
use Rattle.std.specs.Float.Ieee.{nan, binary32, fits, of_bits, to_bits}
use Rattle.std.specs.Float.Ieee.Bits.{of_bits-to_bits, to_bits-lt}
use Rattle.loops.specs.Front.{get_or-tab, tab-same, tab-list}
use Rattle.history.specs.History.{whole}
use Rattle.state.specs.declared.State.{State}
use Rattle.state_words.specs.Words.{state_length, floats_by, settings_by, filter_by, state_by, word_in, state_in, head_words, float_words, state_words}
use Rattle.state_words.proofs.Parts.{length-floats}
use Rattle.record_laws.specs.WordsBack.{Singles}

-- what a state of the code and its history always are: 32-bit words, f32 values, arrays of their lengths
pub record Fit (s : State) (h : List Float) : Type 0 where
  pub words : (i : ℕ) → get_or (head_words s) i 0 < 2 ^ 32
  pub gain : T (fits binary32 s.filter.gain)
  pub coarse : Singles s.coarse
  pub background : Singles s.background
  pub memories : Singles s.memories
  pub predictor : Singles s.predictor
  pub history : Singles h
  pub coarse-size : length s.coarse ≡ 50
  pub background_size : length s.background ≡ 50
  pub memories_size : length s.memories ≡ 2
  pub predictor_size : length s.predictor ≡ 48
  pub history_size : length h ≡ whole

module _ (xs : List Float) (good : Singles xs) where
  bits_at : (i : ℕ) → i < length xs → get_or (float_words xs) i 0 ≡ to_bits binary32 (get_or xs i nan)
  unfolding float_words
  bits_at i l = get_or-tab _ (length xs) i 0 l

  -- the floats among other words
  array_back : (pre post : List ℕ) (k : ℕ) → length pre ≡ k → floats_by (word_in (pre ++ (float_words xs ++ post))) k (length xs) ≡ xs
  unfolding floats_by
  array_back pre post k at =
      tab-same _ _ (length xs)
      (λ i l. ap (of_bits binary32)
      (ap (λ z. get_or (pre ++ (float_words xs ++ post)) (z + i) 0) (sym at) ∙ get_or-append-add pre (float_words xs ++ post) i 0
      ∙ get_or-append (float_words xs) post 0 i (omega (arith, length-floats xs)) ∙ bits_at i l)
      ∙ of_bits-to_bits binary32 (get_or xs i nan) (good i l))
      ∙ tab-list nan xs

  -- each is a word
  bits-word : (i : ℕ) → get_or (float_words xs) i 0 < 2 ^ 32
  bits-word i = go (leb (length xs) i) refl
    where
      go : (b : Bool) → leb (length xs) i ≡ b → get_or (float_words xs) i 0 < 2 ^ 32
      go true e =
          let past : length (float_words xs) ≤ i = omega (arith, length-floats xs, leb-true (length xs) i e) in
          subst (λ n. n < 2 ^ 32) (sym (get_or-eq_default (float_words xs) 0 {n = i} past)) (lit< tt)
      go false e =
          let l : i < length xs = leb-false (length xs) i e in
          subst (λ n. n < 2 ^ 32) (sym (bits_at i l)) (to_bits-lt binary32 (get_or xs i nan) (good i l))

-- words of two lists are words of both together
both_words : (xs ys : List ℕ) → ((i : ℕ) → get_or xs i 0 < 2 ^ 32) → ((i : ℕ) → get_or ys i 0 < 2 ^ 32) → (i : ℕ) → get_or (xs ++ ys) i 0 < 2 ^ 32
both_words [] ys f g i = g i
both_words (x ∷ xs) ys f g zero = f zero
both_words (x ∷ xs) ys f g (suc i) = both_words xs ys (λ j. f (suc j)) g i

module _ (s : State) (h : List Float) (fit : Fit s h) where
  abbrev W : List ℕ
  W = head_words s

  abbrev C : List ℕ
  C = float_words s.coarse

  abbrev B : List ℕ
  B = float_words s.background

  abbrev M : List ℕ
  M = float_words s.memories

  abbrev P : List ℕ
  P = float_words s.predictor

  pub state-words : (i : ℕ) → get_or (state_words s) i 0 < 2 ^ 32
  unfolding state_words
  state-words =
      both_words (W ++ (C ++ B)) (M ++ P)
      (both_words W (C ++ B) fit.words (both_words C B (bits-word s.coarse fit.coarse) (bits-word s.background fit.background)))
      (both_words M P (bits-word s.memories fit.memories) (bits-word s.predictor fit.predictor))

  lw : length W ≡ 11
  unfolding head_words
  lw = refl

  lc : length C ≡ 50
  lc = length-floats s.coarse ∙ fit.coarse-size

  lb : length B ≡ 50
  lb = length-floats s.background ∙ fit.background_size

  lm : length M ≡ 2
  lm = length-floats s.memories ∙ fit.memories_size

  lp : length P ≡ 48
  lp = length-floats s.predictor ∙ fit.predictor_size

  pub length-state-words : length (state_words s) ≡ state_length
  unfolding state_words
  length-state-words =
      omega (arith, lw, lc, lb, lm, lp, length-append (W ++ (C ++ B)) (M ++ P), length-append W (C ++ B), length-append C B, length-append M P)

  -- the words, taken apart at each array
  at-coarse : state_words s ≡ W ++ (C ++ (B ++ (M ++ P)))
  unfolding state_words
  at-coarse = append_assoc W (C ++ B) (M ++ P) ∙ ap (λ z. W ++ z) (append_assoc C B (M ++ P))

  at_background : state_words s ≡ (W ++ C) ++ (B ++ (M ++ P))
  at_background = at-coarse ∙ sym (append_assoc W C (B ++ (M ++ P)))

  at_memories : state_words s ≡ ((W ++ C) ++ B) ++ (M ++ P)
  at_memories = at_background ∙ sym (append_assoc (W ++ C) B (M ++ P))

  at_predictor : state_words s ≡ (((W ++ C) ++ B) ++ M) ++ (P ++ [])
  at_predictor = at_memories ∙ sym (append_assoc ((W ++ C) ++ B) M P) ∙ ap (λ z. (((W ++ C) ++ B) ++ M) ++ z) (sym (append-nil P))

  floats : (xs : List Float) (pre post : List ℕ) (k n : ℕ) → Singles xs → length pre ≡ k → length xs ≡ n → state_words s ≡ pre ++ (float_words xs ++ post)
      → floats_by (word_in (state_words s)) k n ≡ xs
  floats xs pre post k n g l m e = ap₂ (λ y z. floats_by (word_in y) k z) e (sym m) ∙ array_back xs g pre post k l

  two : length (W ++ C) ≡ 61
  two = length-append W C ∙ ap₂ ◌+◌ lw lc

  three : length ((W ++ C) ++ B) ≡ 111
  three = length-append (W ++ C) B ∙ ap₂ ◌+◌ two lb

  four : length (((W ++ C) ++ B) ++ M) ≡ 113
  four = length-append ((W ++ C) ++ B) M ∙ ap₂ ◌+◌ three lm

  pub words_back : state_in (state_words s) ≡ s
  unfolding state_by settings_by filter_by state_words head_words
  words_back = λ i. record {
    settings = s.settings;
    loss_count = s.loss_count;
    seed = s.seed;
    lag = s.lag;
    filter = record { gain = of_bits-to_bits binary32 s.filter.gain fit.gain i; period = s.filter.period; tapset = s.filter.tapset };
    coarse = floats s.coarse W (B ++ (M ++ P)) 11 50 fit.coarse lw fit.coarse-size at-coarse i;
    background = floats s.background (W ++ C) (M ++ P) 61 50 fit.background two fit.background_size at_background i;
    memories = floats s.memories ((W ++ C) ++ B) P 111 2 fit.memories three fit.memories_size at_memories i;
    predictor = floats s.predictor (((W ++ C) ++ B) ++ M) [] 113 48 fit.predictor four fit.predictor_size at_predictor i;
  }
