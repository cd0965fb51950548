-- A state's words, written part by part.
use Rattle.std.proofs.Common.{◌≡◌, List, ◌++◌, ℕ, ◌+◌, length, drop, refl, ap, ◌∙◌, arith, length-append, drop_of_length-le}
use mathlib.Core.List.{append-nil}
use Rattle.loops.specs.Part.{put, put_next}
use Rattle.loops.specs.Front.{front}
use Rattle.state.specs.declared.State.{State}
use Rattle.state_words.specs.Words.{state_length, head_words, float_words, state_words}
use Rattle.state_words.proofs.Parts.{length-floats}

-- the three parts of a state
pub all-parts : (s : State) (h ws y z : List ℕ) → ws ≡ head_words s
    → y ≡ float_words s.coarse ++ float_words s.background
    → z ≡ float_words s.memories ++ float_words s.predictor
    → length s.coarse ≡ 50 → length s.background ≡ 50 → length h ≡ state_length
    → put 111 50 z (put 11 100 y (ws ++ drop 11 h)) ≡ state_words s
unfolding state_words head_words front
all-parts s h ws y z e q r k l n =
    let w = head_words s in
    let b = float_words s.coarse ++ float_words s.background in
    let t = float_words s.memories ++ float_words s.predictor in
    let lb : length b ≡ 100 = omega (arith, length-append (float_words s.coarse) (float_words s.background), length-floats s.coarse, length-floats s.background) in
    (λ i. put 111 50 (r i) (put 11 100 (q i) (e i ++ drop 11 h)))
    ∙ ap (put 111 50 t) (put_next 11 100 w b h refl)
    ∙ put_next 111 50 (w ++ b) t h (length-append w b ∙ ap (λ u. 11 + u) lb)
    ∙ ap (λ u. ((w ++ b) ++ t) ++ u) (drop_of_length-le h {i = 161} (omega arith)) ∙ append-nil _
