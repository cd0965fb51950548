-- A record's bytes, part by part.
use mathlib.Core.Path.{◌≡◌, ap, ap₂, ◌∙◌}
use mathlib.Core.List.{List, ◌++◌, append-nil}
use Prim.Native.Nat.{ℕ, ◌+◌, ◌*◌}
use native.Mathlib.Omega.{arith}
use lib.ListN.{length, drop_of_length-le}
use lib.Ieee.{Float, binary32, to_bits}
use Rattle.loops.specs.Part.{put, put_front, put_next}
use Rattle.loops.specs.Front.{front}
use Rattle.state.specs.declared.State.{State}
use Rattle.words.specs.Bytes.{words_bytes, floats_bytes, values_bytes, words_are_values, float-bytes_are_values}
use Rattle.words.proofs.Laws.{length-bytes}
use Rattle.state_words.specs.Words.{state_length, state_words}
use Rattle.record.specs.Record.{state_bytes, record_of}

-- a record's bytes: the words of its state, and the history's behind them
pub record-parts : (s : State) (xs : List Float) (n : ℕ) (w h b d : List ℕ) → w ≡ state_words s → length w ≡ state_length
    → b ≡ put 0 (4 * length w) (values_bytes (λ (x : ℕ). x) w) h → d ≡ put 644 n (values_bytes (to_bits binary32) xs) b → length h ≡ 644 + n → d ≡ record_of s xs
unfolding record_of state_bytes front
record-parts s xs n w h b d e l p q k =
    let m : 4 * length w ≡ 644 = omega arith in
    let u : b ≡ front (words_bytes w) h 644 = p ∙ ap₂ (λ z y. put 0 z y h) m (words_are_values w) ∙ put_front 644 (words_bytes w) h in
    q ∙ ap₂ (λ y z. put 644 n y z) (float-bytes_are_values xs) u ∙ put_next 644 n (words_bytes w) (floats_bytes xs) h (length-bytes _ (length w) ∙ m)
    ∙ ap (λ z. (words_bytes w ++ floats_bytes xs) ++ z) (drop_of_length-le h {i = 644 + n} (omega arith)) ∙ append-nil _
    ∙ ap (λ z. words_bytes z ++ floats_bytes xs) e
