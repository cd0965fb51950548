-- The head's bytes, part by part.
use mathlib.Core.Path.{◌≡◌, refl, ap, ap₂, ◌∙◌, sym, subst}
use mathlib.Core.Bool.{true}
use mathlib.Core.List.{List, [], ◌∷◌, ◌++◌}
use Prim.Native.Nat.{ℕ, ◌+◌, ◌*◌, ◌≤◌}
use native.Mathlib.Omega.{arith}
use lib.ListN.{length, get_or, take, length-append}
use lib.Dec.{leb, eqb}
use lib.Ieee.{Float, binary32, to_bits}
use lib.Seq.{take-length}
use Rattle.std.proofs.lemmas.Bool.Decides.{nat_tests}
use borrow.Author.Tests.{eq-eqb, ne_eqb, le-leb}
use Rattle.loops.specs.Front.{front}
use Rattle.loops.specs.Logic.{cond_either}
use Rattle.loops.specs.Part.{put, put_front, put_next}
use Rattle.loops.specs.Pick.{pick_true}
use Rattle.words.specs.Bytes.{words_bytes, floats_bytes, values_bytes, float-bytes_are_values}
use Rattle.words.proofs.Laws.{length-bytes}
use Rattle.answer_head.specs.Head.{samples_most, report_length, head_most, cut_of, Headed, headed, headed_by, head_fits, head_written, answer_tail}

-- three words, and then the samples
head-parts : (a b c : ℕ) (xs : List Float) (h y z : List ℕ) → y ≡ put 0 12 (words_bytes (a ∷ b ∷ c ∷ [])) h
    → z ≡ put 12 (4 * length xs) (floats_bytes xs) y → headed (12 + 4 * length xs) z ≡ headed_by (words_bytes (a ∷ b ∷ c ∷ []) ++ floats_bytes xs) h
head-parts a b c xs h y z p q =
    let w = words_bytes (a ∷ b ∷ c ∷ []) in
    let x = floats_bytes xs in
    let lw : length w ≡ 12 = length-bytes _ 3 in
    let lx : length x ≡ 4 * length xs = length-bytes _ _ in
    let count : 12 + 4 * length xs ≡ length (w ++ x) = omega (arith, length-append w x) in
    let bytes : z ≡ front (w ++ x) h (12 + 4 * length xs) =
    q ∙ ap (put 12 (4 * length xs) x) (p ∙ put_front 12 w h) ∙ put_next 12 (4 * length xs) w x h lw in
    ap₂ headed count (bytes ∙ ap (front (w ++ x) h) count)

-- there is room for a head
pub head-fits : (n m : ℕ) → head_most ≤ m → n ≤ samples_most → head_fits n n m ≡ true
unfolding head_fits
head-fits n m p q = grind (arith, nat_tests)

module _ (number kind : ℕ) (pcm : List Float) (h : List ℕ) (fits : head_fits (length pcm) (length pcm) (length h) ≡ true) where
  -- all the samples
  pub head-all : head_written number kind (length pcm) pcm h ≡ headed_by (words_bytes (number ∷ kind ∷ length pcm ∷ []) ++ floats_bytes pcm) h
  unfolding head_written
  head-all =
      let n = length pcm in
      pick_true (head_fits n n (length h)) (headed_by (words_bytes (number ∷ kind ∷ n ∷ []) ++ floats_bytes (take n pcm)) h) (headed 0 h) fits
      ∙ ap (λ z. headed_by (words_bytes (number ∷ kind ∷ n ∷ []) ++ floats_bytes z) h) (take-length pcm)

  pub head-written : (y z : List ℕ) → y ≡ put 0 12 (values_bytes (λ (x : ℕ). x) (number ∷ kind ∷ length pcm ∷ [])) h
      → z ≡ put 12 (4 * length pcm) (values_bytes (to_bits binary32) pcm) y → headed (12 + 4 * length pcm) z ≡ head_written number kind (length pcm) pcm h
  head-written y z p q = head-parts number kind (length pcm) pcm h y z p (q ∙ ap (λ x. put 12 (4 * length pcm) x y) (float-bytes_are_values pcm)) ∙ sym head-all

-- what is left past the last whole record
module _ (n : ℕ) (h : List ℕ) (room : report_length ≤ length h) where
  pub tail_none : n ≡ 0 → headed 0 h ≡ answer_tail n h
  unfolding answer_tail cut_of front
  tail_none e = simp (le-leb report_length (length h) room, eq-eqb n 0 e) refl

  pub tail-cut : (n ≡ 0 → ⊥) → (z : List ℕ) → z ≡ put 0 12 (words_bytes (11 ∷ 0 ∷ 0 ∷ [])) h → headed 12 z ≡ answer_tail n h
  unfolding answer_tail cut_of
  tail-cut f z e =
      let w = words_bytes (11 ∷ 0 ∷ 0 ∷ []) in
      let k : length w ≡ 12 = length-bytes _ 3 in
      simp (le-leb report_length (length h) room, ne_eqb n 0 f) (ap₂ headed (sym k) (e ∙ put_front 12 w h ∙ ap (front w h) (sym k)))

cut_most : (n : ℕ) → length (cut_of n) ≤ report_length
unfolding cut_of
cut_most n =
    cond_either (λ x. length x ≤ report_length) (eqb n 0) [] (words_bytes (11 ∷ 0 ∷ 0 ∷ [])) (omega arith)
    (omega (arith, length-bytes (λ (i : ℕ). get_or (11 ∷ 0 ∷ 0 ∷ []) i 0) 3))

pub tail-most : (r n : ℕ) (z h : List ℕ) → headed r z ≡ answer_tail n h → r ≤ report_length
unfolding answer_tail
tail-most r n z h e =
    subst (λ m. m ≤ report_length) (ap (λ a. a.count) (sym e))
    (cond_either (λ (a : Headed). a.count ≤ report_length) (leb report_length (length h)) _ _ (cut_most n) (omega arith))
