-- Words written one after the other, four bytes at a time.
use mathlib.Core.Path.{◌≡◌, refl, ap, ap₂, ◌∙◌, sym}
use mathlib.Core.Bool.{Bool, true, false}
use mathlib.Core.List.{List, [], ◌∷◌, ◌++◌}
use Prim.Native.Nat.{ℕ, suc, min, ◌+◌, ◌*◌, ◌/◌, ◌%◌, ◌≤◌, ◌<◌}
use native.Mathlib.Omega.{arith}
use native.Mathlib.Nat.{div-one}
use Rattle.std.proofs.Common.{append_assoc, None, Some, true≢false}
use Rattle.std.specs.Prelude.{Result, Err, is_ok}
use Rattle.reply.specs.declared.Refused.{Refused}
use lib.ListN.{length, get_or}
use Rattle.std.specs.Int.{w32, to_le_bytes}
use Rattle.std.specs.Simd.{first_chunks}
use Rattle.std.specs.Option.{MatchOption}
use Rattle.std.specs.Slice.{IsItemAt}
use Rattle.std.specs.declared.option.Option.{Option}
use denote.Bor.{Bor}
use lib.Dec.{leb}
use borrow.Author.Tests.{le-leb, lt-leb, leb-true, leb-false}
use Rattle.loops.specs.Chunks.{chunk_at}
use Rattle.loops.specs.Part.{put, put_next}
use Rattle.reply.specs.Reply.{reply, reply_if, replied, reply-lent, reply-taken}
use Rattle.loops.specs.Pick.{pick_true, pick-false}
use Rattle.loops.specs.Front.{tab, length-tab, front, tab-none, tab-all}
use Rattle.words.specs.Bytes.{holds, word_at, byte_of, bytes_by}

-- a call that takes what it was given is not refused
pub never : {A V G : Type 0} (b : Bool) (x was : A) {y : A} {r : Result V Refused} {e : Refused} → replied r y ≡ reply_if b x was → b ≡ true
    → r ≡ Err e → G
never b x was q t f = absurd (true≢false (sym (reply-taken b x was q ∙ t) ∙ ap is_ok f))

module _ (b : List ℕ) (i : ℕ) where
  pub holds-true : (n : ℕ) → 4 * (i + n) ≤ length b → holds b i n ≡ true
  unfolding holds
  holds-true n l = le-leb (4 * (i + n)) (length b) l

  pub holds-false : (n : ℕ) → length b < 4 * (i + n) → holds b i n ≡ false
  unfolding holds
  holds-false n l = lt-leb (4 * (i + n)) (length b) l

  -- what is written where there is room
  pub put-held : (n : ℕ) (x : List ℕ) {t : Bool} {y : List ℕ} → reply t y ≡ reply_if (holds b i n) x b → 4 * (i + n) ≤ length b → y ≡ x
  put-held n x e l = reply-lent (holds b i n) x b e (holds-true n l)

  pub put-taken : (n : ℕ) (x : List ℕ) {t : Bool} {y : List ℕ} → reply t y ≡ reply_if (holds b i n) x b → 4 * (i + n) ≤ length b → t ≡ true
  put-taken n x e l = reply-taken (holds b i n) x b e ∙ holds-true n l

  pub word-past : length b < 4 * (i + 1) → word_at b i ≡ 0
  unfolding word_at
  word-past l = pick-false (holds b i 1) _ 0 (holds-false 1 l)

  pub word_in : 4 * (i + 1) ≤ length b
      → word_at b i ≡ get_or b (4 * i) 0 + 256 * get_or b (4 * i + 1) 0 + 65536 * get_or b (4 * i + 2) 0 + 16777216 * get_or b (4 * i + 3) 0
  unfolding word_at
  word_in l = pick_true (holds b i 1) _ 0 (holds-true 1 l)

  -- of its bytes
  pub word_of_bytes : (n : ℕ) (w : List ℕ) → i < n → n ≡ length b / 4 → w ≡ get_or (first_chunks 4 n b) i []
      → get_or w 0 0 + get_or w 1 0 * 256 + get_or w 2 0 * 65536 + get_or w 3 0 * 16777216 ≡ word_at b i
  word_of_bytes n w h e q =
      let d : (j : ℕ) → j < 4 → get_or w j 0 ≡ get_or b (4 * i + j) 0 =
      λ j l. ap (λ z. get_or z j 0) q ∙ chunk_at 4 n i j 0 b h l in
      let z : 4 * i + 0 ≡ 4 * i = omega arith in
      let d0 : get_or w 0 0 ≡ get_or b (4 * i) 0 = d 0 (omega arith) ∙ ap (λ k. get_or b k 0) z in
      omega (arith, d0, d 1 (omega arith), d 2 (omega arith), d 3 (omega arith), word_in (omega arith))

  -- of its bytes, where it has been looked for
  pub word_found : (o : Option (Bor (List ℕ))) (r : ℕ) (ws : List (List ℕ)) (P : Bor (List ℕ) → Type 0) → ws ≡ first_chunks 4 (length b / 4) b
      → length ws ≡ length b / 4 → IsItemAt ws i o → MatchOption o (r ≡ 0) P
      → ((x : Bor (List ℕ)) → P x → r ≡ get_or x.now 0 0 + get_or x.now 1 0 * 256 + get_or x.now 2 0 * 65536 + get_or x.now 3 0 * 16777216) → r ≡ word_at b i
  word_found None r ws P q l h m e = m ∙ sym (word-past (omega (arith, l, h.3)))
  word_found (Some x) r ws P q l h m e = e x m ∙ word_of_bytes (length b / 4) x.now (omega (arith, l, h.3.0)) refl (h.4 (omega arith) [] ∙ ap (λ z. get_or z i []) q)

-- past the last word every word reads the same
word_same : (b : List ℕ) (i m n : ℕ) → length b ≤ n → m ≡ min i n → word_at b m ≡ word_at b i
word_same b i m n l e = go (leb i n) refl
  where
    go : (c : Bool) → leb i n ≡ c → word_at b m ≡ word_at b i
    go true t = let h : i ≤ n = leb-true i n t in let q : m ≡ i = omega arith in ap (word_at b) q
    go false t =
        let h : n < i = leb-false i n t in
        word-past b m (omega arith) ∙ sym (word-past b i (omega arith))

-- the value of a word whose number was added to as far as it goes
pub value_same : {A : Type 0} (f : ℕ → A) (b : List ℕ) (i m n w : ℕ) (v : A) → length b ≤ n → m ≡ min i n → w ≡ word_at b m → v ≡ f w
    → v ≡ f (word_at b i)
value_same f b i m n w v l e p q = q ∙ ap f (p ∙ word_same b i m n l e)

pub length-bytes : (w : ℕ → ℕ) (n : ℕ) → length (bytes_by w n) ≡ 4 * n
unfolding bytes_by
length-bytes w n = length-tab _ (4 * n)

after_four : (xs : List ℕ) (a b c d : ℕ) → (((xs ++ (a ∷ [])) ++ (b ∷ [])) ++ (c ∷ [])) ++ (d ∷ []) ≡ xs ++ (a ∷ b ∷ c ∷ d ∷ [])
after_four xs a b c d = simp append_assoc

bytes_by-more : (w : ℕ → ℕ) (i : ℕ) → bytes_by w i ++ to_le_bytes w32 (w i) ≡ bytes_by w (i + 1)
unfolding bytes_by tab byte_of
bytes_by-more w i =
    let f : ℕ → ℕ = λ (q : ℕ). byte_of (w (q / 4)) (q % 4) in
    let s : suc (suc (suc (suc (4 * i)))) ≡ 4 * (i + 1) = omega arith in
    let at : (q j : ℕ) → i ≡ q / 4 → j ≡ q % 4 → byte_of (w i) j ≡ f q = λ q j e r. ap₂ (λ a b. byte_of (w a) b) e r in
    let d0 : w i % 256 ≡ f (4 * i) = ap (λ z. z % 256) (sym (div-one (w i))) ∙ at (4 * i) 0 (omega arith) (omega arith) in
    let d1 = at (suc (4 * i)) 1 (omega arith) (omega arith) in
    let d2 = at (suc (suc (4 * i))) 2 (omega arith) (omega arith) in
    let d3 = at (suc (suc (suc (4 * i)))) 3 (omega arith) (omega arith) in
    (λ k. tab f (4 * i) ++ (d0 k ∷ d1 k ∷ d2 k ∷ d3 k ∷ []))
    ∙ sym (after_four (tab f (4 * i)) _ _ _ _)
    ∙ ap (tab f) s

module _ (w : ℕ → ℕ) (xs : List ℕ) where
  pub bytes-none : xs ≡ front (bytes_by w 0) xs 0
  unfolding bytes_by
  bytes-none = tab-none _ xs

  pub bytes-all : (b : List ℕ) (n : ℕ) → b ≡ front (bytes_by w n) xs (4 * n) → length xs ≡ 4 * n → b ≡ bytes_by w n
  unfolding bytes_by
  bytes-all b n e l = tab-all _ 0 xs b (4 * n) e l ∙ ap (tab _) l

  -- one word more
  pub bytes_more : (b y : List ℕ) (i v n : ℕ) → b ≡ front (bytes_by w i) xs (4 * i) → y ≡ to_le_bytes w32 v → v ≡ w i → n ≡ 4
      → put (4 * i) n y b ≡ front (bytes_by w (i + 1)) xs (4 * (i + 1))
  bytes_more b y i v n e ye is four =
      let s : 4 * i + 4 ≡ 4 * (i + 1) = omega arith in
      let z : put (4 * i) n y b ≡ put (4 * i) 4 (to_le_bytes w32 (w i)) (front (bytes_by w i) xs (4 * i)) =
      λ j. put (4 * i) (four j) ((ye ∙ ap (to_le_bytes w32) is) j) (e j) in
      z ∙ put_next (4 * i) 4 (bytes_by w i) _ xs (length-bytes w i)
      ∙ ap₂ (λ u k. front u xs k) (bytes_by-more w i) s

-- a part that came back, by equal ends
pub part-back : (at n m : ℕ) (b y z : List ℕ) → n ≡ m → y ≡ z → put at n y b ≡ put at m z b
part-back at n m b y z e f = ap₂ (λ k l. put at k l b) e f
