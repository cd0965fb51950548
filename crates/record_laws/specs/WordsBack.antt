-- Reading back the words and the floats that were written gives the same again.
use Rattle.std.specs.Prelude.{◌≡◌, List, ◌++◌, T, Float}
use Rattle.std.proofs.Math.Path.{ap, ap₂}
use Rattle.std.proofs.Common.{◌∙◌, sym, div-one, mod-eq_of_lt, length-append, lit<}
use Prim.Native.Nat.{ℕ, ◌+◌, ◌*◌, ◌/◌, ◌%◌, ◌^◌, ◌<◌, ◌≤◌}
use native.Mathlib.Omega.{arith}
use Rattle.std.proofs.Math.Nat.{div-div-eq-div-mul}
use Rattle.std.proofs.Math.ListN.{length, get_or, get_or-append}
use Rattle.std.proofs.Math.Seq.{get_or-append-add}
use Rattle.std.specs.Float.Ieee.{nan, binary32, fits, of_bits, to_bits}
use Rattle.std.specs.Float.Ieee.Bits.{of_bits-to_bits, to_bits-lt}
use Rattle.loops.specs.Front.{get_or-tab, tab-same, tab-list}
use Rattle.words.specs.Bytes.{word_at, byte_of, bytes_by, floats_at, floats_bytes}
use Rattle.words.proofs.Laws.{length-bytes, word_in}

by_digits : (x : ℕ) → x < 2 ^ 32
    → x % 256 + 256 * (x / 256 % 256) + 65536 * (x / 256 / 256 % 256) + 16777216 * (x / 256 / 256 / 256 % 256) ≡ x
by_digits x l =
    let p : 256 * (x / 256) + x % 256 ≡ x = omega arith in
    let q : 256 * (x / 256 / 256) + x / 256 % 256 ≡ x / 256 = omega arith in
    let r : 256 * (x / 256 / 256 / 256) + x / 256 / 256 % 256 ≡ x / 256 / 256 = omega arith in
    let s : x / 256 / 256 / 256 % 256 ≡ x / 256 / 256 / 256 = mod-eq_of_lt (omega arith) in
    omega arith

-- a word is its four bytes
digits : (x : ℕ) → x < 2 ^ 32 → byte_of x 0 + 256 * byte_of x 1 + 65536 * byte_of x 2 + 16777216 * byte_of x 3 ≡ x
unfolding byte_of
digits x l =
    let a = x / 256 in
    let b = a / 256 in
    let p : x / 65536 ≡ b = sym (div-div-eq-div-mul x 256 256) in
    let q : x / 16777216 ≡ b / 256 = sym (ap (λ z. z / 256) (div-div-eq-div-mul x 256 256) ∙ div-div-eq-div-mul x 65536 256) in
    let e : x % 256 + 256 * (a % 256) + 65536 * (b % 256) + 16777216 * (b / 256 % 256) ≡ x = by_digits x l in
    (λ t. div-one x t % 256 + 256 * (a % 256) + 65536 * (p t % 256) + 16777216 * (q t % 256)) ∙ e

module _ (w : ℕ → ℕ) (n : ℕ) (pre post : List ℕ) (k : ℕ) (at : length pre ≡ 4 * k) where
  byte_at : (i j : ℕ) → i < n → j < 4 → get_or (pre ++ (bytes_by w n ++ post)) (4 * (k + i) + j) 0 ≡ byte_of (w i) j
  unfolding bytes_by
  byte_at i j l m =
      let q : 4 * (k + i) + j ≡ length pre + (4 * i + j) = omega arith in
      let f : ℕ → ℕ = λ (r : ℕ). byte_of (w (r / 4)) (r % 4) in
      let d : (4 * i + j) / 4 ≡ i = omega arith in
      let r : (4 * i + j) % 4 ≡ j = omega arith in
      let z : 4 * i + j < length (bytes_by w n) = omega (arith, length-bytes w n) in
      ap (λ p. get_or (pre ++ (bytes_by w n ++ post)) p 0) q
      ∙ get_or-append-add pre (bytes_by w n ++ post) (4 * i + j) 0
      ∙ get_or-append (bytes_by w n) post 0 (4 * i + j) z
      ∙ get_or-tab f (4 * n) (4 * i + j) 0 (omega arith)
      ∙ ap₂ (λ u v. byte_of (w u) v) d r

  -- the word numbered k + i of bytes that were written from word k on
  pub word_back : (i : ℕ) → i < n → w i < 2 ^ 32 → word_at (pre ++ (bytes_by w n ++ post)) (k + i) ≡ w i
  word_back i l h =
      let b = pre ++ (bytes_by w n ++ post) in
      let z : 4 * (k + i) ≡ 4 * (k + i) + 0 = omega arith in
      let p0 : get_or b (4 * (k + i)) 0 ≡ byte_of (w i) 0 = ap (λ q. get_or b q 0) z ∙ byte_at i 0 l (lit< tt) in
      let p1 = byte_at i 1 l (lit< tt) in
      let p2 = byte_at i 2 l (lit< tt) in
      let p3 = byte_at i 3 l (lit< tt) in
      let room : 4 * (k + i + 1) ≤ length b = omega (arith, length-append pre (bytes_by w n ++ post), length-append (bytes_by w n) post, length-bytes w n) in
      word_in b (k + i) room ∙ (λ t. p0 t + 256 * p1 t + 65536 * p2 t + 16777216 * p3 t) ∙ digits (w i) h

-- f32 values
abbrev pub Singles : List Float → Type 0
Singles xs = (i : ℕ) → i < length xs → T (fits binary32 (get_or xs i nan))

module _ (xs : List Float) (good : Singles xs) (pre post : List ℕ) (k : ℕ) (at : length pre ≡ 4 * k) where
  pub floats-back : floats_at (pre ++ (floats_bytes xs ++ post)) k (length xs) ≡ xs
  unfolding floats_at
  floats-back =
      tab-same _ _ (length xs)
      (λ i l. ap (of_bits binary32) (word_back (λ (j : ℕ). to_bits binary32 (get_or xs j nan)) (length xs) pre post k at i l
      (to_bits-lt binary32 (get_or xs i nan) (good i l)))
      ∙ of_bits-to_bits binary32 (get_or xs i nan) (good i l))
      ∙ tab-list nan xs
