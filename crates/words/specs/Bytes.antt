-- 32-bit words and floats as bytes, the lowest first.
use Rattle.std.specs.Prelude.{◌≡◌, refl, Bool, cond, map, List, ℕ, ◌+◌, ◌*◌, ◌/◌, ◌%◌, ◌^◌, length, get_or, leb, Float}
use Rattle.std.specs.Float.{nan, binary32}
use Rattle.std.specs.Float.Ieee.{of_bits, to_bits}
use Rattle.std.proofs.Common.{◌<◌, ap, ◌∙◌, arith}
use Rattle.std.proofs.lemmas.List.{get_or-map, length-map, map-id}
use Rattle.loops.specs.Front.{tab, tab-same}

-- n whole words from the one numbered i on
unfoldable pub holds : List ℕ → ℕ → ℕ → Bool
holds b i n = leb (4 * (i + n)) (length b)

-- the word numbered i, 0 past the last whole one
unfoldable pub word_at : List ℕ → ℕ → ℕ
word_at b i =
    cond (holds b i 1) (get_or b (4 * i) 0 + 256 * get_or b (4 * i + 1) 0 + 65536 * get_or b (4 * i + 2) 0 + 16777216 * get_or b (4 * i + 3) 0) 0

-- the n floats from the word numbered i on; every NaN's word is NaN
unfoldable pub floats_at : List ℕ → ℕ → ℕ → List Float
floats_at b i n = tab (λ (k : ℕ). of_bits binary32 (word_at b (i + k))) n

-- what n words hold from the one numbered i on, the value of each by f
unfoldable pub values_at : {A : Type 0} → (ℕ → A) → List ℕ → ℕ → ℕ → List A
values_at f b i n = tab (λ (k : ℕ). f (word_at b (i + k))) n

pub floats_are_values : (b : List ℕ) (i n : ℕ) → values_at (of_bits binary32) b i n ≡ floats_at b i n
unfolding values_at floats_at
floats_are_values b i n = refl

-- byte j of a word
unfoldable pub byte_of : ℕ → ℕ → ℕ
byte_of w j = w / 256 ^ j % 256

-- the bytes of the words w 0, w 1, .. w (n - 1)
unfoldable pub bytes_by : (ℕ → ℕ) → ℕ → List ℕ
bytes_by w n = tab (λ (q : ℕ). byte_of (w (q / 4)) (q % 4)) (4 * n)

abbrev pub words_bytes : List ℕ → List ℕ
words_bytes ws = bytes_by (λ (i : ℕ). get_or ws i 0) (length ws)

-- a NaN leaves as 7FC00000
abbrev pub floats_bytes : List Float → List ℕ
floats_bytes xs = bytes_by (λ (i : ℕ). to_bits binary32 (get_or xs i nan)) (length xs)

-- the bytes of values, the word of each by f
abbrev pub values_bytes : {A : Type 0} → (A → ℕ) → List A → List ℕ
values_bytes f xs = words_bytes (map f xs)

pub words_are_values : (ws : List ℕ) → values_bytes (λ (w : ℕ). w) ws ≡ words_bytes ws
words_are_values ws = ap words_bytes (map-id ws)

pub float-bytes_are_values : (xs : List Float) → values_bytes (to_bits binary32) xs ≡ floats_bytes xs
unfolding bytes_by
float-bytes_are_values xs =
    let w : ℕ → ℕ = λ (i : ℕ). get_or (map (to_bits binary32) xs) i 0 in
    let l : length (map (to_bits binary32) xs) ≡ length xs = length-map xs (to_bits binary32) in
    ap (bytes_by w) l
    ∙ tab-same _ _ (4 * length xs) (λ q h. let k : q / 4 < length xs = omega arith in ap (λ z. byte_of z (q % 4)) (get_or-map (to_bits binary32) xs (q / 4) nan 0 k))
