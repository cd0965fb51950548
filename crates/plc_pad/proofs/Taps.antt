-- the memory in a padded buffer, and what is read from it
use mathlib.Core.Path.{◌≡◌, refl, ap, ap₂, ◌∙◌, sym}
use mathlib.Core.Bool.{Bool, true, false, cond}
use mathlib.Core.List.{List, ◌++◌, reverse}
use Prim.Native.Nat.{ℕ, zero, suc, ◌+◌, ◌-◌, ◌≤◌, ◌<◌}
use native.Mathlib.Omega.{arith}
use lib.Dec.{eqb, ltb}
use lib.ListN.{length, get_or, take, drop, set, length-set, length-drop, length-append, length-reverse, replicate, length-replicate}
use lib.Seq.{get_or-take, get_or-drop, length-take-le, ext_get_or, get_or-set_same, get_or-set_other}
use Rattle.std.proofs.lemmas.List.{get_or-reverse, get_or_default}
use Rattle.std.proofs.lemmas.Slice.Zip.{length-zip, get_or-zip}
use Rattle.std.specs.List.{zip}
use lib.Ieee.{Float, nan, binary32, sub, mul}
use borrow.Author.Tests.{eqb-true, eqb-false, ltb-true, ltb-false}
use Rattle.std.proofs.lemmas.Bool.Decides.{nat_tests}
use Rattle.loops.specs.Part.{put}
use Rattle.loops.specs.PartRead.{put_before, put_inside, put_behind}
use Rattle.loops.specs.Fold.{fold_to, fold_same, fold_more, fold-keeps}
use Rattle.reply.specs.Reply.{reply, reply_if, reply-lent, reply-taken}
use Rattle.plc_pad.specs.Past.{past}
use Rattle.plc_pad.specs.Pad.{Remembers, Holds, remembered_to, remembered, pad_takes, tap, taps_taken}

-- the memory's place k written
remember_more : (mem pad : List Float) (k : ℕ) → ((i : ℕ) → i < k → get_or pad (23 - i) nan ≡ get_or mem i nan) → k < 24 → 24 ≤ length pad
    → (i : ℕ) → i < k + 1 → get_or (set pad (23 - k) (get_or mem k nan)) (23 - i) nan ≡ get_or mem i nan
remember_more mem pad k r h l i g = go (eqb i k) refl
  where
    go : (b : Bool) → eqb i k ≡ b → get_or (set pad (23 - k) (get_or mem k nan)) (23 - i) nan ≡ get_or mem i nan
    go true e =
        let q : i ≡ k = eqb-true i k e in
        ap (λ z. get_or (set pad (23 - k) (get_or mem k nan)) (23 - z) nan) q
        ∙ get_or-set_same pad (23 - k) (get_or mem k nan) nan (omega arith) ∙ ap (λ z. get_or mem z nan) (sym q)
    go false e =
        let f : i < k = omega (arith, eqb-false i k e) in
        get_or-set_other pad (23 - k) (23 - i) (get_or mem k nan) nan (λ p. eqb-false i k e (omega arith)) ∙ r i f

length_to : (mem pad : List Float) (n : ℕ) → length (remembered_to mem pad n) ≡ length pad
length_to mem pad n = fold-keeps length (λ (p : List Float) (k : ℕ). set p (23 - k) (get_or mem k nan)) pad n (λ s k. length-set s (23 - k) (get_or mem k nan))

-- the first n values of the memory stand there
remembers_to : (mem pad : List Float) (n : ℕ) → n ≤ 24 → 24 ≤ length pad → (i : ℕ) → i < n → get_or (remembered_to mem pad n) (23 - i) nan ≡ get_or mem i nan
unfolding fold_to
remembers_to mem pad zero h l i g = let z : ⊥ = omega arith in absurd z
remembers_to mem pad (suc n) h l i g =
    remember_more mem (remembered_to mem pad n) n (remembers_to mem pad n (omega arith) l) (omega arith) (omega (arith, length_to mem pad n)) i (omega arith)

-- what stands where none of them comes stays
kept_to : (mem pad : List Float) (n i : ℕ) → ((k : ℕ) → k < n → i ≡ 23 - k → ⊥) → get_or (remembered_to mem pad n) i nan ≡ get_or pad i nan
unfolding fold_to
kept_to mem pad zero i f = refl
kept_to mem pad (suc n) i f =
    get_or-set_other (remembered_to mem pad n) (23 - n) i (get_or mem n nan) nan (λ p. f n (omega arith) (omega arith))
    ∙ kept_to mem pad n i (λ k h. f k (omega arith))

-- the memory turned round before place 24
module _ (mem pad y : List Float) (m : length mem ≤ 24) (l : 24 ≤ length pad) (e : y ≡ reverse mem) where
  abbrev at : ℕ
  at = 24 - length mem

  size : length y ≡ length mem
  size = ap length e ∙ length-reverse mem

  before : length (take at pad) ≡ at
  before = length-take-le at pad (omega arith)

  put_read : (i : ℕ) → i < length (remembered_to mem pad (length mem)) → get_or (put at (length mem) y pad) i nan ≡ get_or (remembered_to mem pad (length mem)) i nan
  put_read i g = go (ltb i at) (ltb i 24) refl refl
    where
      go : (b c : Bool) → ltb i at ≡ b → ltb i 24 ≡ c → get_or (put at (length mem) y pad) i nan ≡ get_or (remembered_to mem pad (length mem)) i nan
      go true c p q = put_before at (length mem) y pad (omega arith) nan i (ltb-true i at p) ∙ sym (kept_to mem pad (length mem) i (λ k u v. omega (arith, ltb-true i at p)))
      go false true p q =
          let h : at ≤ i = ltb-false i at p in
          let h' : i < 24 = ltb-true i 24 q in
          let j : ℕ = i - at in
          let w : length mem - 1 - j ≡ 23 - i = omega arith in
          let w' : 23 - (23 - i) ≡ i = omega arith in
          put_inside at (length mem) y pad (omega arith) nan j i (omega arith) (omega (arith, size))
          ∙ ap (λ z. get_or z j nan) e ∙ get_or-reverse mem j nan (omega arith) ∙ ap (λ z. get_or mem z nan) w
          ∙ sym (remembers_to mem pad (length mem) m l (23 - i) (omega arith))
          ∙ ap (λ z. get_or (remembered_to mem pad (length mem)) z nan) w'
      go false false p q =
          let h : 24 ≤ i = ltb-false i 24 q in
          put_behind at (length mem) y pad (omega arith) nan i size (omega arith) ∙ sym (kept_to mem pad (length mem) i (λ k u v. omega arith))

  put_size : length (put at (length mem) y pad) ≡ length (remembered_to mem pad (length mem))
  put_size =
      omega (
        arith,
        length-append (take at pad) (y ++ drop (length mem) (drop at pad)),
        length-append y (drop (length mem) (drop at pad)),
        length-drop (length mem) (drop at pad),
        length-drop at pad,
        before,
        size,
        length_to mem pad (length mem),
      )

  put_all : put at (length mem) y pad ≡ remembered_to mem pad (length mem)
  put_all = ext_get_or nan _ _ put_size (λ i h. put_read i (omega (arith, put_size)))

pub remembered-put : (mem pad x y : List Float) (n : ℕ) → length mem ≤ 24 → 24 ≤ length pad → n ≡ length mem → x ≡ mem → y ≡ reverse x
    → put (24 - length mem) n y pad ≡ remembered mem pad
unfolding remembered
remembered-put mem pad x y n m l p q r =
    ap (λ z. put (24 - length mem) z y pad) p ∙ put_all mem pad y m l (r ∙ ap reverse q)

pad-takes : (pad mem : ℕ) → 24 ≤ pad → mem ≤ 24 → pad_takes pad mem ≡ true
pad-takes pad mem h l = grind (arith, nat_tests)

-- a new buffer of n takes the memory
pub remember-taken : {r : Bool} {y : List Float} (mem : List Float) (n : ℕ) (v : Float)
    → reply r y ≡ reply_if (pad_takes (length (replicate n v)) (length mem)) (remembered mem (replicate n v)) (replicate n v) → 24 ≤ n → length mem ≤ 24 → r ≡ true
remember-taken mem n v e h m =
    let l : length (replicate n v) ≡ n = length-replicate n v in
    reply-taken _ _ _ e ∙ pad-takes (length (replicate n v)) (length mem) (omega arith) m

-- what a call leaves of it remembers all of the memory
pub remembers_all : {r : Bool} {y : List Float} (mem : List Float) (n : ℕ) (v : Float)
    → reply r y ≡ reply_if (pad_takes (length (replicate n v)) (length mem)) (remembered mem (replicate n v)) (replicate n v) → 24 ≤ n → length mem ≤ 24 → Remembers y mem
unfolding remembered
remembers_all mem n v e h m k g =
    let l : length (replicate n v) ≡ n = length-replicate n v in
    let p : 24 ≤ length (replicate n v) = omega arith in
    ap (λ z. get_or z (23 - k) nan)
    (reply-lent (pad_takes (length (replicate n v)) (length mem)) (remembered mem (replicate n v)) (replicate n v) e
    (pad-takes (length (replicate n v)) (length mem) p m))
    ∙ remembers_to mem (replicate n v) (length mem) m p k g

-- a value behind sample i, of the memory or of the samples
pub reads-past : (xs mem pad : List Float) (n i j : ℕ) → Remembers pad mem → Holds pad xs n → i ≤ n → j < length mem → length mem ≤ 24
    → get_or pad (23 + i - j) nan ≡ past xs mem i j
reads-past xs mem pad n i j r w h l m = go (ltb j i) refl
  where
    go : (b : Bool) → ltb j i ≡ b → get_or pad (23 + i - j) nan ≡ cond b (get_or xs (i - 1 - j) nan) (get_or mem (j - i) nan)
    go true e =
        let f : j < i = ltb-true j i e in
        let p : 23 + i - j ≡ 24 + (i - 1 - j) = omega arith in
        ap (λ z. get_or pad z nan) p ∙ w (i - 1 - j) (omega arith)
    go false e =
        let f : i ≤ j = ltb-false j i e in
        let p : 23 + i - j ≡ 23 - (j - i) = omega arith in
        ap (λ z. get_or pad z nan) p ∙ r (j - i) (omega arith)

-- taps on the 24 values before place i of a longer buffer
pub taps-part : (den pad part : List Float) (i n : ℕ) (x : Float) → n ≡ 24 → part ≡ take n (drop i pad) → taps_taken den part 0 x 24 ≡ taps_taken den pad i x 24
taps-part den pad part i n x l e =
    fold_same (λ (s : Float) (j : ℕ). sub binary32 s (tap den part 0 j)) (λ (s : Float) (j : ℕ). sub binary32 s (tap den pad i j)) x 24
    (λ s j h.
    let p : i + (23 + 0 - j) ≡ 23 + i - j = omega arith in
    ap (λ z. sub binary32 s (mul binary32 (get_or den j nan) z))
    (ap (λ z. get_or z (23 + 0 - j) nan) e ∙ get_or-take n (drop i pad) (23 + 0 - j) nan (omega arith)
    ∙ get_or-drop i pad (23 + 0 - j) nan ∙ ap (λ z. get_or pad z nan) p))

-- the pair that taps and values, turned round, have at place k is one tap more
pub tap_more : (den past : List Float) (x y d v : Float) (k n : ℕ) → y ≡ taps_taken den past 0 x k → length den ≡ 24 → length past ≡ 24
    → k < length (zip den (reverse past)) → (d, v) ≡ get_or (zip den (reverse past)) k (d, v) → n ≡ k + 1
    → sub binary32 y (mul binary32 d v) ≡ taps_taken den past 0 x n
tap_more den past x y d v k n e l m h p q =
    let g : k < 24 = omega (arith, h, length-zip den (reverse past), length-reverse past) in
    let w : length past - 1 - k ≡ 23 + 0 - k = omega arith in
    let z = p ∙ get_or-zip den (reverse past) k (d, v) (omega arith) (omega (arith, length-reverse past)) in
    let a : d ≡ get_or den k nan = ap (λ u. u.0) z ∙ get_or_default den k d nan (omega arith) in
    let b : v ≡ get_or past (23 + 0 - k) nan =
    ap (λ u. u.1) z ∙ get_or_default (reverse past) k v nan (omega (arith, length-reverse past)) ∙ get_or-reverse past k nan (omega arith) ∙ ap (λ u. get_or past u nan) w in
    ap₂ (λ s t. sub binary32 y (mul binary32 s t)) a b ∙ fold_more (λ (s : Float) (j : ℕ). sub binary32 s (tap den past 0 j)) x y k e
    ∙ ap (taps_taken den past 0 x) (sym q)
