-- What the loops and the refusals of de-emphasis rest on.
use mathlib.Core.Path.{◌≡◌, refl, ap, ap₂, ◌∙◌, sym}
use mathlib.Core.List.{List, [], ◌∷◌, ◌++◌}
use mathlib.Core.Bool.{Bool, true, false, ◌&&◌}
use Prim.Native.Nat.{ℕ, ◌+◌, ◌*◌, ◌/◌, ◌%◌}
use native.Mathlib.Omega.{arith}
use lib.ListN.{length, get_or, drop, drop_of_length-le}
use lib.Dec.{leb, eqb}
use lib.Ieee.{Float, nan}
use borrow.Author.Tests.{leb-true, eqb-true, eq-eqb, ne_eqb}
use Rattle.loops.specs.Fold.{fold_more, fold-none}
use Rattle.loops.specs.Front.{tab, front, tab-same}
use Rattle.loops.specs.Logic.{and-true, and_first, and_second}
use Rattle.reply.specs.Reply.{reply, reply-yes, reply-no}
use Rattle.deemphasis.specs.Deemphasis.{next_memory, memory_to, pcm_value, sample_at, value_at, has_room, Room, sound, deemphasis, length_pcm}
use Rattle.deemphasis.specs.Deemphasis.{deemphasised, deemphasis_mono, deemphasis_stereo}

pub memory_none : (v : List Float) (mem : Float) → mem ≡ memory_to v mem 0
unfolding memory_to
memory_none v mem = sym (fold-none _ mem)

pub memory_more : (v : List Float) (mem m : Float) (j : ℕ) → m ≡ memory_to v mem j → next_memory m (get_or v j nan) ≡ memory_to v mem (j + 1)
unfolding memory_to
memory_more v mem m j e = fold_more (λ (m : Float) (j : ℕ). next_memory m (get_or v j nan)) mem m j e

module _ (d : ℕ) (v : List Float) (m : Float) (q : ℕ) where
  sample_is : (mem : Float) → mem ≡ memory_to v m (q * d) → pcm_value mem (get_or v (q * d) nan) ≡ sample_at v m (q * d)
  unfolding sample_at
  sample_is mem e = ap (λ z. pcm_value z (get_or v (q * d) nan)) e

  -- the value q of one channel
  pub value-mono : (mem : Float) (j : ℕ) → j ≡ q * d → mem ≡ memory_to v m j → pcm_value mem (get_or v j nan) ≡ value_at d (v ∷ []) (m ∷ []) q
  unfolding value_at
  value-mono mem j f e =
      let a : q % 1 ≡ 0 = omega arith in
      let b : q / 1 ≡ q = omega arith in
      ap (λ z. pcm_value mem (get_or v z nan)) f ∙ sample_is mem (e ∙ ap (memory_to v m) f)
      ∙ sym (ap₂ (λ x y. sample_at (get_or (v ∷ []) x []) (get_or (m ∷ []) x nan) (y * d)) a b)

-- the values 2 q and 2 q + 1 of two channels
module _ (d : ℕ) (v w memories : List Float) (q : ℕ) (mem : Float) (j : ℕ) (f : j ≡ q * d) where
  value-pair : (k c : ℕ) (x : List Float) → k % 2 ≡ c → k / 2 ≡ q → get_or (v ∷ w ∷ []) c [] ≡ x → mem ≡ memory_to x (get_or memories c nan) j
      → pcm_value mem (get_or x j nan) ≡ value_at d (v ∷ w ∷ []) memories k
  unfolding value_at
  value-pair k c x a b p e =
      ap (λ z. pcm_value mem (get_or x z nan)) f ∙ sample_is d x (get_or memories c nan) q mem (e ∙ ap (memory_to x (get_or memories c nan)) f)
      ∙ ap (λ z. sample_at z (get_or memories c nan) (q * d)) (sym p)
      ∙ sym (ap₂ (λ y z. sample_at (get_or (v ∷ w ∷ []) y []) (get_or memories y nan) (z * d)) a b)

  pub value-first : mem ≡ memory_to v (get_or memories 0 nan) j → pcm_value mem (get_or v j nan) ≡ value_at d (v ∷ w ∷ []) memories (2 * q)
  value-first e = value-pair (2 * q) 0 v (omega arith) (omega arith) refl e

  pub value-second : mem ≡ memory_to w (get_or memories 1 nan) j → pcm_value mem (get_or w j nan) ≡ value_at d (v ∷ w ∷ []) memories (2 * q + 1)
  value-second e = value-pair (2 * q + 1) 1 w (omega arith) (omega arith) refl e

-- lengths that fit, as facts
pub room : (d n r : ℕ) → has_room d n r ≡ true → Room d n r
unfolding has_room
room d n r e =
    let p = and-true (leb 1 d) _ e in
    let q = and-true (eqb (n % d) 0) _ p.1 in
    record { some = leb-true 1 d p.0; even = eqb-true (n % d) 0 q.0; enough = leb-true (n / d) r q.1 }

module _ (d : ℕ) (vs : List (List Float)) (memories pcm : List Float) where
  -- refused
  refused : (b : Bool) → b ≡ false → reply false (sound pcm memories) ≡ deemphasised b d vs memories pcm
  unfolding deemphasised
  refused b e = reply-no b _ _ e refl

  -- taken, the PCM being k values
  done : (b : Bool) → b ≡ true → (m p : List Float) (k : ℕ) → m ≡ (deemphasis d vs memories).memories
      → p ≡ front (deemphasis d vs memories).pcm pcm k → k ≡ length (deemphasis d vs memories).pcm → reply true (sound p m) ≡ deemphasised b d vs memories pcm
  unfolding deemphasised
  done b e m p k em ep ek = reply-yes b _ _ e (ap₂ sound (ep ∙ ap (front (deemphasis d vs memories).pcm pcm) ek) em)

first-taken : (f : ℕ → Float) (m : List Float) → length m ≡ 2 → f 0 ∷ get_or m 1 nan ∷ [] ≡ tab f 1 ++ drop 1 m
unfolding tab
first-taken f (x ∷ y ∷ []) h = refl
first-taken f [] h = let z : ⊥ = omega arith in absurd z
first-taken f (x ∷ []) h = let z : ⊥ = omega arith in absurd z
first-taken f (x ∷ y ∷ v ∷ m) h = let z : ⊥ = omega arith in absurd z

module _ (d : ℕ) (v memories pcm : List Float) (two : length memories ≡ 2) where
  pub mono-done : has_room d (length v) (length pcm) ≡ true → (r : Float) (p : List Float) → r ≡ memory_to v (get_or memories 0 nan) (length v)
      → p ≡ front (tab (value_at d (v ∷ []) (get_or memories 0 nan ∷ [])) (length v / d)) pcm (length v / d)
      → reply true (sound p (r ∷ get_or memories 1 nan ∷ [])) ≡ deemphasis_mono d v memories pcm
  unfolding deemphasis_mono deemphasis value_at
  mono-done e r p er ep =
      let a : length v / d ≡ 1 * (length v / d) = omega arith in
      done d (v ∷ []) memories pcm _ e (r ∷ get_or memories 1 nan ∷ []) p (length v / d)
      (ap (λ z. z ∷ get_or memories 1 nan ∷ []) er
      ∙ first-taken (λ (c : ℕ). memory_to (get_or (v ∷ []) c []) (get_or memories c nan) (length v)) memories two)
      (ep ∙ ap (λ z. front z pcm (length v / d)) (tab-same _ _ (length v / d)
      (λ q h.
      let o : q % 1 ≡ 0 = omega arith in
      ap (λ z. sample_at (get_or (v ∷ []) z []) (get_or (get_or memories 0 nan ∷ []) z nan) (q / 1 * d)) o
      ∙ ap (λ z. sample_at (get_or (v ∷ []) z []) (get_or memories z nan) (q / 1 * d)) (sym o))
      ∙ ap (tab (value_at d (v ∷ []) memories)) a))
      (a ∙ sym (length_pcm d (v ∷ []) memories))

  pub mono-refused : has_room d (length v) (length pcm) ≡ false → reply false (sound pcm memories) ≡ deemphasis_mono d v memories pcm
  unfolding deemphasis_mono
  mono-refused e = refused d (v ∷ []) memories pcm _ e

  module _ (w : List Float) where
    pub stereo-done : length v ≡ length w → has_room d (length v) (length pcm / 2) ≡ true → (r p : List Float)
        → r ≡ memory_to v (get_or memories 0 nan) (length v) ∷ memory_to w (get_or memories 1 nan) (length v) ∷ []
        → p ≡ front (tab (value_at d (v ∷ w ∷ []) memories) (2 * (length v / d))) pcm (2 * (length v / d))
        → reply true (sound p r) ≡ deemphasis_stereo d v w memories pcm
    unfolding deemphasis_stereo deemphasis tab
    stereo-done l e r p er ep =
        done d (v ∷ w ∷ []) memories pcm _ (ap₂ ◌&&◌ (eq-eqb (length v) (length w) l) e) r p (2 * (length v / d))
        (er ∙ ap (λ z. memory_to v (get_or memories 0 nan) (length v) ∷ memory_to w (get_or memories 1 nan) (length v) ∷ z)
        (sym (drop_of_length-le memories {i = 2} (omega arith))))
        ep
        (sym (length_pcm d (v ∷ w ∷ []) memories))

    pub stereo-short : has_room d (length v) (length pcm / 2) ≡ false → reply false (sound pcm memories) ≡ deemphasis_stereo d v w memories pcm
    unfolding deemphasis_stereo
    stereo-short e = refused d (v ∷ w ∷ []) memories pcm _ (and_second (eqb (length v) (length w)) _ e)

    pub stereo_uneven : (length v ≡ length w → ⊥) → reply false (sound pcm memories) ≡ deemphasis_stereo d v w memories pcm
    unfolding deemphasis_stereo
    stereo_uneven e = refused d (v ∷ w ∷ []) memories pcm _ (and_first _ (has_room d (length v) (length pcm / 2)) (ne_eqb (length v) (length w) e))
