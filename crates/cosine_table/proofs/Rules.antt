-- The table keeps its rules.
use Rattle.std.specs.Prelude.{◌≡◌, refl, Bool, true, false, List, [], ◌∷◌, map, ℕ, zero, suc, ◌+◌, ◌*◌, ◌^◌, ◌≤◌, ◌<◌, T, leb, ltb, pos, length, get_or}
use Rattle.std.proofs.Common.{arith, le_of_suc-le-suc, not-suc-le-zero}
use Rattle.std.proofs.Math.Dec.{ltb→lt, leb→le}
use Rattle.std.specs.Float.{nan, fin}
use Rattle.std.specs.Float.Ieee.{of_bits}
use Rattle.loops.specs.Every.{and_then, and_then-left, and_then-right, every, every-at}
use Rattle.cosine_table.specs.Cosines.{cosine_bits, cosines, length-cosines}
use Rattle.cosine_table.specs.Scaled.{scaled, is_scaled, get_or-scaled}
use Rattle.cosine_table.specs.Rules.{scaled_cosine, CosineRules}

-- ---- tests that antt computes over the whole table, and what they show of each entry

-- the rules at three neighbours, u being the second entry
over : ℕ → ℕ → ℕ → ℕ → Bool
over u a b c = leb ((a + c) * 2 ^ 63) (2 * u * b + 2 ^ 75)

under : ℕ → ℕ → ℕ → ℕ → Bool
under u a b c = leb (2 * u * b) ((a + c) * 2 ^ 63 + 2 ^ 75)

near : ℕ → ℕ → ℕ → ℕ → Bool
near u a b c = and_then (ltb c b) (and_then (over u a b c) (under u a b c))

steps : ℕ → ℕ → ℕ → List ℕ → Bool
steps u a b [] = true
steps u a b (c ∷ cs) = and_then (near u a b c) (steps u b c cs)

test : List ℕ → Bool
test [] = false
test (a ∷ []) = false
test (a ∷ b ∷ cs) = and_then (ltb b a) (steps b a b cs)

steps-at : (u a b : ℕ) (cs : List ℕ) → T (steps u a b cs) → (k : ℕ) → k < length cs
    → T (near u (get_or (a ∷ b ∷ cs) k 0) (get_or (b ∷ cs) k 0) (get_or cs k 0))
unfolding steps
steps-at u a b [] t k h = absurd (not-suc-le-zero h)
steps-at u a b (c ∷ cs) t zero h = and_then-left (near u a b c) (steps u b c cs) t
steps-at u a b (c ∷ cs) t (suc k) h = steps-at u b c cs (and_then-right (near u a b c) (steps u b c cs) t) k (le_of_suc-le-suc h)

test_at : (xs : List ℕ) → T (test xs) → (k : ℕ) → suc (suc k) < length xs
    → T (near (get_or xs 1 0) (get_or xs k 0) (get_or xs (suc k) 0) (get_or xs (suc (suc k)) 0))
unfolding test
test_at [] t k h = absurd t
test_at (a ∷ []) t k h = absurd t
test_at (a ∷ b ∷ cs) t k h = steps-at b a b cs (and_then-right (ltb b a) (steps b a b cs) t) k (le_of_suc-le-suc (le_of_suc-le-suc h))

test-first : (xs : List ℕ) → T (test xs) → get_or xs 1 0 < get_or xs 0 0
unfolding test
test-first [] t = absurd t
test-first (a ∷ []) t = absurd t
test-first (a ∷ b ∷ cs) t = ltb→lt b a (and_then-left (ltb b a) (steps b a b cs) t)

table-whole : T (every (λ j. is_scaled 63) 0 cosines)
unfolding every is_scaled cosines cosine_bits of_bits
table-whole = tt

table-near : T (test (map (scaled 63) cosines))
unfolding test steps near over under scaled cosines cosine_bits of_bits
table-near = tt

table-length : length (map (scaled 63) cosines) ≡ 1921
unfolding cosines cosine_bits
table-length = refl

at : (j : ℕ) → suc j < 1920 → T (near (scaled_cosine 1) (scaled_cosine j) (scaled_cosine (suc j)) (scaled_cosine (suc (suc j))))
at j h = simp (get_or-scaled 63) at (test_at (map (scaled 63) cosines) table-near j (omega (arith, table-length)))

start : scaled_cosine 1 < scaled_cosine 0
start = simp (get_or-scaled 63) at (test-first (map (scaled 63) cosines) table-near)

module _ (u a b c : ℕ) (t : T (near u a b c)) where
  less : c < b
  unfolding near
  less = ltb→lt c b (and_then-left (ltb c b) (and_then (over u a b c) (under u a b c)) t)

  sides : T (and_then (over u a b c) (under u a b c))
  unfolding near
  sides = and_then-right (ltb c b) (and_then (over u a b c) (under u a b c)) t

  most : (a + c) * 2 ^ 63 ≤ 2 * u * b + 2 ^ 75
  unfolding over
  most = leb→le ((a + c) * 2 ^ 63) (2 * u * b + 2 ^ 75) (and_then-left (over u a b c) (under u a b c) sides)

  least : 2 * u * b ≤ (a + c) * 2 ^ 63 + 2 ^ 75
  unfolding under
  least = leb→le (2 * u * b) ((a + c) * 2 ^ 63 + 2 ^ 75) (and_then-right (over u a b c) (under u a b c) sides)

fall : (j : ℕ) → j < 1920 → scaled_cosine (suc j) < scaled_cosine j
fall zero h = start
fall (suc j) h = less _ _ _ _ (at j h)

one : get_or cosines 0 nan ≡ fin false 1 (pos 0)
unfolding cosines cosine_bits of_bits
one = refl

none : get_or cosines 1920 nan ≡ fin false 0 (pos 0)
unfolding cosines cosine_bits of_bits
none = refl

pub cosine_rules : CosineRules
cosine_rules =
    record {
      first = one;
      last = none;
      exact = λ j h. every-at (λ j. is_scaled 63) nan cosines table-whole j (omega (arith, length-cosines));
      falls = fall;
      above = λ j h. most _ _ _ _ (at j h);
      below = λ j h. least _ _ _ _ (at j h);
    }
