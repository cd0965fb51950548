-- A noise block over the newest n samples of a channel. The history is not rolled.
use Rattle.std.specs.Prelude.{◌≡◌, Bool, ◌&&◌, List, ◌++◌, ℕ, ◌+◌, ◌*◌, ◌-◌, ◌≤◌, length, get_or, take, drop, leb, eqb, Float}
use Rattle.std.proofs.Common.{◌∙◌, length-append}
use native.Mathlib.Omega.{arith}
use Rattle.std.proofs.Math.ListN.{length-drop}
use Rattle.std.proofs.Math.Seq.{slice, length-slice, length-take-le}
use Rattle.std.specs.Float.{nan, binary32}
use Rattle.std.specs.Float.Ieee.{add}
use Rattle.loops.specs.Front.{tab, length-tab}
use Rattle.history.specs.History.{half, overlap, Tail}

-- the block's first samples, each added to the old overlap
unfoldable pub overlapped : List Float → List Float → List Float
overlapped block over = tab (λ (j : ℕ). add binary32 (get_or block j nan) (get_or over j nan)) overlap

pub length-overlapped : (block over : List Float) → length (overlapped block over) ≡ overlap
unfolding overlapped
length-overlapped block over = length-tab _ overlap

-- a tail with a block of n + 120 samples in the place of the newest n and of the overlap
unfoldable pub covered_tail : ℕ → List Float → Tail → Tail
covered_tail n block t = record {
  new = take (half - n) t.new ++ (overlapped block t.over ++ slice overlap n block);
  over = drop n block;
}

module _ (n : ℕ) (block : List Float) (t : Tail) (low : overlap ≤ n) (high : n ≤ half) (l : length block ≡ n + overlap) where
  pub length_covered_new : length t.new ≡ half → length (covered_tail n block t).new ≡ half
  unfolding covered_tail
  length_covered_new k =
      simp (length-append, length-overlapped) (omega (arith, length-take-le (half - n) t.new (omega arith), length-slice overlap n block (omega arith)))

  -- the new overlap is the block's last 120 samples, whatever the history was
  pub length_covered_over : length (covered_tail n block t).over ≡ overlap
  unfolding covered_tail
  length_covered_over = length-drop n block ∙ omega arith

-- whether lay takes a tail of n samples and a block of m
unfoldable pub lay_takes : ℕ → ℕ → Bool
lay_takes n m = leb (2 * overlap) n && eqb m n
