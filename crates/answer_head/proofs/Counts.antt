-- A count beside the samples: it says no more than the first so many of them.
use mathlib.Core.Path.{◌≡◌, refl}
use mathlib.Core.List.{List}
use Prim.Native.Nat.{ℕ, ◌≤◌}
use native.Mathlib.Omega.{arith}
use lib.ListN.{length, take}
use lib.Ieee.{Float}
use lib.Seq.{take-take, length-take-le}
use borrow.Author.Tests.{le-leb}
use Rattle.answer_head.specs.Head.{head_fits, head_written}

-- the first n with the count n are the samples with the count n
pub first-so-many : (number kind n : ℕ) (pcm : List Float) (head : List ℕ) → n ≤ length pcm
    → head_written number kind n (take n pcm) head ≡ head_written number kind n pcm head
unfolding head_written head_fits
first-so-many number kind n pcm head h =
    simp (le-leb n (length (take n pcm)) (omega (arith, length-take-le n pcm h)), le-leb n (length pcm) h, take-take n n pcm (omega arith)) refl
