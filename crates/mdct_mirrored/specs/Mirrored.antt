-- The inverse transform by half of its sums: the first half of the outputs is odd about its middle, the second even.
use Rattle.std.specs.Prelude.{List, ◌++◌, map, cond, ℕ, ◌+◌, ◌*◌, ◌-◌, ◌/◌, ltb, length, get_or, Float}
use Rattle.std.specs.Float.{nan}
use Rattle.loops.specs.Front.{tab}
use Rattle.reply.specs.Reply.{Reply, reply_if}
use Rattle.float_sign.specs.Turned.{turned}
use Rattle.mdct.specs.Imdct.{half_of, imdct_takes}
use Rattle.mdct_work.specs.Work.{total, all_sums, pair_sums, values}

-- outputs, and how many products were made for them
pub record Transform : Type 0 where
  pub outputs : List Float
  pub products : ℕ

abbrev pub transformed : List Float → ℕ → Transform
transformed outputs products = record { outputs = outputs; products = products }

-- the direct sum: each output from its own
unfoldable pub direct : ℕ → List Float → Transform
direct n xs = transformed (map half_of (values (all_sums n xs))) (total (all_sums n xs))

-- The sum of output u past the middle of the first half: that of the mirrored place with its sign turned. A sum that is zero is +0 in both places.
unfoldable pub odd_sum : ℕ → List Float → ℕ → Float
odd_sum n sums u = turned (get_or sums (2 * (n - 1 - u)) nan)

-- past the middle of the second half: that of the mirrored place
unfoldable pub even_sum : ℕ → List Float → ℕ → Float
even_sum n sums u = get_or sums (2 * (n - 1 - u) + 1) nan

-- output u of either half
unfoldable pub odd_at : ℕ → List Float → ℕ → Float
odd_at n sums u = half_of (cond (ltb u (n / 2)) (get_or sums (2 * u) nan) (odd_sum n sums u))

unfoldable pub even_at : ℕ → List Float → ℕ → Float
even_at n sums u = half_of (cond (ltb u (n / 2)) (get_or sums (2 * u + 1) nan) (even_sum n sums u))

-- the outputs from half of the sums
unfoldable pub mirrored_outputs : ℕ → List Float → List Float
mirrored_outputs n sums = tab (odd_at n sums) n ++ tab (even_at n sums) n

unfoldable pub mirrored : ℕ → List Float → Transform
mirrored n xs = transformed (mirrored_outputs n (values (pair_sums n xs))) (total (pair_sums n xs))

-- what imdct_mirrored_f32 leaves: the outputs and the products made for them, or out as it was and none
unfoldable pub mirrored_reply : List Float → List Float → Reply Transform
mirrored_reply xs out = reply_if (imdct_takes (length xs) (length out)) (mirrored (length xs) xs) (transformed out 0)
