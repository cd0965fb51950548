-- The circle of cosines in pairs: each cosine beside the one a quarter of the circle on.
use Rattle.std.specs.Prelude.{List, Bool, ◌&&◌, ℕ, ◌+◌, ◌*◌, ◌/◌, ◌%◌, eqb, length, Float}
use Rattle.loops.specs.Front.{tab}
use Rattle.reply.specs.Reply.{Reply, reply_if}
use Rattle.cosine_circle.specs.Circle.{cos_at, is_frame_size}

-- the cosine i steps and a half round a circle of 4 n steps, round and round
unfoldable pub step_cos : ℕ → ℕ → Float
step_cos n i = cos_at (960 / n * (2 * i + 1) % 7680)

-- place j of the pairs: the cosine at j / 2 steps, and behind it the one a quarter, n steps, further on
unfoldable pub pair_at : ℕ → ℕ → Float
pair_at n j = step_cos n (j / 2 + j % 2 * n)

-- the pairs of a circle and a half
unfoldable pub pairs_of : ℕ → List Float
pairs_of n = tab (pair_at n) (12 * n)

-- whether n is a frame size and m places are as many as its pairs take
unfoldable pub pairs_take : ℕ → ℕ → Bool
pairs_take n m = is_frame_size n && eqb m (12 * n)

-- what fill_pairs leaves: the pairs, or what was lent as it was
unfoldable pub pairs_reply : ℕ → List Float → Reply (List Float)
pairs_reply n was = reply_if (pairs_take n (length was)) (pairs_of n) was
