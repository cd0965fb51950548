-- What `pair_sums` leaves.
use Rattle.std.specs.Prelude.{List, Bool, ◌&&◌, ℕ, eqb, length, Float}
use Rattle.reply.specs.Reply.{Reply, reply_if}
use Rattle.cosine_circle.specs.Circle.{is_frame_size}
use Rattle.mdct_work.specs.Work.{values, total, pair_sums}

-- the sums, and how many products were made for them
pub record Sums : Type 0 where
  pub values : List Float
  pub products : ℕ

abbrev pub summed : List Float → ℕ → Sums
summed values products = record { values = values; products = products }

-- whether pair_sums takes n inputs and room for m sums
unfoldable pub pair_takes : ℕ → ℕ → Bool
pair_takes n m = is_frame_size n && eqb m n

-- what it leaves: the sums and the products made for them, or the sums as they were and none
unfoldable pub pair_reply : List Float → List Float → Reply Sums
pair_reply xs was =
    reply_if (pair_takes (length xs) (length was)) (summed (values (pair_sums (length xs) xs)) (total (pair_sums (length xs) xs))) (summed was 0)
