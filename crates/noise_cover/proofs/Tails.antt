-- A noise block over a channel of a history.
use mathlib.Core.Path.{◌≡◌, ap, ap₂, ◌∙◌, sym}
use mathlib.Core.Bool.{Bool, true}
use mathlib.Core.List.{List, ◌++◌, append_assoc}
use Prim.Native.Nat.{ℕ, ◌+◌, ◌-◌, ◌≤◌}
use native.Mathlib.Omega.{arith}
use lib.ListN.{length, take, drop, length-drop}
use lib.Seq.{slice, take-take, drop-drop}
use lib.Ieee.{Float}
use Rattle.loops.specs.Part.{put, drop-slice}
use Rattle.reply.specs.Reply.{Reply, reply, reply_if, reply-lent, reply-taken}
use Rattle.history.specs.History.{half, samples, overlap, channel, tail_at, tail_list}
use Rattle.history.proofs.Parts.{slice-take, put-inner}
use Rattle.noise_cover.specs.Cover.{overlapped, covered_tail, lay_takes}
use Rattle.noise_cover.proofs.Laws.{lay-takes}

-- what lay leaves of a tail of n samples and the overlap, lent with a block as long
module _ (n : ℕ) (t block : List Float) (low : overlap ≤ n) (l : length t ≡ n + overlap) (k : length block ≡ n + overlap) where
  taken : lay_takes (length t) (length block) ≡ true
  taken = lay-takes _ _ (omega arith) (omega arith)

  abbrev lay-reply : Reply (List Float)
  lay-reply = reply_if (lay_takes (length t) (length block)) (overlapped block (drop (length t - overlap) t) ++ drop overlap block) t

  pub laid-taken : {b : Bool} {y : List Float} → reply b y ≡ lay-reply → b ≡ true
  laid-taken e = reply-taken _ _ _ e ∙ taken

  pub laid-is : {b : Bool} {y : List Float} → reply b y ≡ lay-reply → y ≡ overlapped block (drop n t) ++ drop overlap block
  laid-is r =
      let e : length t - overlap ≡ n = omega arith in
      reply-lent _ _ _ r taken ∙ ap (λ z. overlapped block (drop z t) ++ drop overlap block) e

-- the samples of a channel that a block is laid over, y having come back for the m of them from `from` on
module _ (n : ℕ) (h block : List Float) (l : channel ≤ length h) (low : overlap ≤ n) (high : n ≤ half) (k : length block ≡ n + overlap) where
  new_is : take (half - n) (tail_at 0 h).new ≡ take (half - n) (take (half - n + (n + overlap)) (drop half h))
  unfolding tail_at
  new_is =
      ap (take (half - n)) (slice-take half half h (omega arith))
      ∙ take-take (half - n) half (drop half h) (omega arith)
      ∙ sym (take-take (half - n) (half - n + (n + overlap)) (drop half h) (omega arith))

  over-is : (from m : ℕ) → from ≡ samples - n → m ≡ n + overlap → drop n (take m (drop from h)) ≡ (tail_at 0 h).over
  unfolding tail_at
  over-is from m e q =
      let s : from + n ≡ samples = omega arith in
      ap (λ z. drop n (take z (drop from h))) q
      ∙ slice-take n overlap (drop from h) (omega (arith, length-drop from h))
      ∙ ap (take overlap) (drop-drop n from h ∙ ap (λ z. drop z h) s)
      ∙ sym (slice-take samples overlap h (omega arith))

  -- with the block's samples as the new tail's
  tail-is : (y : List Float) → y ≡ overlapped block (tail_at 0 h).over ++ drop overlap block
      → take (half - n) (tail_at 0 h).new ++ y ≡ tail_list (covered_tail n block (tail_at 0 h))
  unfolding tail_list covered_tail
  tail-is y e =
      let t = tail_at 0 h in
      ap (λ z. take (half - n) t.new ++ z)
      (e ∙ ap (λ z. overlapped block t.over ++ z) (drop-slice overlap n block low (omega arith))
      ∙ sym (append_assoc (overlapped block t.over) (slice overlap n block) (drop n block)))
      ∙ sym (append_assoc (take (half - n) t.new) (overlapped block t.over ++ slice overlap n block) (drop n block))

  pub cover-is : (from m : ℕ) (y : List Float) → from ≡ samples - n → m ≡ n + overlap
      → y ≡ overlapped block (drop n (take m (drop from h))) ++ drop overlap block
      → put from m y h ≡ put half (half + overlap) (tail_list (covered_tail n block (tail_at 0 h))) h
  cover-is from m y e q f =
      let p : from ≡ half + (half - n) = omega arith in
      let w : half - n + (n + overlap) ≡ half + overlap = omega arith in
      let g : y ≡ overlapped block (tail_at 0 h).over ++ drop overlap block =
      f ∙ ap (λ z. overlapped block z ++ drop overlap block) (over-is from m e q) in
      ap₂ (λ a b. put a b y h) p q
      ∙ sym (put-inner half (half - n) (n + overlap) y h (omega arith))
      ∙ ap₂ (λ a b. put half a b h) w (ap (λ z. z ++ y) (sym new_is) ∙ tail-is y g)
