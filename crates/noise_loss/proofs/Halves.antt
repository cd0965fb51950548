-- A history from its two channels: each by itself has the tail that it has there.
use mathlib.Core.Path.{◌≡◌, ap, ap₂, ◌∙◌, sym}
use mathlib.Core.List.{List, ◌++◌, append_assoc, append-nil}
use Prim.Native.Nat.{ℕ, ◌+◌, ◌≤◌}
use native.Mathlib.Omega.{arith}
use lib.ListN.{length, take, drop, length-drop, drop_of_length-le, take-append-drop}
use lib.Seq.{slice, length-take-le, take-take, take_all, drop-drop}
use lib.Dec.{lit≤}
use lib.Ieee.{Float}
use Rattle.loops.specs.Part.{put}
use Rattle.history.specs.History.{half, overlap, channel, whole, Tail, tail_at, tails, with_tails, tail_list}
use Rattle.history.proofs.Parts.{slice-take, lent-second}

-- the newest samples of a channel and its overlap are all that stands behind its oldest
channel_put : (p y : List Float) → length p ≡ channel → put half (half + overlap) y p ≡ take half p ++ y
channel_put p y l =
    ap (λ z. take 1024 p ++ (y ++ z)) (drop-drop 1144 1024 p ∙ drop_of_length-le p {i = 2168} (omega arith))
    ∙ ap (λ z. take 1024 p ++ z) (append-nil y)

module _ (h : List Float) (l : length h ≡ whole) where
  pub first_long : length (take channel h) ≡ channel
  first_long = length-take-le 2168 h (omega arith)

  pub second_long : length (drop channel h) ≡ channel
  second_long = length-drop 2168 h ∙ omega arith

  pub first-tail : tail_at 0 (take channel h) ≡ tail_at 0 h
  unfolding tail_at
  first-tail =
      ap₂ (λ x y. record { new = x; over = y })
      (ap (drop 1024) (take-take 2048 2168 h (lit≤ tt)))
      (ap (drop 2048) (take-take 2168 2168 h (lit≤ tt)))

  behind : (a n : ℕ) → 2168 + (a + n) ≤ 4336 → slice a (a + n) (drop channel h) ≡ slice (2168 + a) (2168 + a + n) h
  behind a n g =
      slice-take a n (drop 2168 h) (omega (arith, second_long)) ∙ ap (take n) (drop-drop a 2168 h) ∙ sym (slice-take (2168 + a) n h (omega arith))

  pub second-tail : tail_at 0 (drop channel h) ≡ tail_at channel h
  unfolding tail_at
  second-tail = ap₂ (λ x y. record { new = x; over = y }) (behind 1024 1024 (lit≤ tt)) (behind 2048 120 (lit≤ tt))

  -- each channel under a tail
  pub joined : (t u : Tail) (x y : List Float) → x ≡ put half (half + overlap) (tail_list t) (take channel h)
      → y ≡ put half (half + overlap) (tail_list u) (drop channel h) → x ++ y ≡ with_tails h (record { first = t; second = u })
  unfolding with_tails tail_list
  joined t u x y e f =
      ap₂ ◌++◌
      (e ∙ channel_put (take 2168 h) (t.new ++ t.over) first_long ∙ ap (λ z. z ++ (t.new ++ t.over)) (take-take 1024 2168 h (lit≤ tt)))
      (f ∙ channel_put (drop 2168 h) (u.new ++ u.over) second_long ∙ ap (λ z. z ++ (u.new ++ u.over)) (sym (slice-take 2168 1024 h (omega arith))))
      ∙ append_assoc (take 1024 h) (t.new ++ t.over) _
      ∙ ap (λ z. take 1024 h ++ z) (append_assoc t.new t.over _)

  -- the second one's own tail
  pub kept : drop channel h ≡ put half (half + overlap) (tail_list (tail_at channel h)) (drop channel h)
  unfolding tails
  kept =
      sym
      (channel_put (drop 2168 h) _ second_long
      ∙ ap (λ z. take 1024 (drop 2168 h) ++ z) (sym (lent-second h l) ∙ ap (take 1144) (sym (drop-drop 1024 2168 h))
      ∙ take_all 1144 (drop 1024 (drop 2168 h)) (omega (arith, length-drop 1024 (drop 2168 h), second_long)))
      ∙ take-append-drop 1024 (drop 2168 h))
