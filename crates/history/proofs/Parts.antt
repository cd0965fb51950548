-- A history taken apart and put together.
use mathlib.Core.Path.{◌≡◌, refl, ap, ap₂, sym, ◌∙◌}
use mathlib.Core.Bool.{Bool}
use mathlib.Core.List.{List, [], ◌∷◌, ◌++◌, append_assoc, append-nil}
use Prim.Native.Nat.{ℕ, ◌+◌, ◌-◌, ◌≤◌}
use native.Mathlib.Omega.{arith}
use lib.ListN.{length, take, drop, length-append, drop_of_length-le, take-append-drop}
use lib.Seq.{slice, length-slice, length-take-le, take_at, drop_at, take-add, take-take, take_all, drop-drop}
use lib.Dec.{lit≤}
use lib.Ieee.{Float}
use Rattle.loops.specs.Part.{put, drop-slice}
use Rattle.history.specs.History.{half, overlap, channel, whole, Tail, Tails, tail_at, tails, with_tails, tail_list, tail_of, both, newest, oldest}

module _ {A : Type 0} where
  -- a slice, by its length
  pub slice-take : (a n : ℕ) (h : List A) → a ≤ length h → slice a (a + n) h ≡ take n (drop a h)
  slice-take a n h l = ap (drop a) (take-add a n h) ∙ drop_at (take a h) (take n (drop a h)) a (length-take-le a h l)

  -- a slice of what stands between p and r, and of what stands after p
  slice-mid : (p q r : List A) (a b : ℕ) → length p ≡ a → length p + length q ≡ b → slice a b (p ++ (q ++ r)) ≡ q
  slice-mid p q r a b e f =
      ap (drop a) (ap (take b) (sym (append_assoc p q r)) ∙ take_at (p ++ q) r b (length-append p q ∙ f)) ∙ drop_at p q a e

  slice-last : (p q : List A) (a b : ℕ) → length p ≡ a → length p + length q ≡ b → slice a b (p ++ q) ≡ q
  slice-last p q a b e f = ap (drop a) (take_all b (p ++ q) (omega (arith, length-append p q))) ∙ drop_at p q a e

  -- two slices that meet are one
  slice-join : (a b c : ℕ) (h : List A) → a ≤ b → b ≤ c → c ≤ length h → slice a b h ++ slice b c h ≡ slice a c h
  slice-join a b c h p q l =
      ap (λ z. drop a z ++ slice b c h) (sym (take-take b c h q))
      ∙ sym (drop-slice a b (take c h) p (omega (arith, length-take-le c h l)))

  -- the first p of a part that came back unaltered count as not lent
  pub put-inner : (a p q : ℕ) (y h : List A) → a + p ≤ length h → put a (p + q) (take p (take (p + q) (drop a h)) ++ y) h ≡ put (a + p) q y h
  put-inner a p q y h l =
      let e : take p (take (p + q) (drop a h)) ≡ take p (drop a h) = take-take p (p + q) (drop a h) (omega arith) in
      ap (λ z. take a h ++ ((z ++ y) ++ drop (p + q) (drop a h))) e
      ∙ ap (λ z. take a h ++ z) (append_assoc (take p (drop a h)) y (drop (p + q) (drop a h)))
      ∙ sym (append_assoc (take a h) (take p (drop a h)) (y ++ drop (p + q) (drop a h)))
      ∙ ap₂ (λ u v. u ++ (y ++ v)) (sym (take-add a p h)) (sym (drop-drop q p (drop a h)) ∙ ap (drop q) (drop-drop p a h))

-- the sizes that a history's parts have
pub record TailSized (t : Tail) : Type 0 where
  pub new : length t.new ≡ half
  pub over : length t.over ≡ overlap

pub record Sized (t : Tails) : Type 0 where
  pub first : TailSized t.first
  pub second : TailSized t.second

pub tail_of-list : (t : Tail) → TailSized t → tail_of (tail_list t) ≡ t
unfolding tail_of tail_list
tail_of-list t z =
    let p = take_at t.new t.over half z.new in
    let q = drop_at t.new t.over half z.new in
    λ i. record { new = p i; over = q i }

module _ (h : List Float) (l : length h ≡ whole) where
  pub first-sized : TailSized (tail_at 0 h)
  unfolding tail_at
  first-sized = record { new = length-slice 1024 2048 h (omega arith); over = length-slice 2048 2168 h (omega arith) }

  pub second-sized : TailSized (tail_at channel h)
  unfolding tail_at
  second-sized = record { new = length-slice 3192 4216 h (omega arith); over = length-slice 4216 4336 h (omega arith) }

  pub tails-sized : Sized (tails h)
  unfolding tails
  tails-sized = record { first = first-sized; second = second-sized }

  -- a tail, as a step is lent it
  pub lent-first : take (half + overlap) (drop half h) ≡ tail_list (tails h).first
  unfolding tails tail_at tail_list
  lent-first = sym (slice-join 1024 2048 2168 h (lit≤ tt) (lit≤ tt) (omega arith) ∙ slice-take 1024 1144 h (omega arith))

  pub lent-second : take (half + overlap) (drop (channel + half) h) ≡ tail_list (tails h).second
  unfolding tails tail_at tail_list
  lent-second = sym (slice-join 3192 4216 4336 h (lit≤ tt) (lit≤ tt) (omega arith) ∙ slice-take 3192 1144 h (omega arith))

module _ (a n v b m w : List Float) (la : length a ≡ half) (ln : length n ≡ half) (lv : length v ≡ overlap)
    (lb : length b ≡ half) (lm : length m ≡ half) (lw : length w ≡ overlap) where
  glued : List Float
  glued = a ++ (n ++ (v ++ (b ++ (m ++ w))))

  glued-old : take half glued ≡ a
  unfolding glued
  glued-old = take_at a (n ++ (v ++ (b ++ (m ++ w)))) half la

  glued-new : slice 1024 2048 glued ≡ n
  unfolding glued
  glued-new = slice-mid a n (v ++ (b ++ (m ++ w))) 1024 2048 la (omega arith)

  glued-over : slice 2048 2168 glued ≡ v
  unfolding glued
  glued-over =
      ap (slice 2048 2168) (sym (append_assoc a n (v ++ (b ++ (m ++ w)))))
      ∙ slice-mid (a ++ n) v (b ++ (m ++ w)) 2048 2168 (omega (arith, length-append a n)) (omega (arith, length-append a n))

  one : List Float
  one = (a ++ n) ++ v

  one-length : length one ≡ channel
  unfolding one
  one-length = omega (arith, length-append (a ++ n) v, length-append a n)

  glued-one : glued ≡ one ++ (b ++ (m ++ w))
  unfolding glued one
  glued-one = sym (append_assoc (a ++ n) v (b ++ (m ++ w)) ∙ append_assoc a n (v ++ (b ++ (m ++ w))))

  glued-old-two : slice 2168 3192 glued ≡ b
  glued-old-two = ap (slice 2168 3192) glued-one ∙ slice-mid one b (m ++ w) 2168 3192 one-length (omega (arith, one-length))

  front : List Float
  front = one ++ b

  front_length : length front ≡ channel + half
  unfolding front
  front_length = omega (arith, length-append one b, one-length)

  glued-front : glued ≡ front ++ (m ++ w)
  unfolding front
  glued-front = glued-one ∙ sym (append_assoc one b (m ++ w))

  glued-new-two : slice 3192 4216 glued ≡ m
  glued-new-two = ap (slice 3192 4216) glued-front ∙ slice-mid front m w 3192 4216 front_length (omega (arith, front_length))

  glued-over-two : slice 4216 4336 glued ≡ w
  glued-over-two =
      ap (slice 4216 4336) (glued-front ∙ sym (append_assoc front m w))
      ∙ slice-last (front ++ m) w 4216 4336 (omega (arith, front_length, length-append front m)) (omega (arith, front_length, length-append front m))

  glued-length : length glued ≡ whole
  glued-length = ap length glued-front ∙ omega (arith, front_length, length-append front (m ++ w), length-append m w)

module _ (h : List Float) (t : Tails) (l : length h ≡ whole) (z : Sized t) where
  parts-with : with_tails h t
      ≡ glued (take half h) t.first.new t.first.over (slice 2168 3192 h) t.second.new t.second.over
      (length-take-le half h (omega arith)) z.first.new z.first.over (length-slice 2168 3192 h (omega arith)) z.second.new z.second.over
  unfolding with_tails glued
  parts-with = refl

  pub with-length : length (with_tails h t) ≡ whole
  with-length = ap length parts-with ∙ glued-length _ _ _ _ _ _ _ _ _ _ _ _

  pub tails-with : tails (with_tails h t) ≡ t
  unfolding tails tail_at
  tails-with =
      let p = ap (slice 1024 2048) parts-with ∙ glued-new _ _ _ _ _ _ _ _ _ _ _ _ in
      let q = ap (slice 2048 2168) parts-with ∙ glued-over _ _ _ _ _ _ _ _ _ _ _ _ in
      let r = ap (slice 3192 4216) parts-with ∙ glued-new-two _ _ _ _ _ _ _ _ _ _ _ _ in
      let s = ap (slice 4216 4336) parts-with ∙ glued-over-two _ _ _ _ _ _ _ _ _ _ _ _ in
      λ i. record { first = record { new = p i; over = q i }; second = record { new = r i; over = s i } }

  first-kept : take half (with_tails h t) ≡ take half h
  first-kept = ap (take half) parts-with ∙ glued-old _ _ _ _ _ _ _ _ _ _ _ _

  second-kept : slice 2168 3192 (with_tails h t) ≡ slice 2168 3192 h
  second-kept = ap (slice 2168 3192) parts-with ∙ glued-old-two _ _ _ _ _ _ _ _ _ _ _ _

  -- each channel's oldest stay
  pub oldest-with : oldest (with_tails h t) ≡ oldest h
  unfolding oldest
  oldest-with = ap₂ (λ x y. x ∷ y ∷ []) first-kept second-kept

  -- tails replaced twice: the later ones stay
  pub with-again : (u : Tails) → with_tails (with_tails h t) u ≡ with_tails h u
  unfolding with_tails
  with-again u = ap₂ (λ x y. x ++ (u.first.new ++ (u.first.over ++ (y ++ (u.second.new ++ u.second.over))))) first-kept second-kept

-- a tail that a step was lent comes back
module _ (h : List Float) (l : length h ≡ whole) where
  second-whole : slice 2168 3192 h ++ (slice 3192 4216 h ++ slice 4216 4336 h) ≡ drop channel h
  second-whole =
      ap (λ z. slice 2168 3192 h ++ z) (slice-join 3192 4216 4336 h (lit≤ tt) (lit≤ tt) (omega arith))
      ∙ slice-join 2168 3192 4336 h (lit≤ tt) (lit≤ tt) (omega arith)
      ∙ ap (drop channel) (take_all 4336 h (omega arith))

  pub put_first : (t : Tail) → put half (half + overlap) (tail_list t) h ≡ with_tails h (record { first = t; second = (tails h).second })
  unfolding with_tails tails tail_at tail_list
  put_first t =
      sym
      (ap (λ z. take 1024 h ++ z)
      (ap (λ z. t.new ++ (t.over ++ z)) (second-whole ∙ sym (drop-drop 1144 1024 h)) ∙ sym (append_assoc t.new t.over (drop 1144 (drop 1024 h)))))

  -- what stands ahead of the second tail
  ahead : take 1024 h ++ (slice 1024 2048 h ++ (slice 2048 2168 h ++ slice 2168 3192 h)) ≡ take 3192 h
  ahead =
      ap (λ z. take 1024 h ++ (slice 1024 2048 h ++ z)) (slice-join 2048 2168 3192 h (lit≤ tt) (lit≤ tt) (omega arith))
      ∙ ap (λ z. take 1024 h ++ z) (slice-join 1024 2048 3192 h (lit≤ tt) (lit≤ tt) (omega arith))
      ∙ ap (λ z. z ++ slice 1024 3192 h) (sym (take-take 1024 3192 h (lit≤ tt)))
      ∙ take-append-drop 1024 (take 3192 h)

  put-end : (x : List Float) → put 3192 1144 x h ≡ take 3192 h ++ x
  put-end x =
      ap (λ z. take 3192 h ++ (x ++ z)) (drop-drop 1144 3192 h ∙ drop_of_length-le h {i = 4336} (omega arith))
      ∙ ap (λ z. take 3192 h ++ z) (append-nil x)

  pub put_second : (t : Tail) → put (channel + half) (half + overlap) (tail_list t) h ≡ with_tails h (record { first = (tails h).first; second = t })
  unfolding with_tails tails tail_at tail_list
  put_second t =
      put-end (t.new ++ t.over) ∙ ap (λ z. z ++ (t.new ++ t.over)) (sym ahead)
      ∙ append_assoc (take 1024 h) _ _
      ∙ ap (λ z. take 1024 h ++ z) (append_assoc (slice 1024 2048 h) _ _ ∙ ap (λ z. slice 1024 2048 h ++ z) (append_assoc (slice 2048 2168 h) _ _))

-- the second tail put over a history whose tails were replaced
put-again : (h : List Float) (t : Tails) (u : Tail) → length h ≡ whole → Sized t
    → put (channel + half) (half + overlap) (tail_list u) (with_tails h t) ≡ with_tails h (record { first = t.first; second = u })
put-again h t u l z =
    put_second (with_tails h t) (with-length h t l z) u
    ∙ ap (λ (v : Tails). with_tails (with_tails h t) (record { first = v.first; second = u })) (tails-with h t l z)
    ∙ with-again h t l z (record { first = t.first; second = u })

-- one tail after the other
pub put_both : (h : List Float) (t u : Tail) → length h ≡ whole → TailSized t
    → put (channel + half) (half + overlap) (tail_list u) (put half (half + overlap) (tail_list t) h) ≡ with_tails h (record { first = t; second = u })
put_both h t u l z =
    ap (put 3192 1144 (tail_list u)) (put_first h l t)
    ∙ put-again h (record { first = t; second = (tails h).second }) u l (record { first = z; second = (tails-sized h l).second })

-- the newest n samples stand in the tails
pub newest-tails : (two : Bool) (n : ℕ) (h : List Float) → n ≤ half
    → newest two n h ≡ both two (drop (half - n) (tails h).first.new) (drop (half - n) (tails h).second.new)
unfolding newest tails tail_at
newest-tails two n h l =
    let p : 2048 - n ≡ 1024 + (1024 - n) = omega arith in
    let q : 4216 - n ≡ 3192 + (1024 - n) = omega arith in
    ap₂ (both two)
    (ap (λ z. drop z (take 2048 h)) p ∙ sym (drop-drop (1024 - n) 1024 (take 2048 h)))
    (ap (λ z. drop z (take 4216 h)) q ∙ sym (drop-drop (1024 - n) 3192 (take 4216 h)))
