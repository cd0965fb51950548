-- The noise block of a channel, and a history with each used channel under its own.
use mathlib.Core.Path.{◌≡◌, ap, ap₂, ◌∙◌, sym}
use mathlib.Core.Bool.{Bool, true, false, cond, ◌&&◌}
use mathlib.Core.List.{List, ◌++◌}
use Prim.Native.Nat.{ℕ, ◌+◌, ◌*◌, ◌^◌}
use lib.ListN.{length, take, drop}
use lib.Dec.{eqb}
use lib.Ieee.{Float}
use borrow.Author.Tests.{le-leb, lt-ltb, eq-eqb, ne_eqb}
use Rattle.loops.specs.Logic.{and_both, and_first, and_second}
use Rattle.loops.specs.Part.{put}
use Rattle.std.specs.Prelude.{Result, Ok}
use Rattle.reply.specs.declared.Refused.{Refused}
use Rattle.reply.specs.Reply.{Reply, reply, replied, value_or, reply_if, reply-lent, reply-taken}
use Rattle.history.specs.History.{half, overlap, channel, whole, Tail, tail_at, tails, with_tails, tail_list}
use Rattle.settings.specs.Settings.{factor, frame, stereo, check_settings}
use Rattle.settings.specs.declared.Settings.{Settings}
use Rattle.settings.proofs.Passed.{passed, downsample_low}
use Rattle.noise_block.specs.Block.{Block, drawn_block, noise_block}
use Rattle.noise_block.specs.Call.{settings_fit, block_takes}
use Rattle.noise_cover.specs.Cover.{covered_tail}
use Rattle.noise_loss.proofs.Halves.{first-tail, second-tail, joined, kept}
use Rattle.noise_loss.specs.Loss.{channel_block, Blocks, noise_blocks, noise_seed, noise_tails, noised, after_noise, noise_takes}

module _ (k : Settings) (good : check_settings k ≡ 0) where
  fit : settings_fit k.lm k.start k.end k.downsample ≡ true
  unfolding settings_fit
  fit =
      let p = passed k good in
      simp (
        le-leb k.lm 3 p.lm,
        lt-ltb k.start k.end p.above,
        le-leb k.end 21 p.end,
        le-leb 1 k.downsample (downsample_low k good),
      )

  -- what noise_block leaves in a buffer of the right size
  module _ (e part : List Float) (seed : ℕ) (le : length e ≡ 25) (lp : length part ≡ frame k + overlap) where
    abbrev block-reply : Reply Block
    block-reply =
        reply_if (block_takes k.lm k.start k.end k.downsample (length e) (length part))
        (noise_block (2 ^ k.lm) k.start k.end k.downsample seed e) (drawn_block part seed)

    takes : block_takes k.lm k.start k.end k.downsample (length e) (length part) ≡ true
    unfolding block_takes frame factor
    takes = ap₂ ◌&&◌ fit (ap₂ ◌&&◌ (eq-eqb (length e) 25 le) (eq-eqb (length part) (120 * 2 ^ k.lm + 120) lp))

    pub block-taken : {b : Bool} {y : Block} → reply b y ≡ block-reply → b ≡ true
    block-taken q = reply-taken _ _ _ q ∙ takes

    pub block-drawn : {r : Result ℕ Refused} {y : List Float} {s : ℕ} → replied r (drawn_block y (value_or seed r)) ≡ block-reply → r ≡ Ok s
        → drawn_block y s ≡ channel_block k seed e
    unfolding channel_block factor
    block-drawn {y = y} q h = ap (λ r. drawn_block y (value_or seed r)) (sym h) ∙ reply-lent _ _ _ q takes

  -- a channel with its block laid over it
  abbrev laid : ℕ → List Float → List Float → List Float
  laid seed e p =
      put half (half + overlap) (tail_list (covered_tail (frame k) (channel_block k seed e).samples (tail_at 0 p))) p

  module _ (h : List Float) (l : length h ≡ whole) (seed : ℕ) (e : List Float) where
    abbrev blocks : Blocks
    blocks = noise_blocks k seed e

    abbrev one : Tail
    one = covered_tail (frame k) blocks.first.samples (tail_at 0 h)

    abbrev two : Tail
    two = covered_tail (frame k) blocks.second.samples (tail_at channel h)

    module _ (p f x : List Float) (r : ℕ) (ep : p ≡ take channel h) (ef : f ≡ take 25 e) (er : r ≡ (channel_block k seed f).seed)
        (ex : x ≡ laid seed f p) where
      seed-is : r ≡ blocks.first.seed
      unfolding noise_blocks
      seed-is = er ∙ ap (λ z. (channel_block k seed z).seed) ef

      first-is : x ≡ put half (half + overlap) (tail_list one) (take channel h)
      unfolding noise_blocks
      first-is =
          ex ∙ ap₂ (laid seed) ef ep
          ∙ ap (λ t. put half (half + overlap) (tail_list (covered_tail (frame k) blocks.first.samples t)) (take channel h)) (first-tail h l)

      -- the second channel as it was
      pub mono-is : (q : List Float) → stereo k ≡ false → q ≡ drop channel h → noised (x ++ q) r ≡ after_noise k seed e h
      unfolding after_noise noise_seed noise_tails tails
      mono-is q n eq =
          ap₂ noised (joined h l one (tail_at channel h) x q first-is (eq ∙ kept h l)) seed-is
          ∙ ap (λ b. noised (with_tails h (record { first = one; second = cond b two (tail_at channel h) })) (cond b blocks.second.seed blocks.first.seed))
          (sym n)

      -- or under its own block, from the first one's seed
      pub stereo-is : (q d y : List Float) (s : ℕ) → stereo k ≡ true → q ≡ drop channel h → d ≡ drop 25 e → s ≡ (channel_block k r d).seed
          → y ≡ laid r d q → noised (x ++ y) s ≡ after_noise k seed e h
      unfolding after_noise noise_seed noise_tails noise_blocks tails
      stereo-is q d y s c eq ed es ey =
          let b : channel_block k r d ≡ blocks.second = ap₂ (channel_block k) seed-is ed in
          let w : y ≡ put half (half + overlap) (tail_list two) (drop channel h) =
          ey ∙ ap (laid r d) eq
          ∙ ap₂ (λ (v : Block) t. put half (half + overlap) (tail_list (covered_tail (frame k) v.samples t)) (drop channel h)) b (second-tail h l) in
          ap₂ noised (joined h l one two x y first-is w) (es ∙ ap (λ (v : Block). v.seed) b)
          ∙ ap (λ t. noised (with_tails h (record { first = one; second = cond t two (tail_at channel h) })) (cond t blocks.second.seed blocks.first.seed))
          (sym c)

-- which calls are taken
module _ (k : Settings) (n : ℕ) where
  pub takes_whole : eqb (check_settings k) 0 ≡ true → n ≡ whole → noise_takes k n ≡ true
  unfolding noise_takes
  takes_whole e h = and_both (eqb (check_settings k) 0) (eqb n whole) e (eq-eqb n whole h)

  pub takes-no_settings : eqb (check_settings k) 0 ≡ false → noise_takes k n ≡ false
  unfolding noise_takes
  takes-no_settings e = and_first (eqb (check_settings k) 0) (eqb n whole) e

  pub takes-not-whole : (n ≡ whole → ⊥) → noise_takes k n ≡ false
  unfolding noise_takes
  takes-not-whole h = and_second (eqb (check_settings k) 0) (eqb n whole) (ne_eqb n whole h)
