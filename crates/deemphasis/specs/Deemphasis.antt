-- From a frame's samples to interleaved PCM. Whether the frame was lost is not known here.
use Rattle.std.specs.Prelude.{◌≡◌, List, [], ◌∷◌, ◌++◌, ℕ, ◌*◌, ◌/◌, ◌%◌, ◌≤◌, Bool, ◌&&◌, length, get_or, drop, leb, eqb, Float}
use Rattle.std.proofs.Common.{arith, length-append, length-drop}
use Rattle.std.specs.Float.{nan, binary32}
use Rattle.std.specs.Float.Ieee.{of_bits, add, sub, mul}
use Rattle.loops.specs.Fold.{fold_to}
use Rattle.loops.specs.Front.{tab, front, length-tab}
use Rattle.reply.specs.Reply.{Reply, reply_if}
use Rattle.custom_mode.specs.Mode.{preemph}

-- the standard mode's coefficients that are used
abbrev pub c0 : Float
c0 = get_or preemph 0 nan

abbrev pub c1 : Float
c1 = get_or preemph 1 nan

abbrev pub c3 : Float
c3 = get_or preemph 3 nan

-- 1 / 32768
abbrev pub per_scale : Float
per_scale = of_bits binary32 0x3800_0000

-- the memory after the sample v: c0 x tmp - c1 x v, with tmp = v + mem
unfoldable pub next_memory : Float → Float → Float
next_memory mem v = sub binary32 (mul binary32 c0 (add binary32 v mem)) (mul binary32 c1 v)

-- the memory after the first n samples of v
unfoldable pub memory_to : List Float → Float → ℕ → Float
memory_to v mem n = fold_to (λ (m : Float) (j : ℕ). next_memory m (get_or v j nan)) mem n

-- what the sample v leaves as: (c3 x tmp) / 32768, with tmp = v + mem
unfoldable pub pcm_value : Float → Float → Float
pcm_value mem v = mul binary32 (mul binary32 c3 (add binary32 v mem)) per_scale

-- what sample j of v leaves as
unfoldable pub sample_at : List Float → Float → ℕ → Float
sample_at v mem j = pcm_value (memory_to v mem j) (get_or v j nan)

-- the value q of the PCM, of channel q % channels: every downsample-th sample is kept
unfoldable pub value_at : ℕ → List (List Float) → List Float → ℕ → Float
value_at downsample vs memories q =
    let channels = length vs in
    sample_at (get_or vs (q % channels) []) (get_or memories (q % channels) nan) (q / channels * downsample)

-- PCM, and the memories after it
pub record Sound : Type 0 where
  pub pcm : List Float
  pub memories : List Float

abbrev pub sound : List Float → List Float → Sound
sound pcm memories = record { pcm = pcm; memories = memories }

-- vs: the samples of each used channel, equally many. The memory of an unused channel is carried.
unfoldable pub deemphasis : ℕ → List (List Float) → List Float → Sound
deemphasis downsample vs memories =
    let channels = length vs in
    let n = length (get_or vs 0 []) in
    record {
      pcm = tab (value_at downsample vs memories) (channels * (n / downsample));
      memories = tab (λ (c : ℕ). memory_to (get_or vs c []) (get_or memories c nan) n) channels ++ drop channels memories;
    }

pub length_pcm : (downsample : ℕ) (vs : List (List Float)) (memories : List Float)
    → length (deemphasis downsample vs memories).pcm ≡ length vs * (length (get_or vs 0 []) / downsample)
unfolding deemphasis
length_pcm downsample vs memories = length-tab _ (length vs * (length (get_or vs 0 []) / downsample))

pub length_memories : (downsample : ℕ) (vs : List (List Float)) (memories : List Float)
    → length vs ≤ length memories → length (deemphasis downsample vs memories).memories ≡ length memories
unfolding deemphasis
length_memories downsample vs memories h =
    let n = length (get_or vs 0 []) in
    let f : ℕ → Float = λ (c : ℕ). memory_to (get_or vs c []) (get_or memories c nan) n in
    omega (arith, length-append (tab f (length vs)) (drop (length vs) memories), length-tab f (length vs), length-drop (length vs) memories)

-- n samples of each channel, of which every downsample-th is kept, and PCM with room for that many of each
unfoldable pub has_room : ℕ → ℕ → ℕ → Bool
has_room downsample n room = leb 1 downsample && (eqb (n % downsample) 0 && leb (n / downsample) room)

-- the same as facts
pub record Room (downsample n room : ℕ) : Type 0 where
  pub some : 1 ≤ downsample
  pub even : n % downsample ≡ 0
  pub enough : n / downsample ≤ room

-- What a call leaves of the memories and of a PCM buffer lent to it. Where the lengths fit, the PCM stands in the buffer's first
-- places; the rest of a longer buffer is as it was.
unfoldable pub deemphasised : Bool → ℕ → List (List Float) → List Float → List Float → Reply Sound
deemphasised fit downsample vs memories pcm =
    let s = deemphasis downsample vs memories in
    reply_if fit (sound (front s.pcm pcm (length s.pcm)) s.memories) (sound pcm memories)

-- one channel
unfoldable pub deemphasis_mono : ℕ → List Float → List Float → List Float → Reply Sound
deemphasis_mono downsample v memories pcm = deemphasised (has_room downsample (length v) (length pcm)) downsample (v ∷ []) memories pcm

-- two channels, which have to be equally long
unfoldable pub deemphasis_stereo : ℕ → List Float → List Float → List Float → List Float → Reply Sound
deemphasis_stereo downsample v w memories pcm =
    deemphasised (eqb (length v) (length w) && has_room downsample (length v) (length pcm / 2)) downsample (v ∷ w ∷ []) memories pcm
