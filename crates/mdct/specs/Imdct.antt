-- The inverse transform as a sum of cosines: 2 n outputs from n inputs, n being 120 * 2 ^ lm.
use Rattle.std.specs.Prelude.{◌≡◌, List, Bool, true, false, ◌&&◌, ℕ, ◌+◌, ◌*◌, ◌/◌, ◌%◌, eqb, length, get_or, Float}
use Rattle.std.proofs.Common.{eq-eqb, ne_eqb, eqb-true}
use Rattle.std.specs.Float.{nan, binary64}
use Rattle.std.specs.Float.Ieee.{of_bits, mul}
use Rattle.loops.specs.Logic.{and-true}
use Rattle.loops.specs.Sum.{sum_to}
use Rattle.loops.specs.Front.{tab, length-tab}
use Rattle.reply.specs.Reply.{Reply, reply, reply_if, reply-lent}
use Rattle.float_narrow.specs.Narrow.{narrow}
use Rattle.cosine_circle.specs.Circle.{cos_at, is_frame_size}

-- the angle of input k in output t, in parts of a circle of 7,680
unfoldable pub angle : ℕ → ℕ → ℕ → ℕ
angle n t k = (2 * t + 1 + n) * (2 * k + 1) * (960 / n) % 7680

-- what input k adds to output t
unfoldable pub imdct_term : ℕ → List Float → ℕ → ℕ → Float
imdct_term n xs t k = mul binary64 (get_or xs k nan) (cos_at (angle n t k))

-- the sum of output t, in f64
unfoldable pub imdct_sum : ℕ → List Float → ℕ → Float
imdct_sum n xs t = sum_to binary64 (imdct_term n xs t) (of_bits binary64 0) n

-- half of x, rounded to f32
unfoldable pub half_of : Float → Float
half_of x = narrow (mul binary64 (of_bits binary64 0x3fe0_0000_0000_0000) x)

-- output t
unfoldable pub imdct_at : ℕ → List Float → ℕ → Float
imdct_at n xs t = half_of (imdct_sum n xs t)

unfoldable pub imdct : ℕ → List Float → List Float
imdct n xs = tab (imdct_at n xs) (2 * n)

pub length-imdct : (n : ℕ) (xs : List Float) → length (imdct n xs) ≡ 2 * n
unfolding imdct
length-imdct n xs = length-tab _ (2 * n)

-- whether imdct_naive_f32 takes n inputs and room for m outputs
unfoldable pub imdct_takes : ℕ → ℕ → Bool
imdct_takes n m = is_frame_size n && eqb m (2 * n)

pub takes-frame : (n m : ℕ) → is_frame_size n ≡ true → m ≡ 2 * n → imdct_takes n m ≡ true
unfolding imdct_takes
takes-frame n m e h = simp (e, eq-eqb m (2 * n) h)

pub takes-no-size : (n m : ℕ) → is_frame_size n ≡ false → imdct_takes n m ≡ false
unfolding imdct_takes
takes-no-size n m e = simp e

pub takes-no-room : (n m : ℕ) → is_frame_size n ≡ true → (m ≡ 2 * n → ⊥) → imdct_takes n m ≡ false
unfolding imdct_takes
takes-no-room n m e h = simp (e, ne_eqb m (2 * n) h)

pub takes_fits : (n m : ℕ) → imdct_takes n m ≡ true → (is_frame_size n ≡ true) × (m ≡ 2 * n)
unfolding imdct_takes
takes_fits n m e = let p = and-true (is_frame_size n) (eqb m (2 * n)) e in (p.0, eqb-true m (2 * n) p.1)

-- what it leaves: the outputs in out, or out as it was
unfoldable pub imdct_reply : List Float → List Float → Reply (List Float)
imdct_reply xs out = reply_if (imdct_takes (length xs) (length out)) (imdct (length xs) xs) out

pub reply_outputs : (xs out : List Float) {t : Bool} {y : List Float} → reply t y ≡ imdct_reply xs out
    → imdct_takes (length xs) (length out) ≡ true → y ≡ imdct (length xs) xs
unfolding imdct_reply
reply_outputs xs out e h = reply-lent _ _ _ e h
