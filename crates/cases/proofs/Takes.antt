-- Each step takes the lengths that it is given, so it answers a value.
use mathlib.Core.Path.{◌≡◌, ◌∙◌, ap, ap₂, subst}
use mathlib.Core.Bool.{Bool, true, false}
use mathlib.Core.List.{List}
use Prim.Native.Nat.{ℕ, ◌+◌, ◌*◌, ◌≤◌}
use native.Mathlib.Omega.{arith}
use lib.Dec.{eqb}
use lib.ListN.{length}
use lib.Ieee.{Float}
use borrow.Author.Tests.{le-leb, eq-eqb}
use denote.Bor.{Bor}
use Rattle.std.specs.Prelude.{Option, Result, is_ok, is_some}
use Rattle.std.specs.Bool.{then_some}
use Rattle.plc_downsample.proofs.Steps.{Left}
use Rattle.std.specs.Result.{IsOk}
use Rattle.reply.specs.declared.Refused.{Refused}
use Rattle.reply.specs.Reply.{replied, reply_if, ok_if, reply-taken}
use Rattle.plc_best.specs.Best.{best_pitches}
use Rattle.plc_fir.specs.Fir.{fir_takes}
use Rattle.plc_iir.specs.Iir.{iir_takes}
use Rattle.cosine_circle.specs.Circle.{is_frame_size}
use Rattle.history.specs.History.{whole}
use Rattle.record.specs.Record.{record_length, writable}
use Rattle.mdct.specs.Imdct.{imdct_takes, imdct_reply, takes-frame}
use Rattle.mdct_mirrored.specs.Mirrored.{Transform, mirrored_reply}

pub lpc_takes : {V : Type 0} (r : Result V Refused) (y x was : List Float) (n m : ℕ) → replied r y ≡ reply_if (eqb n (m + 1)) x was → n ≡ m + 1 → IsOk r
lpc_takes r y x was n m e p = reply-taken _ _ _ e ∙ eq-eqb n (m + 1) p

pub filter_takes : {V : Type 0} (r : Result V Refused) (y x was : List Float) (num mem n : ℕ) → replied r y ≡ reply_if (fir_takes num mem n) x was
    → num ≡ mem → num ≤ 24 → n ≤ 1024 → IsOk r
filter_takes r y x was num mem n e p q s = reply-taken _ _ _ e ∙ simp (eq-eqb num mem p, le-leb num 24 q, le-leb n 1024 s)

pub poles_take : {V : Type 0} (r : Result V Refused) (y x was : List Float) (n : ℕ) → replied r y ≡ reply_if (iir_takes n) x was → n ≤ 1200 → IsOk r
poles_take r y x was n e p = reply-taken _ _ _ e ∙ le-leb n 1200 p

pub sum_takes : {V : Type 0} (r : Result V Refused) (xs y out : List Float) (n m : ℕ) → replied r y ≡ imdct_reply xs out
    → length xs ≡ n → length out ≡ m → is_frame_size n ≡ true → m ≡ 2 * n → IsOk r
unfolding imdct_reply
sum_takes r xs y out n m e p q f s = reply-taken _ _ _ e ∙ ap₂ imdct_takes p q ∙ takes-frame n m f s

pub mirrored_takes : {V : Type 0} (r : Result V Refused) (xs out : List Float) (y : Transform) (n m : ℕ) → replied r y ≡ mirrored_reply xs out
    → length xs ≡ n → length out ≡ m → is_frame_size n ≡ true → m ≡ 2 * n → IsOk r
unfolding mirrored_reply
mirrored_takes r xs out y n m e p q f s = reply-taken _ _ _ e ∙ ap₂ imdct_takes p q ∙ takes-frame n m f s

pub record_takes : {V : Type 0} (r : Result V Refused) (b y x was : List ℕ) (h : List Float) → replied r y ≡ reply_if (writable b h) x was
    → length b ≡ record_length → length h ≡ whole → IsOk r
unfolding writable
record_takes r b y x was h e p q = reply-taken _ _ _ e ∙ simp (eq-eqb (length b) record_length p, eq-eqb (length h) whole q)

pub value_of : {V : Type 0} (r : Result V Refused) (v : V) (n m : ℕ) → r ≡ ok_if (eqb n m) v → n ≡ m → IsOk r
unfolding ok_if
value_of r v n m e p = ap is_ok (e ∙ ap (λ z. ok_if z v) (eq-eqb n m p))

-- the samples reach far enough
pub places_are : (r : Option (ℕ × ℕ)) (xcorr y : List Float) (len : ℕ) → r ≡ best_pitches xcorr y len (length xcorr)
    → len + length xcorr ≤ length y → is_some r ≡ true
unfolding best_pitches
places_are r xcorr y len e h =
    ap is_some e ∙ simp (le-leb (length xcorr) (length xcorr) (omega arith), le-leb (len + length xcorr) (length y) h)

-- of one channel and of two
pub channels_take : (two : Bool) (second : Option (Bor (List Float))) (y : Bor (List Float)) (x z low : List Float) (t : Bool) → second ≡ then_some two y
    → length x ≡ 2048 → length y.now ≡ 2048 → length z ≡ 1024 → Left x second z t low → t ≡ true
channels_take true second y x z low t p lx ly lz e =
    reply-taken _ _ _ (subst (λ s. Left x s z t low) p e) ∙ simp (eq-eqb (length x) 2048 lx, eq-eqb (length y.now) 2048 ly, eq-eqb (length z) 1024 lz)
channels_take false second y x z low t p lx ly lz e =
    reply-taken _ _ _ (subst (λ s. Left x s z t low) p e) ∙ simp (eq-eqb (length x) 2048 lx, eq-eqb (length z) 1024 lz)
