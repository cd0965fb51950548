-- The steps of the whitening put together.
use mathlib.Core.Path.{◌≡◌, ap, ◌∙◌}
use mathlib.Core.Bool.{Bool, true}
use mathlib.Core.List.{List, [], ◌∷◌}
use lib.Dec.{leb, eqb}
use lib.Ieee.{Float}
use lib.ListN.{length, replicate}
use borrow.Author.Tests.{eq-eqb}
use Rattle.reply.specs.Reply.{reply, reply_if, reply-lent, reply-taken, reply-yes}
use Rattle.buffers.specs.Buffers.{zero32}
use Rattle.plc.specs.Autocorr.{celt_autocorr, length-celt_autocorr}
use Rattle.plc_lag_window.specs.LagWindow.{lag_window, length-lag_window}
use Rattle.plc_lpc.specs.Lpc.{celt_lpc}
use Rattle.plc_fir.specs.Fir.{celt_fir, fir_takes, length-celt_fir}
use Rattle.plc_whiten.specs.Whiten.{damped, whitener, length-whitener, whiten_lp, tilt}

-- the correlations are taken by the window, and what it leaves of them by the predictor
module _
    (lp ac ac' l0 l : List Float)
    (p q : Bool)
    (e1 : ac ≡ celt_autocorr lp 5)
    (e2 : reply p ac' ≡ reply_if (leb (length ac) 65536) (lag_window ac) ac)
    (e3 : reply q l ≡ reply_if (eqb (length ac') 5) (celt_lpc ac' 4) l0) where
  takes-ac : leb (length ac) 65536 ≡ true
  takes-ac = ap (λ z. leb z 65536) (ap length e1 ∙ length-celt_autocorr lp 5)

  windowed : ac' ≡ lag_window (celt_autocorr lp 5)
  windowed = reply-lent _ _ _ e2 takes-ac ∙ ap lag_window e1

  takes-five : eqb (length ac') 5 ≡ true
  takes-five = ap (λ z. eqb z 5) (ap length windowed ∙ length-lag_window (celt_autocorr lp 5) ∙ length-celt_autocorr lp 5)

  pub solved : q ≡ true
  solved = reply-taken _ _ _ e3 ∙ takes-five

  pub whitening_done : (num : List Float) → num ≡ damped l → num ≡ whitener lp
  unfolding whitener
  whitening_done num e4 = e4 ∙ ap damped (reply-lent _ _ _ e3 takes-five ∙ ap (λ z. celt_lpc z 4) windowed)

-- the filter takes 1,024 samples and their whitener
pub whitener-taken : (x num : List Float) → length x ≡ 1024 → num ≡ whitener x → fir_takes (length num) 4 (length x) ≡ true
whitener-taken x num l e = ap (λ z. fir_takes z 4 (length x)) (ap length e ∙ length-whitener x) ∙ ap (λ z. fir_takes 4 4 z) l

pub whiten_done : (x num a b : List Float) (p q : Bool) → length x ≡ 1024 → num ≡ whitener x
    → reply p a ≡ reply_if (fir_takes (length num) 4 (length x)) (celt_fir num (replicate 4 zero32) x) x
    → reply q b ≡ reply_if (fir_takes 1 1 (length a)) (celt_fir (tilt ∷ []) (zero32 ∷ []) a) a
    → reply q b ≡ reply_if (eqb (length x) 1024) (whiten_lp x) x
unfolding whiten_lp
whiten_done x num a b p q l w e f =
    let g : a ≡ celt_fir (whitener x) (replicate 4 zero32) x =
    reply-lent _ _ _ e (whitener-taken x num l w) ∙ ap (λ z. celt_fir z (replicate 4 zero32) x) w in
    let u : fir_takes 1 1 (length a) ≡ true = ap (λ z. fir_takes 1 1 z) (ap length g ∙ length-celt_fir (whitener x) (replicate 4 zero32) x ∙ l) in
    ap (λ z. reply z b) (reply-taken _ _ _ f ∙ u)
    ∙ reply-yes _ _ _ (eq-eqb (length x) 1024 l) (reply-lent _ _ _ f u ∙ ap (celt_fir (tilt ∷ []) (zero32 ∷ [])) g)
