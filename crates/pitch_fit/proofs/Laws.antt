-- What the steps make together, over plain variables.
use mathlib.Core.Path.{◌≡◌, ap, ◌∙◌}
use mathlib.Core.Bool.{Bool, true}
use mathlib.Core.List.{List}
use Prim.Native.Nat.{◌+◌}
use native.Mathlib.Omega.{arith}
use lib.Dec.{eqb, leb}
use lib.ListN.{length}
use lib.Ieee.{Float}
use borrow.Author.Tests.{eq-eqb, le-leb}
use Rattle.loops.specs.Logic.{and_both}
use Rattle.reply.specs.Reply.{reply, reply_if, reply-lent, reply-taken, reply-yes}
use Rattle.history.specs.History.{half}
use Rattle.celt_window.specs.Window.{window}
use Rattle.plc.specs.Autocorr.{celt_autocorr, length-celt_autocorr}
use Rattle.plc_window.specs.Window.{windowed_ends}
use Rattle.plc_lpc.specs.Lpc.{celt_lpc}
use Rattle.plc_lag_window.specs.LagWindow.{lag_window, length-lag_window}
use Rattle.pitch_fit.specs.Fit.{order, pitch_fit, fit_takes}

-- the correlations, 25, are taken by the window, and what it leaves of them by the predictor
module _
    (newest x w ac b lpc y : List Float)
    (s t : Bool)
    (l : length lpc ≡ order)
    (p : x ≡ newest)
    (q : w ≡ window)
    (r : ac ≡ celt_autocorr (windowed_ends x w) 25)
    (e : reply s b ≡ reply_if (leb (length ac) 65536) (lag_window ac) ac)
    (g : reply t y ≡ reply_if (eqb (length b) (length lpc + 1)) (celt_lpc b (length lpc)) lpc) where
  pub fit_is : (n : length newest ≡ half) → reply t y ≡ reply_if (fit_takes (length newest) (length lpc)) (pitch_fit newest) lpc
  unfolding pitch_fit fit_takes
  fit_is n =
      let k : length ac ≡ 25 = ap length r ∙ length-celt_autocorr _ 25 in
      let b' : b ≡ lag_window ac = reply-lent _ _ _ e (le-leb (length ac) 65536 (omega arith)) in
      let m : length b ≡ 25 = ap length b' ∙ length-lag_window ac ∙ k in
      let u : eqb (length b) (length lpc + 1) ≡ true = eq-eqb (length b) (length lpc + 1) (omega arith) in
      let y' : y ≡ celt_lpc b (length lpc) = reply-lent _ _ _ g u in
      ap (λ z. reply z y) (reply-taken _ _ _ g ∙ u)
      ∙ reply-yes _ _ _ (and_both (eqb (length newest) half) _ (eq-eqb _ _ n) (eq-eqb _ _ l))
      (y' ∙ (λ i. celt_lpc (b' i) (l i)) ∙ ap (λ v. celt_lpc (lag_window v) order) (r ∙ (λ i. celt_autocorr (windowed_ends (p i) (q i)) 25)))
