-- What is known of the two best places and of a found offset, whatever the samples are.
use Rattle.std.specs.Prelude.{◌≡◌, refl, Bool, true, false, cond, ◌&&◌, List, ℕ, ◌+◌, ◌*◌, ◌-◌, ◌≤◌, ◌<◌, ltb, get_or, Float}
use Rattle.std.proofs.Common.{arith, ltb-true}
use Rattle.std.specs.Float.{nan, binary32}
use Rattle.std.specs.Float.Ieee.{sub, mul, lt}
use Rattle.loops.specs.Fold.{fold-holds}
use Rattle.loops.specs.Logic.{cond_either}
use Rattle.buffers.specs.Buffers.{zero32}
use Rattle.plc_best.specs.declared.Candidate.{Candidate}
use Rattle.plc_best.specs.declared.Best.{Best}
use Rattle.plc_best.specs.Best.{beats, ranked, considered, sweep_turn, sweep_to, find_best_pitch}
use Rattle.plc_search.specs.Search.{fine, coarse_best, fine_best, seven_tenths, interpolated, refined, pitch_search}

-- both places are among the first n
pub record Within (n : ℕ) (b : Best) : Type 0 where
  pub first : b.first.at < n
  pub second : b.second.at < n

ranked-within : (n : ℕ) (b : Best) (c : Candidate) → c.at < n → Within n b → Within n (ranked b c)
unfolding ranked
ranked-within n b c h w = go (beats c b.second) (beats c b.first)
  where
    go : (p q : Bool) → Within n (cond p (cond q (record { first = c; second = b.first }) (record { first = b.first; second = c })) b)
    go true true = record { first = h; second = w.first }
    go true false = record { first = w.first; second = h }
    go false q = w

considered-within : (n : ℕ) (b : Best) (x syy : Float) (i : ℕ) → i < n → Within n b → Within n (considered b x syy i)
unfolding considered
considered-within n b x syy i h w =
    let c : Candidate = record { num = mul binary32 x x; den = syy; at = i } in
    cond_either (Within n) (lt zero32 x) (ranked b c) b (ranked-within n b c h w) w

-- of two places or more, the two best are among them
pub best-within : (xcorr y : List Float) (len n : ℕ) → 1 < n → Within n (find_best_pitch xcorr y len n)
unfolding find_best_pitch sweep_to sweep_turn
best-within xcorr y len n h =
    fold-holds (λ s. Within n s.best) (sweep_turn xcorr y len) _ n (record { first = omega arith; second = h })
    (λ s i l w. considered-within n s.best (get_or xcorr i nan) s.syy i l w)

-- ---- the found offset is from 0 to 618
interpolated-le : (p : ℕ) (a b c : Float) → interpolated p a b c ≤ 2 * p + 1
unfolding interpolated
interpolated-le p a b c =
    go (lt (mul binary32 seven_tenths (sub binary32 b a)) (sub binary32 c a)) (lt (mul binary32 seven_tenths (sub binary32 b c)) (sub binary32 a c))
  where
    go : (s t : Bool) → cond s (2 * p - 1) (cond t (2 * p + 1) (2 * p)) ≤ 2 * p + 1
    go true t = omega arith
    go false true = omega arith
    go false false = omega arith

refined-le : (xcorr : List Float) (p : ℕ) → p < 310 → refined xcorr p ≤ 618
unfolding refined
refined-le xcorr p h = go (ltb 0 p) (ltb p 309) (ltb-true p 309)
  where
    go : (s t : Bool) → (t ≡ true → p < 309)
        → cond (s && t) (interpolated p (get_or xcorr (p - 1) nan) (get_or xcorr p nan) (get_or xcorr (p + 1) nan)) (2 * p) ≤ 618
    go true true k = omega (arith, k refl, interpolated-le p (get_or xcorr (p - 1) nan) (get_or xcorr p nan) (get_or xcorr (p + 1) nan))
    go true false k = omega arith
    go false t k = omega arith

pub offset-le : (y : List Float) → pitch_search y ≤ 618
unfolding pitch_search fine_best
offset-le y = refined-le (fine y (coarse_best y)) _ (best-within (fine y (coarse_best y)) y 664 310 (omega arith)).first

-- so the lag is from 102 to 720
pub record InLags (lag : ℕ) : Type 0 where
  pub least : 102 ≤ lag
  pub most : lag ≤ 720

pub lag_in : (y : List Float) → InLags (720 - pitch_search y)
lag_in y = record { least = omega (arith, offset-le y); most = omega arith }
