-- What the steps make together, over plain variables.
use mathlib.Core.Path.{◌≡◌, ap, ◌∙◌, sym}
use mathlib.Core.Bool.{Bool, true, ◌&&◌}
use mathlib.Core.List.{List, map}
use Prim.Native.Nat.{ℕ, ◌+◌, ◌-◌, ◌≤◌, ◌<◌}
use native.Mathlib.Omega.{arith}
use Rattle.std.proofs.Common.{length, get_or, take, drop, reverse, length-drop, take_all, get_or-drop}
use Rattle.std.proofs.lemmas.List.{get_or-reverse, length-reverse}
use Rattle.loops.specs.Front.{tab, tab-list, tab-same}
use Rattle.periodic_copy.proofs.Positions.{cycle-takes}
use lib.Dec.{eqb, leb}
use lib.Ieee.{Float, nan}
use borrow.Author.Tests.{eqb-true, leb-true, eq-eqb, le-leb}
use Rattle.loops.specs.Logic.{and-true}
use Rattle.reply.specs.Reply.{reply, reply_if, reply-lent}
use Rattle.buffers.specs.Buffers.{zero32, times}
use Rattle.history.specs.History.{half}
use Rattle.plc_fir.specs.Fir.{celt_fir}
use Rattle.plc_iir.specs.Iir.{celt_iir, iir_takes}
use Rattle.plc_iir_pair.specs.Pair.{channels, iir_pair_takes}
use Rattle.periodic_copy.specs.Copy.{copied_energy, cycle, cycle_takes}
use Rattle.excitation.specs.Cycle.{pitch_cycle}
use Rattle.energy_guard.specs.Guard.{guarded}
use Rattle.extrapolate.specs.Extrapolate.{order, longest, recent, excitation, fade, faded_cycle, length-faded_cycle, extrapolated, extrapolate_takes, extrapolate_pair_takes}

-- what an accepted call may go by
pub record Fits (m n lag : ℕ) : Type 0 where
  pub room : m ≤ longest
  pub whole : n ≡ half
  pub lag_low : 0 < lag
  pub lag_high : lag ≤ half

pub takes-fits : (m n lag : ℕ) → extrapolate_takes m n lag ≡ true → Fits m n lag
unfolding extrapolate_takes cycle_takes
takes-fits m n lag e =
    let p = and-true (leb m longest) (cycle_takes n lag) e in
    let q = and-true (eqb n half && leb 1 lag) (leb lag half) p.1 in
    let r = and-true (eqb n half) (leb 1 lag) q.0 in
    record {
      room = leb-true m longest p.0;
      whole = eqb-true n half r.0;
      lag_low = leb-true 1 lag r.1;
      lag_high = leb-true lag half q.1;
    }

pub pair-takes : (m0 m1 n0 n1 lag0 lag1 : ℕ) → m0 ≡ m1 → extrapolate_takes m0 n0 lag0 ≡ true → extrapolate_takes m1 n1 lag1 ≡ true
    → extrapolate_pair_takes m0 m1 n0 n1 lag0 lag1 ≡ true
unfolding extrapolate_pair_takes
pair-takes m0 m1 n0 n1 lag0 lag1 p q r = simp (eq-eqb m0 m1 p, q, r)

-- the newest 24 turned round
pub recent_is : (newest x y : List Float) (k : ℕ) → length newest ≡ half → k ≡ length newest - 1000 → x ≡ take k (drop 1000 newest) → y ≡ reverse x → y ≡ recent newest
unfolding recent
recent_is newest x y k l q p r =
    let z : List Float = drop 1000 newest in
    let n : length z ≡ order = omega (arith, length-drop 1000 newest) in
    r ∙ ap reverse (p ∙ take_all k z (omega (arith, length-drop 1000 newest)))
    ∙ sym (tab-list nan (reverse z))
    ∙ ap (tab (λ (i : ℕ). get_or (reverse z) i nan)) (length-reverse z ∙ n)
    ∙ tab-same _ _ order
    (λ j h. get_or-reverse z j nan (omega (arith, n)) ∙ get_or-drop 1000 newest _ nan
    ∙ (let e : 1000 + (length z - 1 - j) ≡ half - 1 - j = omega (arith, n) in ap (λ w. get_or newest w nan) e))

-- the cycle that was repeated, faded
pub faded_is : (m : ℕ) (newest lpc mem e₀ e1 e2 : List Float) (lag : ℕ) (first t : Bool) (s g : Float) → length newest ≡ half → 0 < lag → lag ≤ half
    → reply t (cycle e1 s) ≡ reply_if (cycle_takes (length newest) lag) (pitch_cycle m lpc mem newest lag) (cycle e₀ zero32)
    → g ≡ fade first → e2 ≡ map (times g) e1
    → (e2 ≡ faded_cycle m (celt_fir lpc mem newest) lag first) × (s ≡ copied_energy newest lag m)
unfolding pitch_cycle faded_cycle
faded_is m newest lpc mem e₀ e1 e2 lag first t s g l h k e p q =
    let r : cycle e1 s ≡ pitch_cycle m lpc mem newest lag = reply-lent _ _ _ e (cycle-takes (length newest) lag l h k) in
    (q ∙ ap (λ z. map (times z) e1) p ∙ ap (λ z. map (times (fade first)) z.samples) r, ap (λ z. z.energy) r)

-- the cycle is as long as it was asked for
cycle-length : (m : ℕ) (exc x : List Float) (lag : ℕ) (first : Bool) → x ≡ faded_cycle m exc lag first → length x ≡ m
cycle-length m exc x lag first p = ap length p ∙ length-faded_cycle m exc lag first

-- x: the faded cycle; y: through the all-pole filter; z: guarded
module _ (m : ℕ) (newest lpc mem x y z : List Float) (lag : ℕ) (first : Bool) (s : Float) (p : mem ≡ recent newest)
    (q : (x ≡ faded_cycle m (celt_fir lpc mem newest) lag first) × (s ≡ copied_energy newest lag m)) (g : z ≡ guarded s y) where
  guarded-is : y ≡ celt_iir lpc mem x → z ≡ extrapolated m newest lag first lpc
  unfolding extrapolated excitation
  guarded-is e =
      let x' : x ≡ faded_cycle m (celt_fir lpc (recent newest) newest) lag first = q.0 ∙ ap (λ w. faded_cycle m (celt_fir lpc w newest) lag first) p in
      let y' : y ≡ celt_iir lpc (recent newest) (faded_cycle m (celt_fir lpc (recent newest) newest) lag first) = e ∙ (λ i. celt_iir lpc (p i) (x' i)) in
      g ∙ (λ i. guarded (q.1 i) (y' i))

  pub iir-takes : m ≤ longest → iir_takes (length x) ≡ true
  iir-takes h = le-leb (length x) longest (omega (arith, cycle-length m (celt_fir lpc mem newest) x lag first q.0))

  pub extrapolate_is : (t : Bool) → m ≤ longest → reply t y ≡ reply_if (iir_takes (length x)) (celt_iir lpc mem x) x → z ≡ extrapolated m newest lag first lpc
  extrapolate_is t h e = guarded-is (reply-lent _ _ _ e (iir-takes h))

-- both channels, filtered side by side
module _ (m : ℕ) (new0 new1 lpc0 lpc1 mem0 mem1 x0 x1 y0 y1 z0 z1 : List Float) (lag0 lag1 : ℕ) (first : Bool) (s0 s1 : Float)
    (p0 : mem0 ≡ recent new0) (p1 : mem1 ≡ recent new1) (n : ℕ) (same : m ≡ n)
    (q0 : (x0 ≡ faded_cycle m (celt_fir lpc0 mem0 new0) lag0 first) × (s0 ≡ copied_energy new0 lag0 m))
    (q1 : (x1 ≡ faded_cycle n (celt_fir lpc1 mem1 new1) lag1 first) × (s1 ≡ copied_energy new1 lag1 n))
    (g0 : z0 ≡ guarded s0 y0) (g1 : z1 ≡ guarded s1 y1) where
  pub iir-pair-takes : m ≤ longest → iir_pair_takes (length x0) (length x1) ≡ true
  iir-pair-takes h =
      let l0 : length x0 ≡ m = cycle-length m (celt_fir lpc0 mem0 new0) x0 lag0 first q0.0 in
      let l1 : length x1 ≡ n = cycle-length n (celt_fir lpc1 mem1 new1) x1 lag1 first q1.0 in
      simp (eq-eqb (length x0) (length x1) (omega arith), le-leb (length x0) longest (omega arith))

  pub pair_is : (t : Bool) → m ≤ longest
      → reply t (channels y0 y1)
      ≡ reply_if (iir_pair_takes (length x0) (length x1)) (channels (celt_iir lpc0 mem0 x0) (celt_iir lpc1 mem1 x1)) (channels x0 x1)
      → channels z0 z1 ≡ channels (extrapolated m new0 lag0 first lpc0) (extrapolated n new1 lag1 first lpc1)
  pair_is t h e =
      let r : channels y0 y1 ≡ channels (celt_iir lpc0 mem0 x0) (celt_iir lpc1 mem1 x1) = reply-lent _ _ _ e (iir-pair-takes h) in
      let a0 = guarded-is m new0 lpc0 mem0 x0 y0 z0 lag0 first s0 p0 q0 g0 (ap (λ w. w.first) r) in
      let a1 = guarded-is n new1 lpc1 mem1 x1 y1 z1 lag1 first s1 p1 q1 g1 (ap (λ w. w.second) r) in
      λ i. channels (a0 i) (a1 i)
