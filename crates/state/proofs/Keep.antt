-- What every state of a run has, and what it is refused by.
use mathlib.Core.Path.{◌≡◌, refl, sym}
use mathlib.Core.List.{List}
use Prim.Native.Nat.{ℕ, zero, suc, ◌≤◌, ◌<◌}
use native.Mathlib.Omega.{arith}
use mathlib.Core.Bool.{Bool, cond, true, false, not, ◌&&◌, ◌||◌}
use lib.ListN.{length}
use lib.Ieee.{Float}
use lib.Dec.{leb, eqb}
use borrow.Author.Tests.{leb-true, leb-false, le-leb, eqb-true, eq-eqb, not-false}
use Rattle.std.proofs.Math.Bool.{or-true, and-true as and-same}
use Rattle.loops.specs.Logic.{and-true, or-false}
use Rattle.history.specs.History.{whole}
use Rattle.post_filter.specs.Limits.{filter_fits}
use Rattle.settings.specs.Number.{or_else, within}
use Rattle.settings.specs.Settings.{check_settings, needed}
use Rattle.state.specs.State.{core, noisy, searches}
use Rattle.state.specs.Refusal.{lag_least, lag_most, check_count, check_lag, check_filter, check_pcm, refuses_state, refusal, AcceptedState}
use Rattle.settings.specs.declared.Settings.{Settings}
use Rattle.state.specs.declared.State.{State}
use Rattle.settings.proofs.Passed.{or-zero, passes}

-- none of 1 to 5 and 7 to 9, though 6 may come to apply
pub record Ok (s : State) (h : List Float) : Type 0 where
  pub settings : check_settings s.settings ≡ 0
  pub lag : check_lag s.settings.start s.loss_count s.lag ≡ 0
  pub filter : filter_fits s.filter ≡ true
  pub history : length h ≡ whole

pub ok-start : (s : State) (h : List Float) → AcceptedState s h → Ok s h
unfolding refuses_state
ok-start s h e =
    let p = or-zero (check_settings s.settings) _ e in
    let q = or-zero (check_count s.loss_count) _ p.1 in
    let r = or-zero (check_lag s.settings.start s.loss_count s.lag) _ q.1 in
    let t = or-zero (check_filter s.filter) _ r.1 in
    record {
      settings = p.0;
      lag = r.0;
      filter = passes (filter_fits s.filter) 7 t.0;
      history = eqb-true (length h) whole (passes (eqb (length h) whole) 8 t.1);
    }

-- in a run only 6 and 10 are left
unfoldable pub gate : Settings → ℕ → ℕ → ℕ
gate k c p = or_else (check_count c) (check_pcm (needed k) p)

none-else : (b p : ℕ) → or_else (or_else 0 (or_else b (or_else 0 (or_else 0 0)))) p ≡ or_else b p
unfolding or_else
none-else zero p = refl
none-else (suc b) p = refl

pub ok-gate : (s : State) (h : List Float) (p : ℕ) → Ok s h → refusal s (length h) p ≡ gate s.settings s.loss_count p
unfolding refusal refuses_state gate
ok-gate s h p o =
    rw (o.settings, o.lag, o.filter, eq-eqb (length h) whole o.history) (none-else (check_count s.loss_count) (check_pcm (needed s.settings) p))

-- the lag check, as a fact and back
pub lag_range : (start c lag : ℕ) → check_lag start c lag ≡ 0 → start ≡ 0 → 1 ≤ c → c ≤ 4 → (lag_least ≤ lag) × (lag ≤ lag_most)
lag_range start c lag e z l m =
    let p : cond (within lag_least lag_most lag) 0 (suc 6) ≡ 0 = rw (eq-eqb start 0 z, le-leb 1 c l, le-leb c 4 m) at e in
    let r = and-true (leb lag_least lag) (leb lag lag_most) (passes (within lag_least lag_most lag) 6 p) in
    (leb-true lag_least lag r.0, leb-true lag lag_most r.1)

pub range_lag : (start c lag : ℕ) → (start ≡ 0 → 1 ≤ c → c ≤ 4 → (lag_least ≤ lag) × (lag ≤ lag_most)) → check_lag start c lag ≡ 0
range_lag start c lag f = go (eqb start 0) (leb 1 c) (leb c 4) refl refl refl
  where
    go : (a b d : Bool) → eqb start 0 ≡ a → leb 1 c ≡ b → leb c 4 ≡ d → cond {A = ℕ} (a && (b && d)) (cond (within lag_least lag_most lag) 0 7) 0 ≡ 0
    go false b d p q r = refl
    go true false d p q r = refl
    go true true false p q r = refl
    go true true true p q r =
        let w = f (eqb-true start 0 p) (leb-true 1 c q) (leb-true c 4 r) in
        rw (le-leb lag_least lag w.0, le-leb lag lag_most w.1)

-- a noise state stays one
pub noisy-more : (k : Settings) (c d : ℕ) (u v : ℕ) (e f g h : List Float)
    → noisy (record { settings = k; count = c; seed = u; coarse = e; background = f }) ≡ true → c ≤ d
    → noisy (record { settings = k; count = d; seed = v; coarse = g; background = h }) ≡ true
unfolding noisy
noisy-more k c d u v e f g h n l = go (leb 5 c) refl n
  where
    go : (a : Bool) → leb 5 c ≡ a → (a || not (eqb k.start 0)) ≡ true → (leb 5 d || not (eqb k.start 0)) ≡ true
    go true p q = rw (le-leb 5 d (omega (arith, leb-true 5 c p)))
    go false p q = rw q (or-true (leb 5 d))

-- a pitch loss: start 0 and loss count 0 to 4
module _ (s : State) (e : noisy (core s) ≡ false) where
  pub pitch_start : s.settings.start ≡ 0
  unfolding noisy
  pitch_start =
      eqb-true s.settings.start 0 (not-false (eqb s.settings.start 0) (or-false (leb 5 s.loss_count) (not (eqb s.settings.start 0)) e).1)

  pub pitch_count : s.loss_count < 5
  unfolding noisy
  pitch_count = leb-false 5 s.loss_count (or-false (leb 5 s.loss_count) (not (eqb s.settings.start 0)) e).0

  -- the first searches, and a later one does not
  pub pitch_searches : searches s ≡ eqb s.loss_count 0
  unfolding searches
  pitch_searches = rw (eq-eqb s.settings.start 0 pitch_start) (and-same (eqb s.loss_count 0))

-- a noise loss searches nothing
pub noise_searches : (s : State) → noisy (core s) ≡ true → searches s ≡ false
unfolding searches noisy
noise_searches s e = go (eqb s.loss_count 0) (eqb s.settings.start 0) refl e
  where
    go : (a b : Bool) → eqb s.loss_count 0 ≡ a → (leb 5 s.loss_count || not b) ≡ true → (a && b) ≡ false
    go true true p r =
        let c : s.loss_count ≡ 0 = eqb-true s.loss_count 0 p in
        let w : false ≡ true = rw c at r in
        sym w
    go true false p r = refl
    go false b p r = refl
