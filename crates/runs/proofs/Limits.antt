-- The limits on what a concealed frame can depend on: the theorem.
use mathlib.Core.Path.{◌≡◌, refl, ap, ap₂, sym, ◌∙◌, subst, subst₂}
use mathlib.Core.List.{List, [], ◌∷◌}
use Prim.Native.Nat.{ℕ, zero, suc, ◌+◌, ◌*◌, ◌-◌, ◌≤◌}
use native.Mathlib.Omega.{arith}
use native.Mathlib.Nat.{add-mul, zero-mul, one-mul}
use mathlib.Core.Bool.{Bool, cond, true, false, ◌&&◌}
use lib.ListN.{drop}
use lib.Ieee.{Float}
use lib.Dec.{eqb}
use borrow.Author.Tests.{eqb-true, ne_eqb}
use Rattle.draw.specs.Draw.{draws}
use Rattle.draw.proofs.Draws.{draws-add}
use Rattle.history.specs.History.{half, Tails, tails, both}
use Rattle.history.proofs.Parts.{newest-tails}
use Rattle.settings.specs.Settings.{frame, stereo, needed, draws_per_loss}
use Rattle.state.specs.State.{Core, core, noisy, searches}
use Rattle.state.specs.Refusal.{AcceptedState}
use Rattle.state.specs.declared.State.{State}
use Rattle.settings.proofs.Passed.{frame-high}
use Rattle.state.proofs.Keep.{Ok, ok-start, gate, ok-gate, noisy-more}
use Rattle.deemphasis.specs.Deemphasis.{Sound, deemphasis}
use Rattle.noise_loss.specs.Loss.{noise_seed}
use Rattle.finish.specs.declared.Made.{Made}
use Rattle.loss.specs.Loss.{Outcome, lowered, blocks, noise_made, pitch_made, made, tails_after, history_after, frame_sound, finish, concealed, refused, answered, loss}
use Rattle.runs.specs.Run.{Call, called, run, last_state, last_history, noise_count, noise_losses, EachCall, SameButOldest, ahead, SameAhead, Limited}
use Rattle.loss.proofs.Keep.{after-tails, ok-after}
use Rattle.runs.proofs.Noise.{heard_same, new_over, new_over_two, noise_ahead, noise_over, noise_over-two, noise_draws}

-- a refused call is no noise loss
refused_none : (s : State) (h : List Float) (m : ℕ) → noise_count s (answered (suc m) s h) ≡ 0
unfolding answered refused noise_count
refused_none s h m = rw (ne_eqb (suc m) 0 (λ z. omega arith))

-- an accepted one is, where its state is a noise state
concealed_noise : (s : State) (h : List Float) → noise_count s (concealed s h) ≡ cond (noisy (core s)) 1 0
unfolding concealed finish noise_count
concealed_noise s h = refl

-- an accepted call's number is 0, and it leaves the history that it made
accepted : (s : State) (h : List Float) → (concealed s h).report.number ≡ 0
unfolding concealed finish
accepted s h = refl

-- ---- (a)

record PairA (n : ℕ) (s r : State) (o p : Outcome) : Type 0 where
  same : SameButOldest n s r o p
  ok_o : Ok o.state o.history
  ok_p : Ok p.state p.history
  late : searches o.state ≡ false

module _ (n : ℕ) (s : State) (h g : List Float) (o : Ok s h) (q : Ok s g) (late : searches s ≡ false) (e : tails h ≡ tails g) where
  pitch_same : pitch_made s h ≡ pitch_made s g
  unfolding pitch_made
  pitch_same = rw late

  made-same : made s h ≡ made s g
  unfolding made
  made-same = ap (cond (noisy (core s)) (noise_made s)) pitch_same

  tails-same : tails (history_after s h) ≡ tails (history_after s g)
  tails-same = after-tails s h o ∙ ap₂ (tails_after s) made-same e ∙ sym (after-tails s g q)

  sound-same : frame_sound s.settings s.memories (history_after s h) ≡ frame_sound s.settings s.memories (history_after s g)
  unfolding frame_sound
  sound-same =
      let k = s.settings in
      let n = frame k in
      let l : n ≤ half = omega (arith, frame-high k o.settings) in
      ap (λ vs. deemphasis k.downsample vs s.memories)
      (newest-tails (stereo k) n (history_after s h) l
      ∙ ap (λ (t : Tails). both (stereo k) (drop (half - n) t.first.new) (drop (half - n) t.second.new)) tails-same
      ∙ sym (newest-tails (stereo k) n (history_after s g) l))

  concealed-a : PairA n s s (concealed s h) (concealed s g)
  unfolding concealed finish searches
  concealed-a = record {
    same = record {
      report = ap (λ (m : Made). record { number = 0; kind = m.kind; samples = needed s.settings }) made-same;
      pcm = ap (λ (z : Sound). z.pcm) sound-same;
      state = λ i. record {
        settings = s.settings;
        loss_count = s.loss_count + 1;
        seed = (made-same i).seed;
        lag = (made-same i).lag;
        filter = s.filter;
        coarse = (made-same i).coarse;
        background = s.background;
        memories = (sound-same i).memories;
        predictor = (made-same i).predictor;
      };
      tails = tails-same;
    };
    ok_o = ok-after s h o;
    ok_p = ok-after s g q;
    late = rw (ne_eqb (s.loss_count + 1) 0 (λ z. omega arith));
  }

  answered-a : (m : ℕ) → PairA n s s (answered m s h) (answered m s g)
  unfolding answered refused
  answered-a zero = concealed-a
  answered-a (suc m) = record { same = record { report = refl; pcm = refl; state = refl; tails = e }; ok_o = o; ok_p = q; late = late }

  called-a : (c : Call) → PairA n s s (called c s h) (called c s g)
  unfolding called loss
  called-a c =
      subst₂ (λ u v. PairA n s s (answered u s h) (answered v s g)) (sym (ok-gate s h c.pcm o)) (sym (ok-gate s g c.pcm q))
      (answered-a (gate s.settings s.loss_count c.pcm))

run-a : (calls : List Call) (n : ℕ) (s r : State) (h g : List Float) → s ≡ r → Ok s h → Ok r g → searches s ≡ false → tails h ≡ tails g
    → EachCall SameButOldest n s r (run calls s h) (run calls r g)
unfolding run
run-a [] n s r h g w o q late e = tt
run-a (c ∷ cs) n s r h g w o q late e =
    subst (λ z. EachCall SameButOldest n s z (run (c ∷ cs) s h) (run (c ∷ cs) z g)) w
    (let y = called-a n s h g o (subst (λ z. Ok z g) (sym w) q) late e c in
    (y.same, run-a cs _ _ _ _ _ y.same.state y.ok_o y.ok_p y.late y.same.tails))

-- ---- (b)

-- the state is a noise state, and the used channels' overlaps are equal
record Later (s : State) (t u : Tails) : Type 0 where
  noisy : noisy (core s) ≡ true
  first : t.first.over ≡ u.first.over
  second : stereo s.settings ≡ true → t.second.over ≡ u.second.over

record PairB (n : ℕ) (s r : State) (o p : Outcome) : Type 0 where
  same : SameAhead n s r o p
  ok_o : Ok o.state o.history
  ok_p : Ok p.state p.history
  cores : core o.state ≡ core p.state
  later : 1 ≤ n + noise_count s o → Later o.state (tails o.history) (tails p.history)

-- the core after a loss is a function of the core before
core_after : Core → Core
core_after c = record {
  settings = c.settings;
  count = c.count + 1;
  seed = cond (noisy c) (noise_seed (stereo c.settings) (blocks c)) c.seed;
  coarse = cond (noisy c) (lowered c) c.coarse;
  background = c.background;
}

core-after : (s : State) (h : List Float) → core (concealed s h).state ≡ core_after (core s)
unfolding concealed finish made noise_made pitch_made core_after
core-after s h = go (noisy (core s))
  where
    go : (b : Bool) → core (finish s (cond b (noise_made s) (pitch_made s h)) (history_after s h)).state
        ≡ record {
          settings = s.settings;
          count = s.loss_count + 1;
          seed = cond b (noise_seed (stereo s.settings) (blocks (core s))) s.seed;
          coarse = cond b (lowered (core s)) s.coarse;
          background = s.background;
        }
    go true = refl
    go false = refl

one-most : (b : Bool) → cond b 1 0 ≤ 1
one-most true = omega arith
one-most false = omega arith

module _ (n : ℕ) (s r : State) (h g : List Float) (o : Ok s h) (q : Ok r g) (e : core s ≡ core r) (l : 1 ≤ n → Later s (tails h) (tails g)) where
  ahead-same : Later s (tails h) (tails g) → ahead s.settings (history_after s h) ≡ ahead s.settings (history_after r g)
  ahead-same y =
      noise_ahead s h o y.noisy
      ∙ heard_same (core s) (core r) _ _ _ _ e y.first y.second
      ∙ sym (noise_ahead r g q (ap noisy (sym e) ∙ y.noisy))
      ∙ ap (λ (c : Core). ahead c.settings (history_after r g)) (sym e)

  later_noise : noisy (core s) ≡ true → Later (concealed s h).state (tails (concealed s h).history) (tails (concealed r g).history)
  unfolding concealed finish
  later_noise z =
      let y : noisy (core r) ≡ true = ap noisy (sym e) ∙ z in
      record {
        noisy = noisy-more s.settings s.loss_count (s.loss_count + 1) _ _ _ _ _ _ z (omega arith);
        first = noise_over s h o z ∙ ap new_over e ∙ sym (noise_over r g q y);
        second = λ b. noise_over-two s h o z b ∙ ap new_over_two e ∙ sym (noise_over-two r g q y (ap (λ (c : Core). stereo c.settings) (sym e) ∙ b));
      }

  later-after : (b : Bool) → noisy (core s) ≡ b → 1 ≤ n + cond b 1 0
      → Later (concealed s h).state (tails (concealed s h).history) (tails (concealed r g).history)
  later-after true z w = later_noise z
  later-after false z w = later_noise (l (omega arith)).noisy

  concealed-b : PairB n s r (concealed s h) (concealed r g)
  unfolding concealed finish
  concealed-b = record {
    same = record {
      number = accepted s h ∙ sym (accepted r g);
      path = ap noisy e;
      ahead = λ w z. ahead-same (l (omega (arith, one-most (noisy (core s)), concealed_noise s h)));
    };
    ok_o = ok-after s h o;
    ok_p = ok-after r g q;
    cores = core-after s h ∙ ap core_after e ∙ sym (core-after r g);
    later = λ w. later-after (noisy (core s)) refl (omega (arith, concealed_noise s h));
  }

  answered-b : (m : ℕ) → PairB n s r (answered m s h) (answered m r g)
  unfolding answered refused noise_count
  answered-b zero = concealed-b
  answered-b (suc m) = record {
    same = record { number = refl; path = ap noisy e; ahead = λ w z. let y : ⊥ = omega arith in absurd y };
    ok_o = o;
    ok_p = q;
    cores = e;
    later = λ w. l (omega (arith, refused_none s h m));
  }

  called-b : (c : Call) → PairB n s r (called c s h) (called c r g)
  unfolding called loss
  called-b c =
      subst₂ (λ u v. PairB n s r (answered u s h) (answered v r g)) (sym (ok-gate s h c.pcm o))
      (ap (λ (z : Core). gate z.settings z.count c.pcm) e ∙ sym (ok-gate r g c.pcm q)) (answered-b (gate s.settings s.loss_count c.pcm))

run-b : (calls : List Call) (n : ℕ) (s r : State) (h g : List Float) → Ok s h → Ok r g → core s ≡ core r → (1 ≤ n → Later s (tails h) (tails g))
    → EachCall SameAhead n s r (run calls s h) (run calls r g)
unfolding run
run-b [] n s r h g o q e l = tt
run-b (c ∷ cs) n s r h g o q e l =
    let y = called-b n s r h g o q e l c in
    (y.same, run-b cs _ _ _ _ _ y.ok_o y.ok_p y.cores y.later)

-- ---- (c)

record DrawsC (s : State) (o : Outcome) : Type 0 where
  ok_o : Ok o.state o.history
  settings : o.state.settings ≡ s.settings
  seed : o.state.seed ≡ draws (noise_count s o * draws_per_loss s.settings) s.seed

module _ (s : State) (h : List Float) (o : Ok s h) where
  d : ℕ
  d = draws_per_loss s.settings

  seed_by : (b : Bool) → cond b (noise_seed (stereo s.settings) (blocks (core s))) s.seed ≡ draws (cond b 1 0 * d) s.seed
  unfolding draws blocks d
  seed_by true = noise_draws s.settings o.settings s.seed _ ∙ ap (λ n. draws n s.seed) (sym (one-mul d))
  seed_by false = ap (λ n. draws n s.seed) (sym (zero-mul d))

  seed_after : (concealed s h).state.seed ≡ cond (noisy (core s)) (noise_seed (stereo s.settings) (blocks (core s))) s.seed
  unfolding core_after
  seed_after = ap (λ (c : Core). c.seed) (core-after s h)

  concealed-c : DrawsC s (concealed s h)
  unfolding d concealed finish
  concealed-c = record {
    ok_o = ok-after s h o;
    settings = refl;
    seed = seed_after ∙ seed_by (noisy (core s)) ∙ ap (λ n. draws (n * d) s.seed) (sym (concealed_noise s h));
  }

  answered-c : (m : ℕ) → DrawsC s (answered m s h)
  unfolding answered refused draws d
  answered-c zero = concealed-c
  answered-c (suc m) = record {
    ok_o = o;
    settings = refl;
    seed = sym (ap (λ n. draws (n * d) s.seed) (refused_none s h m) ∙ ap (λ n. draws n s.seed) (zero-mul d));
  }

  called-c : (c : Call) → DrawsC s (called c s h)
  unfolding called loss
  called-c c = answered-c _

run-c : (calls : List Call) (s : State) (h : List Float) → Ok s h
    → (last_state s (run calls s h)).seed ≡ draws (noise_losses s (run calls s h) * draws_per_loss s.settings) s.seed
unfolding run last_state noise_losses draws
run-c [] s h o = ap (λ n. draws n s.seed) (sym (zero-mul (draws_per_loss s.settings)))
run-c (c ∷ cs) s h o =
    let y = called-c s h o c in
    let m = noise_losses (called c s h).state (run cs (called c s h).state (called c s h).history) in
    let n = noise_count s (called c s h) in
    let d = draws_per_loss s.settings in
    run-c cs _ _ y.ok_o
    ∙ ap₂ (λ k z. draws (m * draws_per_loss k) z) y.settings y.seed
    ∙ sym (draws-add (n * d) (m * d) s.seed)
    ∙ ap (λ z. draws z s.seed) (sym (add-mul n m d))

run_ok : (calls : List Call) (s : State) (h : List Float) → Ok s h → Ok (last_state s (run calls s h)) (last_history h (run calls s h))
unfolding run last_state last_history
run_ok [] s h o = o
run_ok (c ∷ cs) s h o = run_ok cs _ _ (called-c s h o c).ok_o

-- ---- the theorem

late-start : (s : State) → ¬ ((s.loss_count ≡ 0) × (s.settings.start ≡ 0)) → searches s ≡ false
unfolding searches
late-start s w = go (eqb s.loss_count 0) (eqb s.settings.start 0) refl refl
  where
    go : (a b : Bool) → eqb s.loss_count 0 ≡ a → eqb s.settings.start 0 ≡ b → (a && b) ≡ false
    go true true p q = absurd (w (eqb-true s.loss_count 0 p, eqb-true s.settings.start 0 q))
    go true false p q = refl
    go false b p q = refl

-- an accepted state stays accepted through a run, as far as 1 to 5 and 7 to 9 go: only 6 and 10 can come to apply
pub stays_accepted : (calls : List Call) (s : State) (h : List Float) → AcceptedState s h
    → Ok (last_state s (run calls s h)) (last_history h (run calls s h))
stays_accepted calls s h p = run_ok calls s h (ok-start s h p)

-- the limits, for every list of calls
pub limited : (calls : List Call) → Limited calls
limited calls = record {
  a = λ s h g p q w e. run-a calls 0 s s h g refl (ok-start s h p) (ok-start s g q) (late-start s w) e;
  b = λ s r h g p q e. run-b calls 0 s r h g (ok-start s h p) (ok-start r g q) e (λ w. let z : ⊥ = omega arith in absurd z);
  c = λ s h p. run-c calls s h (ok-start s h p);
}
