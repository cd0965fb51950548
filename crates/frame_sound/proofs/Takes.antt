-- When a frame's sound is made.
use mathlib.Core.Path.{◌≡◌}
use mathlib.Core.Bool.{true}
use Prim.Native.Nat.{ℕ, ◌≤◌}
use lib.Dec.{eqb, leb}
use borrow.Author.Tests.{eqb-true, leb-true, eq-eqb, le-leb}
use Rattle.loops.specs.Logic.{and-true, and_both}
use Rattle.history.specs.History.{whole}
use Rattle.settings.specs.Settings.{check_settings, needed}
use Rattle.settings.specs.declared.Settings.{Settings}
use Rattle.frame_sound.specs.FrameSound.{sound_takes}

module _ (k : Settings) (n p : ℕ) where
  pub takes-each : sound_takes k n p ≡ true → (check_settings k ≡ 0) × (n ≡ whole) × (needed k ≤ p)
  unfolding sound_takes
  takes-each e =
      let a = and-true (eqb (check_settings k) 0) _ e in
      let b = and-true (eqb n whole) (leb (needed k) p) a.1 in
      (eqb-true _ 0 a.0, eqb-true n whole b.0, leb-true _ p b.1)

  pub takes_all : check_settings k ≡ 0 → n ≡ whole → needed k ≤ p → sound_takes k n p ≡ true
  unfolding sound_takes
  takes_all e f g = and_both (eqb (check_settings k) 0) _ (eq-eqb _ 0 e) (and_both (eqb n whole) _ (eq-eqb n whole f) (le-leb _ p g))
