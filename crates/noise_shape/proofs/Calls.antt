-- What a call that fits leaves, and one that does not.
use mathlib.Core.Path.{◌≡◌, ap, ap₂, ◌∙◌, sym}
use mathlib.Core.List.{List}
use mathlib.Core.Bool.{true, ◌&&◌}
use Prim.Native.Nat.{ℕ, ◌+◌, ◌*◌, ◌≤◌, ◌<◌}
use native.Mathlib.Omega.{arith}
use lib.ListN.{length}
use lib.Dec.{leb}
use lib.Ieee.{Float}
use borrow.Author.Tests.{leb-true, le-leb}
use Rattle.custom_mode.specs.Mode.{edge}
use Rattle.loops.specs.Logic.{and-true}
use Rattle.std.specs.Prelude.{Result, Ok, Err, is_ok}
use Rattle.reply.specs.declared.Refused.{Refused}
use Rattle.reply.specs.Reply.{Reply, replied, value_or, reply_if, reply-lent, reply-taken}
use Rattle.noise_shape.specs.Shape.{lo, band_in, Shape, shaped, noise_shape, shape_takes}

pub fits : (m start size : ℕ) → shape_takes m start size ≡ true → (m ≤ 8) × (start ≤ 21) × (m * 100 ≤ size)
unfolding shape_takes
fits m start size e =
    let p = and-true (leb m 8) _ e in
    let q = and-true (leb start 21) _ p.1 in
    (leb-true m 8 p.0, leb-true start 21 q.0, leb-true (m * 100) size q.1)

takes : (m start size : ℕ) → m ≤ 8 → start ≤ 21 → m * 100 ≤ size → shape_takes m start size ≡ true
unfolding shape_takes
takes m start size h k l = ap₂ ◌&&◌ (le-leb m 8 h) (ap₂ ◌&&◌ (le-leb start 21 k) (le-leb (m * 100) size l))

-- a shape from its parts
pub shape-done : {s : ℕ} {y : List Float} {z : Shape} → s ≡ z.seed → y ≡ z.bins → shaped y s ≡ z
shape-done es ey = ap₂ shaped ey es

module _ (m start seed : ℕ) (bins : List Float) where
  abbrev shape-reply : Reply Shape
  shape-reply = reply_if (shape_takes m start (length bins)) (noise_shape m start seed bins) (shaped bins seed)

  -- what a call that fits leaves
  pub shape-left : {r : Result ℕ Refused} {s : ℕ} {y : List Float} → m ≤ 8 → start ≤ 21 → m * 100 ≤ length bins
      → replied r (shaped y (value_or seed r)) ≡ shape-reply → r ≡ Ok s
      → (s ≡ (noise_shape m start seed bins).seed) × (y ≡ (noise_shape m start seed bins).bins)
  shape-left h k l q e =
      let p = reply-lent _ _ _ q (takes m start (length bins) h k l) in
      (ap (value_or seed) (sym e) ∙ ap (λ (x : Shape). x.seed) p, ap (λ (x : Shape). x.bins) p)

  -- a call that fits is not refused
  pub shape-takes : {r : Result ℕ Refused} {e : Refused} {y : Shape} → m ≤ 8 → start ≤ 21 → m * 100 ≤ length bins → replied r y ≡ shape-reply
      → r ≡ Err e → ⊥
  shape-takes h k l q e = let t = sym (ap is_ok e) ∙ reply-taken _ _ _ q ∙ takes m start (length bins) h k l in (cc)

-- band i starts within the bins
pub begins : (m i a : ℕ) → a ≡ edge i → i < 21 → m * a ≤ m * 100
begins m i a p h =
    let lower : m * a ≡ lo m i = ap (λ z. m * z) p in
    let v = band_in m i h in
    omega arith

-- and ends there
pub ends : (m i a e : ℕ) → a ≡ edge i → e ≡ edge (i + 1) → i < 21 → (m * a ≤ m * e) × (m * e ≤ m * 100)
ends m i a e p q h =
    let lower : m * a ≡ lo m i = ap (λ z. m * z) p in
    let upper : m * e ≡ lo m (i + 1) = ap (λ z. m * z) q in
    let v = band_in m i h in
    (omega arith, omega arith)
