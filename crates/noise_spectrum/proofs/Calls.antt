-- What the functions that call others rest on.
use mathlib.Core.Path.{◌≡◌, ap, ap₂, ◌∙◌, sym}
use mathlib.Core.List.{List, [], ◌++◌, append-nil}
use mathlib.Core.Bool.{true, ◌&&◌}
use Prim.Native.Nat.{ℕ, ◌*◌, ◌-◌, ◌≤◌}
use native.Mathlib.Omega.{arith}
use lib.ListN.{length, take, drop, replicate, length-drop, drop_of_length-le}
use lib.Seq.{length-take-le}
use lib.Dec.{leb, eqb}
use lib.Ieee.{Float}
use borrow.Author.Tests.{leb-true, le-leb, eq-eqb}
use Rattle.std.proofs.Common.{eqb-true}
use Rattle.loops.specs.Fold.{fold_range}
use Rattle.loops.specs.Logic.{and-true}
use Rattle.std.specs.Prelude.{Result, Ok, Err, is_ok}
use Rattle.reply.specs.declared.Refused.{Refused}
use Rattle.reply.specs.Reply.{Reply, replied, value_or, reply_if, reply-lent, reply-taken}
use Rattle.buffers.specs.Buffers.{zero32}
use Rattle.noise_shape.specs.Shape.{Shape, shaped, noise_shape}
use Rattle.noise_spectrum.specs.Spectrum.{gain_turn, bound, cleared, spectrum, spectrum_over, span_fits, spectrum_fits, spectrum_takes}

-- ---- the spectrum

pub spectrum-is : (m start end d seed b : ℕ) (energies bins x g y : List Float)
    → x ≡ (noise_shape m start seed bins).bins → g ≡ fold_range (gain_turn m energies) x start end → b ≡ bound m end d → b ≤ length g
    → y ≡ replicate (length (take (length g - b) (drop b g))) zero32
    → take b g ++ (y ++ drop (length g - b) (drop b g)) ≡ (spectrum_over m start end d seed energies bins).bins
unfolding spectrum_over cleared
spectrum-is m start end d seed b energies bins x g y ex eg eb h ey =
    let l = length-drop b g in
    let n : length (take (length g - b) (drop b g)) ≡ length g - b = length-take-le (length g - b) (drop b g) (omega arith) in
    let k : drop (length g - b) (drop b g) ≡ [] = drop_of_length-le (drop b g) {i = length g - b} (omega arith) in
    let w : g ≡ fold_range (gain_turn m energies) (noise_shape m start seed bins).bins start end =
    eg ∙ ap (λ z. fold_range (gain_turn m energies) z start end) ex in
    ap (λ z. take b g ++ z)
    (ap (λ z. y ++ z) k ∙ append-nil y ∙ ey ∙ ap (λ z. replicate z zero32) n)
    ∙ ap₂ (λ p q. take p q ++ replicate (length q - p) zero32) eb w

pub seed_is : (m start end d seed s : ℕ) (energies bins : List Float) → s ≡ (noise_shape m start seed bins).seed
    → s ≡ (spectrum_over m start end d seed energies bins).seed
unfolding spectrum_over
seed_is m start end d seed s energies bins e = e

-- over zeros it is the spectrum of a block
pub over_zeros : (m start end d seed : ℕ) (energies bins : List Float) → bins ≡ replicate (120 * m) zero32
    → ((spectrum_over m start end d seed energies bins).bins ≡ spectrum m start end d seed energies)
    × ((spectrum_over m start end d seed energies bins).seed ≡ (noise_shape m start seed (replicate (120 * m) zero32)).seed)
unfolding spectrum_over spectrum
over_zeros m start end d seed energies bins e = (
  ap (λ z. (spectrum_over m start end d seed energies z).bins) e,
  ap (λ z. (noise_shape m start seed z).seed) e,
)

-- ---- refusals

pub record Fits (m start end downsample : ℕ) : Type 0 where
  pub small : m ≤ 8
  pub some : start ≤ end
  pub last : end ≤ 21
  pub every : 1 ≤ downsample

fits : (m start end d : ℕ) → spectrum_fits m start end d ≡ true → Fits m start end d
unfolding spectrum_fits span_fits
fits m start end d e =
    let p = and-true (leb m 8) _ e in
    let q = and-true (leb start end) _ p.1 in
    let r = and-true (leb end 21) _ q.1 in
    record { small = leb-true m 8 p.0; some = leb-true start end q.0; last = leb-true end 21 r.0; every = leb-true 1 d r.1 }

pub takes : (m start end d k n : ℕ) → spectrum_takes m start end d k n ≡ true → Fits m start end d × (k ≡ 25) × (n ≡ 120 * m)
unfolding spectrum_takes
takes m start end d k n e =
    let p = and-true (spectrum_fits m start end d) _ e in
    let q = and-true (eqb k 25) _ p.1 in
    (fits m start end d p.0, eqb-true k 25 q.0, eqb-true n (120 * m) q.1)

takes-is : (m start end d k n : ℕ) → spectrum_fits m start end d ≡ true → k ≡ 25 → n ≡ 120 * m → spectrum_takes m start end d k n ≡ true
unfolding spectrum_takes
takes-is m start end d k n f l b = ap₂ ◌&&◌ f (ap₂ ◌&&◌ (eq-eqb k 25 l) (eq-eqb n (120 * m) b))

-- what a call that fits leaves over zeros
module _ (m start end d seed : ℕ) (energies bins : List Float) (f : Fits m start end d) (l : length energies ≡ 25) (b : length bins ≡ 120 * m) where
  all_fit : spectrum_fits m start end d ≡ true
  unfolding spectrum_fits span_fits
  all_fit =
      ap₂ ◌&&◌ (le-leb m 8 f.small) (ap₂ ◌&&◌ (le-leb start end f.some) (ap₂ ◌&&◌ (le-leb end 21 f.last) (le-leb 1 d f.every)))

  abbrev spectrum-reply : Reply Shape
  spectrum-reply =
      reply_if (spectrum_takes m start end d (length energies) (length bins)) (spectrum_over m start end d seed energies bins) (shaped bins seed)

  pub spectrum-left : {r : Result ℕ Refused} {y : List Float} {s : ℕ} → replied r (shaped y (value_or seed r)) ≡ spectrum-reply → r ≡ Ok s
      → bins ≡ replicate (120 * m) zero32
      → (y ≡ spectrum m start end d seed energies) × (s ≡ (noise_shape m start seed (replicate (120 * m) zero32)).seed)
  spectrum-left e h z =
      let q = reply-lent _ _ _ e (takes-is m start end d _ _ all_fit l b) in
      let o = over_zeros m start end d seed energies bins z in
      (ap (λ (x : Shape). x.bins) q ∙ o.0, ap (value_or seed) (sym h) ∙ ap (λ (x : Shape). x.seed) q ∙ o.1)

  -- it is not refused
  pub spectrum-taken : {r : Result ℕ Refused} {e : Refused} {y : Shape} → replied r y ≡ spectrum-reply → r ≡ Err e → ⊥
  spectrum-taken q e = let t = sym (ap is_ok e) ∙ reply-taken _ _ _ q ∙ takes-is m start end d _ _ all_fit l b in (cc)
