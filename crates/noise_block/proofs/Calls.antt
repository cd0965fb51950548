-- What the functions that call others rest on.
use mathlib.Core.Path.{◌≡◌, ap, ap₂, ◌∙◌, sym}
use mathlib.Core.List.{List}
use mathlib.Core.Bool.{Bool, true}
use Prim.Native.Nat.{ℕ, ◌+◌, ◌*◌, ◌^◌, ◌≤◌, ◌<◌}
use native.Mathlib.Omega.{arith}
use lib.Pow.{pow_pos, pow_mono}
use lib.ListN.{length}
use lib.Dec.{leb, ltb, eqb}
use lib.Ieee.{Float}
use borrow.Author.Tests.{leb-true, ltb-true}
use Rattle.loops.specs.Front.{tab}
use Rattle.loops.specs.Logic.{and-true}
use Rattle.std.specs.Prelude.{Result}
use Rattle.std.proofs.Common.{eqb-true}
use Rattle.reply.specs.declared.Refused.{Refused}
use Rattle.reply.specs.Reply.{replied, value_or}
use Rattle.cosine_circle.specs.Circle.{is_frame_size, size-is-frame}
use Rattle.mdct.specs.Imdct.{imdct}
use Rattle.mdct_mirrored.specs.Mirrored.{transformed, mirrored_reply}
use Rattle.mdct_mirrored.proofs.Calls.{reply-same}
use Rattle.noise_spectrum.specs.Spectrum.{spectrum}
use Rattle.noise_spectrum.proofs.Calls as Spectrum
use Rattle.noise_block.specs.Block.{windowed, noise_block}
use Rattle.noise_block.specs.Call.{settings_fit, block_takes}

-- ---- the block factor

pub factor-in : (lm x : ℕ) → lm ≤ 3 → x ≡ 2 ^ lm → (x ≡ 2 ^ lm) × (1 ≤ x) × (x ≤ 8)
factor-in lm x h e =
    let p : 0 < 2 ^ lm = pow_pos lm in
    let q : 2 ^ lm ≤ 2 ^ 3 = pow_mono h in
    (e, omega arith, omega arith)

-- ---- the block

pub block-is : (m start end d seed : ℕ) (energies f out u w : List Float) (r : Result ℕ Refused) → is_frame_size (120 * m) ≡ true
    → f ≡ spectrum m start end d seed energies → length f ≡ 120 * m → length out ≡ 2 * (120 * m)
    → replied r (transformed u (value_or 0 r)) ≡ mirrored_reply f out → w ≡ tab (windowed (120 * m) u) (120 * m + 120)
    → w ≡ (noise_block m start end d seed energies).samples
unfolding noise_block
block-is m start end d seed energies f out u w r s ef lf lo eu ew =
    let v : u ≡ imdct (120 * m) (spectrum m start end d seed energies) =
    reply-same f out u _ _ (ap is_frame_size lf ∙ s) (omega arith) eu ∙ ap₂ imdct lf ef in
    ew ∙ ap (λ z. tab (windowed (120 * m) z) (120 * m + 120)) v

-- ---- refusals

pub record Fits (lm start end downsample : ℕ) : Type 0 where
  pub small : lm ≤ 3
  pub some : start < end
  pub last : end ≤ 21
  pub every : 1 ≤ downsample

fits : (lm start end d : ℕ) → settings_fit lm start end d ≡ true → Fits lm start end d
unfolding settings_fit
fits lm start end d e =
    let p = and-true (leb lm 3) _ e in
    let q = and-true (ltb start end) _ p.1 in
    let r = and-true (leb end 21) _ q.1 in
    record { small = leb-true lm 3 p.0; some = ltb-true start end q.0; last = leb-true end 21 r.0; every = leb-true 1 d r.1 }

frame-fits : (lm m : ℕ) → lm ≤ 3 → m ≡ 2 ^ lm → is_frame_size (120 * m) ≡ true
frame-fits lm m h e = ap (λ z. is_frame_size (120 * z)) e ∙ size-is-frame lm h

takes : (lm start end d k n : ℕ) → block_takes lm start end d k n ≡ true → Fits lm start end d × (k ≡ 25) × (n ≡ 120 * 2 ^ lm + 120)
unfolding block_takes
takes lm start end d k n e =
    let p = and-true (settings_fit lm start end d) _ e in
    let q = and-true (eqb k 25) _ p.1 in
    (fits lm start end d p.0, eqb-true k 25 q.0, eqb-true n _ q.1)

-- what the spectrum asks of them
spectrum-fits : (lm m start end d : ℕ) → Fits lm start end d → m ≡ 2 ^ lm → Spectrum.Fits m start end d
spectrum-fits lm m start end d f e =
    let p = factor-in lm m f.small e in
    record { small = p.2; some = (let s = f.some in omega arith); last = f.last; every = f.every }

-- what a call that is taken has, at block factor m
pub record Taken (lm start end downsample energies size m : ℕ) : Type 0 where
  pub bins : 120 * m ≤ 960
  pub outputs : 2 * (120 * m) ≤ 1920
  pub frame : is_frame_size (120 * m) ≡ true
  pub span : Spectrum.Fits m start end downsample
  pub all : energies ≡ 25
  pub long : size ≡ 120 * m + 120

pub taken : (lm start end d k n m : ℕ) (b : Bool) → b ≡ block_takes lm start end d k n → b ≡ true → m ≡ 2 ^ lm → Taken lm start end d k n m
taken lm start end d k n m b e t q =
    let f = takes lm start end d k n (sym e ∙ t) in
    let p = factor-in lm m f.0.small q in
    record {
      bins = omega arith;
      outputs = omega arith;
      frame = frame-fits lm m f.0.small q;
      span = spectrum-fits lm m start end d f.0 q;
      all = f.1;
      long = f.2 ∙ ap (λ z. 120 * z + 120) (sym q);
    }

pub taken-small : (lm start end d k n : ℕ) (b : Bool) → b ≡ block_takes lm start end d k n → b ≡ true → lm ≤ 3
taken-small lm start end d k n b e t = (takes lm start end d k n (sym e ∙ t)).0.small
