-- The guard on the synthesis's energy.
use Rattle.std.specs.Prelude.{◌≡◌, refl, Bool, true, false, cond, not, List, map, length, replicate, Float}
use Rattle.std.proofs.lemmas.List.{length-map, length-replicate}
use Rattle.std.specs.Float.{nan, inf, fin, binary32}
use Rattle.std.specs.Float.Ieee.{add, mul, div, lt, le, eq, of_bits, round}
use Rattle.float_root.specs.Root.{sqrt_of}
use Rattle.buffers.specs.Buffers.{zero32, one32, times, energy}

-- 0.2
abbrev pub fifth : Float
fifth = of_bits binary32 0x3e4c_cccd

-- x > y: not where either is NaN
unfoldable pub exceeds : Float → Float → Bool
exceeds x y = lt y x

-- s1 > 0.2 × s2 is false, a NaN's case too
unfoldable pub muted : Float → Float → Bool
muted s1 s2 = not (exceeds s1 (mul binary32 fifth s2))

-- a NaN on either side, and silence on both, zero the synthesis
pub nan_mutes : (s2 : Float) → muted nan s2 ≡ true
unfolding muted exceeds lt le eq
nan_mutes s2 = go (mul binary32 fifth s2)
  where
    go : (x : Float) → not (exceeds nan x) ≡ true
    go nan = refl
    go (inf s) = refl
    go (fin s m e) = refl

pub nan-muted : (s1 : Float) → muted s1 nan ≡ true
unfolding muted exceeds lt le eq mul of_bits
nan-muted s1 = refl

pub silence_muted : muted zero32 zero32 ≡ true
unfolding muted exceeds lt le eq mul of_bits round
silence_muted = refl

-- √((s1 + 1) / (s2 + 1))
unfoldable pub back_scale : Float → Float → Float
back_scale s1 s2 = sqrt_of (div binary32 (add binary32 s1 one32) (add binary32 s2 one32))

-- zeroed, scaled back where it has more energy than s1, or as it is
unfoldable pub guarded_at : Float → Float → List Float → List Float
guarded_at s1 s2 e = cond (muted s1 s2) (replicate (length e) zero32) (cond (lt s1 s2) (map (times (back_scale s1 s2)) e) e)

-- s2: the squares of all samples
unfoldable pub guarded : Float → List Float → List Float
guarded s1 e = guarded_at s1 (energy zero32 e) e

pub length-guarded : (s1 : Float) (e : List Float) → length (guarded s1 e) ≡ length e
unfolding guarded guarded_at
length-guarded s1 e = go (muted s1 (energy zero32 e)) (lt s1 (energy zero32 e))
  where
    go : (m b : Bool) → length (cond m (replicate (length e) zero32) (cond b (map (times (back_scale s1 (energy zero32 e))) e) e)) ≡ length e
    go true b = length-replicate (length e) _
    go false true = length-map e _
    go false false = refl
