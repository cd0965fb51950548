-- The samples before j are written.
use mathlib.Core.Path.{ap, ◌∙◌}
use Prim.Native.Nat.{◌+◌, ◌-◌, ◌/◌}
use lib.ListN.{length, get_or}
use lib.Ieee.{nan, binary32, of_bits, mul}
use borrow.Author.Rules.{rules}
use Rattle.loops.specs.Front.{tab, tab-none, tab-more, tab-all}
use Rattle.celt_window.specs.Window.{low_overlap_window}
use Rattle.noise_block.specs.Block.{windowed}
use Rattle.noise_block.proofs.block.window_outputs.Goals as goal

pub loop-j-init : goal.loop-j-init
loop-j-init c = tab-none _ _

pub loop-j-preserved : goal.loop-j-preserved
unfolding windowed
loop-j-preserved c =
    let l = c.loop-j in
    let a = c.args in
    let n = length a.u.now / 2 in
    let two = mul binary32 (of_bits binary32 0x4000_0000) (get_or a.u.now ((n - 120) / 2 + l.j) nan) in
    tab-more (windowed n a.u.now) nan _ _ _ l.invariant _
    (ap (mul binary32 two) (c.low_overlap_window.ensures ∙ ap (λ z. low_overlap_window z n l.j) c.window-w.ensures)) (search rules)

pub returns : goal.returns
returns c = tab-all _ nan _ _ _ c.loop-j.invariant (search rules) ∙ ap (tab _) (search rules)
