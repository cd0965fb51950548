-- After j rows every sample has its first j taps; inside, the samples passed have one more.
use Rattle.std.proofs.Common.{◌≡◌, ap, ◌∙◌, length, get_or, rules}
use lib.Ieee.{nan, binary32, add}
use Rattle.loops.specs.Front.{tab, tab-none, tab-more, tab-read, tab-all}
use Rattle.plc_pad.specs.Pad.{tap}
use Rattle.plc_fir.proofs.Taps.{tap_on, tap-none, tap-more}
use Rattle.plc_fir.proofs.add_taps.Goals as goal

pub loop-j-init : goal.loop-j-init
loop-j-init c = tap-none c.args.num.now c.args.pad.now _

pub loop-i-init : goal.loop-i-init
loop-i-init c = tab-none _ _

pub loop-i-preserved : goal.loop-i-preserved
loop-i-preserved c = let h2 = c.loop-i in
    let h = c.loop-j in
    let a = c.args in
    let f = tap_on a.num.now a.pad.now h.out h.j in
    let r : get_or h2.out h2.i nan ≡ get_or h.out h2.i nan = tab-read f nan h.out h2.out h2.i h2.invariant (search rules) in
    tab-more f nan h.out h2.out h2.i h2.invariant _ (ap (λ z. add binary32 z (tap a.num.now a.pad.now h2.i h.j)) r) (search rules)

pub loop-j-preserved : goal.loop-j-preserved
loop-j-preserved c = let h2 = c.loop-i in
    let h = c.loop-j in
    let a = c.args in
    let e : length h.out ≡ h2.i = search rules in
    let g : length h.out ≡ length a.out.now = search rules in
    let t : h2.out ≡ tab (tap_on a.num.now a.pad.now h.out h.j) (length a.out.now) =
    tab-all (tap_on a.num.now a.pad.now h.out h.j) nan h.out h2.out h2.i h2.invariant e
    ∙ ap (tab (tap_on a.num.now a.pad.now h.out h.j)) g in
    tap-more a.num.now a.pad.now a.out.now h.out h2.out (length a.out.now) h.j h.invariant t
