-- After as many turns as were yielded, so many places are swept.
use Rattle.std.proofs.Common.{ap, ap₂, ◌∙◌, sym, ◌-◌, length, take, drop, rules}
use Rattle.std.proofs.lemmas.List.{length_push}
use Rattle.std.proofs.lemmas.Iterator.{YieldsList-from_slice, YieldsList-from_zip}
use Rattle.std.proofs.lemmas.Iterator.Consumers.{YieldsList-from_enumerate, YieldsList-turn, YieldsList-end}
use lib.Ieee.{binary32, add, sub, mul}
use Rattle.float_extremes.specs.Extremes.{max_of}
use Rattle.buffers.specs.Buffers.{one32}
use Rattle.plc_best.specs.Best.{sweep_to, considered, next_energy, find_best_pitch}
use Rattle.plc_best.proofs.Turn.{first-energy, sweep-none, sweep-more, length-in_step, get_or-in_step}
use Rattle.plc_best.proofs.two_best.Goals as goal

pub loop-i-init : goal.loop-i-init
loop-i-init c = sweep-none _ _ _ _ (first-energy _ _ _ c.energy-syy.ensures (search rules))

pub loop-i-preserved : goal.loop-i-preserved
unfolding next_energy
loop-i-preserved c =
    let a = c.args in
    let l = c.loop-i in
    let k = length l.yielded in
    let s = c.in-Some in
    let w = take (length a.y.now - a.len) (drop a.len a.y.now) in
    let two = YieldsList-from_zip (YieldsList-from_slice a.xcorr.now cc) (YieldsList-from_slice a.y.now cc) in
    let all = YieldsList-from_enumerate (YieldsList-from_zip two (YieldsList-from_slice w cc)) cc in
    let t = YieldsList-turn all l.yielded l.i-iterator l.yielded_by c.next.result c.next.new.self (s.i, ((s.x, s.oldest), s.newest)) s.is c.next.ensures.steps in
    let g = get_or-in_step a.xcorr.now a.y.now a.len s.i k s.x.now s.oldest.now s.newest.now c.requires t.0 t.1 in
    let b = c.considered-best.ensures ∙ ap₂ (λ v i. considered l.best v l.syy i) g.1 g.0 in
    let e = c.max_f32-syy.ensures ∙ ap₂ (λ p q. max_of (add binary32 l.syy (sub binary32 (mul binary32 p p) (mul binary32 q q))) one32) g.3 g.2 in
    ap (sweep_to a.xcorr.now a.y.now a.len) (length_push l.yielded (s.i, ((s.x, s.oldest), s.newest))) ∙ sweep-more a.xcorr.now a.y.now a.len k l.best _ l.syy _ l.invariant b e

pub returns : goal.returns
unfolding find_best_pitch
returns c =
    let a = c.args in
    let l = c.loop-i in
    let w = take (length a.y.now - a.len) (drop a.len a.y.now) in
    let two = YieldsList-from_zip (YieldsList-from_slice a.xcorr.now cc) (YieldsList-from_slice a.y.now cc) in
    let all = YieldsList-from_enumerate (YieldsList-from_zip two (YieldsList-from_slice w cc)) cc in
    let t = YieldsList-end all l.yielded l.i-iterator l.yielded_by c.next.result c.next.new.self c.in-None.is c.next.ensures.steps in
    ap (λ z. z.best) (sym l.invariant) ∙ ap (λ n. (sweep_to a.xcorr.now a.y.now a.len n).best) (t.1 ∙ length-in_step a.xcorr.now a.y.now a.len c.requires)
