-- The places before j are a step on, the others stand as they were.
use mathlib.Core.Path.{ap, ◌∙◌}
use Prim.Native.Nat.{◌+◌, ◌%◌}
use native.Mathlib.Omega.{arith}
use lib.ListN.{get_or}
use borrow.Author.Rules.{rules}
use Rattle.loops.specs.Front.{tab, tab-none, tab-read, tab-more, tab-all}
use Rattle.mdct.proofs.imdct.onward.Goals as goal

pub loop-j-init : goal.loop-j-init
loop-j-init c = tab-none _ _

pub overflow_add-place : goal.overflow_add-place
overflow_add-place c =
    let l = c.loop-j in
    let r = tab-read _ 0 _ _ _ l.invariant (search rules) in
    let h = c.requires.by_index l.j (search rules) in
    search rules

pub loop-j-preserved : goal.loop-j-preserved
loop-j-preserved c =
    let l = c.loop-j in
    let a = c.args in
    let r = tab-read _ 0 _ _ _ l.invariant (search rules) in
    let h = c.requires.by_index l.j (search rules) in
    tab-more _ 0 _ _ _ l.invariant _
    (c.wrapped.ensures.place (omega arith) ∙ ap (λ z. (z + get_or a.step.now l.j 0) % a.w) r)
    (search rules)

pub returns : goal.returns
returns c = tab-all _ 0 _ _ _ c.loop-j.invariant (search rules) ∙ ap (tab _) (search rules)
