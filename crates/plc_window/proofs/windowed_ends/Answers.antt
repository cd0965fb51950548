-- After i turns both ends have the window on i samples.
use Rattle.std.proofs.Common.{◌≡◌, ap, ◌∙◌, sym, length, rules}
use Rattle.loops.specs.Fold.{fold_to, fold-none, fold_more}
use Rattle.plc_window.specs.Window.{window_turn, windowed_ends}
use Rattle.plc_window.proofs.windowed_ends.Goals as goal

pub loop-i-init : goal.loop-i-init
loop-i-init c = sym (fold-none _ _)

pub loop-i-preserved : goal.loop-i-preserved
loop-i-preserved c = let h = c.loop-i in
    let a = c.args in
    let n : length a.x.now ≡ 1024 = search rules in
    rw (← n) (fold_more (window_turn a.x.now a.window.now) a.x.now h.xx h.i h.invariant)

pub returns : goal.returns
unfolding windowed_ends
returns c = let h = c.loop-i in
    let a = c.args in
    let e : h.i ≡ length a.window.now = search rules in
    h.invariant ∙ ap (fold_to (window_turn a.x.now a.window.now) a.x.now) e
