-- `put_floats` meets its contract: one word after the other.
use Rattle.std.proofs.Common.{◌≡◌, length, arith, ap, ◌∙◌}
use Rattle.loops.specs.Front.{tab, tab-none, tab-more, tab-all}
use Rattle.state_words.specs.Words.{float_words}
use Rattle.put_state_words.proofs.put_floats.Goals as goal

pub loop-k-init : goal.loop-k-init
loop-k-init c = tab-none _ _

pub loop-k-preserved : goal.loop-k-preserved
loop-k-preserved c = let h = c.loop-k in tab-more _ 0 _ _ _ h.invariant _ c.to_word.ensures (omega arith)

pub returns : goal.returns
unfolding float_words
returns c =
    let h = c.loop-k in
    let e : length c.args.w.now ≡ length c.args.xs.now = omega arith in
    tab-all _ 0 _ _ h.k h.invariant (omega arith) ∙ ap (tab _) e
