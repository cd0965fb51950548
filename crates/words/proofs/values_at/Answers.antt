-- `values_at` meets its contract: one value after the other.
use Rattle.std.proofs.Common.{arith}
use Rattle.loops.specs.Front.{tab-none, tab-more, tab-all}
use Rattle.words.specs.Bytes.{values_at}
use Rattle.words.proofs.Laws.{value_same}
use Rattle.words.proofs.values_at.Goals as goal

pub loop-k-init : goal.loop-k-init
loop-k-init g c = tab-none _ _

pub loop-k-preserved : goal.loop-k-preserved
loop-k-preserved g c =
    tab-more _ (g.W.Word.of_word 0) _ _ _ c.loop-k.invariant _
    (value_same g.W.Word.of_word c.args.b.now _ _ _ _ _ (omega arith) c.saturating_add.ensures c.word_at.ensures c.from_word.ensures) (omega arith)

pub returns : goal.returns
unfolding values_at
returns g c = let h = c.loop-k in tab-all _ (g.W.Word.of_word 0) _ _ h.k h.invariant (omega arith)
