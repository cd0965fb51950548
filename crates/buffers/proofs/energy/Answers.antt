use mathlib.Core.Path.{◌≡◌, ap, ◌∙◌, sym}
use lib.ListN.{length}
use lib.Ieee.{binary32}
use borrow.Author.Rules.{rules}
use Rattle.loops.specs.Sum.{sum_to, sum-none, sum_more}
use Rattle.buffers.specs.Buffers.{energy, square_at}
use Rattle.buffers.proofs.energy.Goals as goal

pub loop-v-init : goal.loop-v-init
loop-v-init c = sym (sum-none _ _ _)

pub loop-v-preserved : goal.loop-v-preserved
loop-v-preserved c = sum_more _ _ _ _ _ c.loop-v.invariant

pub returns : goal.returns
unfolding energy
returns c =
    let q : c.loop-v.v-index ≡ length c.args.x.now = search rules in
    c.loop-v.invariant ∙ ap (sum_to binary32 (square_at c.args.x.now) c.args.from) q
