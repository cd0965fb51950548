use lib.Ieee.{nan}
use borrow.Author.Rules.{rules}
use Rattle.loops.specs.Front.{map-none, map_more, map-all}
use Rattle.buffers.specs.Buffers.{times}
use Rattle.buffers.proofs.scale.Goals as goal

pub loop-v-init : goal.loop-v-init
loop-v-init c = map-none (times c.args.g) _

pub loop-v-preserved : goal.loop-v-preserved
loop-v-preserved c = map_more _ nan _ _ _ c.loop-v.invariant (search rules)

pub returns : goal.returns
returns c = map-all (times c.args.g) nan _ _ _ c.loop-v.invariant (search rules)
