-- After i turns the first i values are drawn.
use Rattle.std.proofs.Common.{◌≡◌, length, sym, ap, ◌∙◌, rules}
use Rattle.loops.specs.Front.{tab-none, tab-all}
use lib.Ieee.{nan}
use Rattle.draw.specs.Draw.{draws, draws-none}
use Rattle.draw.proofs.Turn.{seed_more, noise_more}
use Rattle.draw.specs.Noise.{noise_band}
use Rattle.draw.proofs.noise_fill.Goals as goal

pub loop-v-init : goal.loop-v-init
loop-v-init c = (sym (draws-none _), tab-none _ _)

pub loop-v-preserved : goal.loop-v-preserved
loop-v-preserved c =
    let l = c.loop-v in
    let d = seed_more _ _ _ l.v-index l.invariant.0 c.celt_lcg_rand-s.ensures in
    (d, noise_more _ _ l.v-index _ _ _ d c.noise_value.ensures l.invariant.1 (search rules))

pub returns : goal.returns
unfolding noise_band
returns c =
    let l = c.loop-v in
    let e : length c.args.x.now ≡ l.v-index = search rules in
    (l.invariant.0 ∙ ap (λ z. draws z c.args.seed) (sym e), tab-all _ nan _ _ l.v-index l.invariant.1 e)
