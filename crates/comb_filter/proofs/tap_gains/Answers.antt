use Rattle.std.proofs.Common.{rules, ap, ◌∙◌, get_or}
use Rattle.std.specs.Float.{Float, nan, binary32}
use Rattle.std.specs.Float.Ieee.{mul, neg}
use Rattle.loops.specs.Front.{tab}
use Rattle.loops.specs.Mapped.{mapped}
use Rattle.comb_filter.specs.Comb.{tap_gain}
use Rattle.comb_filter.proofs.tap_gains.Goals as goal

pub returns : goal.returns
unfolding tap_gain
returns c =
    let v : Float → Float = mul binary32 (neg c.args.f.gain) in
    mapped _ v _ (λ x y q l. search rules) 3 _ _ nan nan c.map.ensures.items ∙ ap (λ z. tab (λ k. v (get_or z k nan)) 3) c.comb_gains.ensures
