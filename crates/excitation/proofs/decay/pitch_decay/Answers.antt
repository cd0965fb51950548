use Rattle.std.proofs.Common.{◌≡◌, ap, ◌∙◌, ℕ, ◌-◌, ◌*◌, arith, take, drop, length-append}
use Rattle.std.specs.Iterator.Adapters.{zip_first, zip_second}
use Rattle.std.specs.Slice.Iter.{iter_rest}
use Rattle.std.proofs.lemmas.Iterator.{empty_from_Zip}
use Rattle.excitation.proofs.Steps.{periods-none, periods-more, periods-level, periods-all, decay_is}
use Rattle.excitation.proofs.decay.pitch_decay.Goals as goal

pub loop-a-init : goal.loop-a-init
loop-a-init c =
    let gives = c.into_iter-a-iterator.ensures.into_iter_gives in
    let short = c.decay_period-period.ensures.1 in
    let p : ℕ = c.decay_period-period.result in
    let before : iter_rest (zip_second c.zip-a-items.result) ≡ take (1024 - p - (1024 - 2 * p)) (drop (1024 - 2 * p) c.args.exc.now) =
    c.zip-a-items.ensures.second.0 in
    periods-none c.args.exc.now c.decay_period-period.result c.told-exc short _ _ _ _ (omega arith) (omega arith)
    (ap (λ z. iter_rest (zip_first z)) gives ∙ ap iter_rest c.zip-a-items.ensures.first ∙ c.iter.ensures.rest)
    (ap (λ z. iter_rest (zip_second z)) gives ∙ before)

pub loop-a-preserved : goal.loop-a-preserved
loop-a-preserved c =
    let steps = c.in-Some.ensures.steps in
    periods-more c.args.exc.now c.decay_period-period.result c.told-exc c.decay_period-period.ensures.1 _ _ _ _ _ _ _ _ _ _ (length-append _ _) c.loop-a.invariant
    steps.0 steps.1

pub returns : goal.returns
returns c =
    let at = c.loop-a.invariant in
    let level = periods-level c.args.exc.now c.decay_period-period.result c.told-exc c.decay_period-period.ensures.1 _ _ _ _ _ at in
    let spent = empty_from_Zip _ c.next.new.self _ c.in-None.is c.next.ensures.steps level in
    decay_is c.args.exc.now c.args.lag _ _ _ _ _ _ c.decay_period-period.ensures.0 at.newest at.before
    (periods-all c.args.exc.now c.decay_period-period.result c.told-exc c.decay_period-period.ensures.1 _ _ _ _ _ at spent.0) c.min_f32.ensures c.sqrt_f32.ensures
