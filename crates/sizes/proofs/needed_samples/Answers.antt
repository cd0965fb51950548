-- `sizes::needed_samples` meets its contract.
use mathlib.Core.Path.{◌≡◌, sym, ◌∙◌}
use mathlib.Core.Bool.{false}
use native.Mathlib.Omega.{arith}
use lib.Dec.{eqb}
use Rattle.settings.proofs.Passed.{good, downsample_low, needed-code, needed-most}
use Rattle.settings.specs.Settings.{check_settings, needed}
use Rattle.sizes.proofs.needed_samples.Goals as goal

pub nonzero_div-result : goal.nonzero_div-result
nonzero_div-result c =
    let k = c.args.k in
    downsample_low k (good k _ c.settings_pass.ensures c.if-settings_pass.true)

pub overflow_mul-result : goal.overflow_mul-result
overflow_mul-result c =
    let k = c.args.k in
    let g = good k _ c.settings_pass.ensures c.if-settings_pass.true in
    omega (arith, needed-code k g _ c.frame_size.ensures, needed-most k g)

pub returns-then-settings_pass : goal.returns-then-settings_pass
unfolding needed
returns-then-settings_pass c =
    let k = c.args.k in
    let g = good k _ c.settings_pass.ensures c.if-settings_pass.true in
    needed-code k g _ c.frame_size.ensures

pub returns-else-settings_pass : goal.returns-else-settings_pass
unfolding needed
returns-else-settings_pass c =
    let k = c.args.k in
    let e : eqb (check_settings k) 0 ≡ false = sym c.settings_pass.ensures ∙ c.if-settings_pass.false in
    rw e
