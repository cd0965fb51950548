-- At each sample the row has every lag's sum below it; inside, the places passed have its term too.
use Rattle.std.proofs.Common.{◌≡◌, ap, ap₂, ◌∙◌, sym, ◌+◌, ◌-◌, length, drop, drop-drop, arith, rules}
use Rattle.std.proofs.lemmas.List.{length_push}
use lib.Ieee.{nan}
use Rattle.loops.specs.Front.{tab, tab-none, tab-all}
use Rattle.plc.specs.Autocorr.{row_at}
use Rattle.plc.proofs.Lags.{sample_turn, row_turn}
use Rattle.plc.proofs.autocorr.other_terms.Goals as goal

pub loop-j-init : goal.loop-j-init
loop-j-init c = tab-none _ _

pub loop-v-preserved : goal.loop-v-preserved
loop-v-preserved c =
    let x = c.args.x.now in
    let n = length c.args.row.now in
    let h = c.loop-v in
    let k = length h.yielded in
    let i = h.invariant in
    let s = c.in-Some.ensures.steps in
    let t = sample_turn x _ _ (n - 1 + k) _ i.0 s.0 in
    let r : length h.row ≡ c.loop-j.j = search rules in
    let l : length h.row ≡ n = search rules in
    let p : k + 1 ≡ _ = sym (length_push h.yielded (c.in-Some.v, c.in-Some.part)) in
    let q : n - 1 + k + 1 ≡ n - 1 + _ = omega (arith, p) in (
      t.1 ∙ ap (λ m. drop m x) q,
      s.1.0 ∙ i.1,
      s.1.1.2 ∙ ap (drop 1) i.2 ∙ drop-drop 1 k x ∙ ap (λ m. drop m x) p,
      omega (arith, t.0, q),
      tab-all _ nan h.row c.loop-j.row c.loop-j.j c.loop-j.invariant r ∙ ap₂ (λ e m. tab (row_at x n e) m) (t.3 ∙ q) l,
    )

pub loop-j-preserved : goal.loop-j-preserved
loop-j-preserved c =
    let i = c.loop-v.invariant in
    let s = c.in-Some.ensures.steps in
    row_turn c.args.x.now _ _ _ _ c.loop-v.row c.loop-j.row _ (length c.args.row.now) (length c.loop-v.yielded) c.loop-j.j _ i.0 s.0 i.1 i.2 s.1.1.1 i.4
    c.loop-j.invariant (search rules)
