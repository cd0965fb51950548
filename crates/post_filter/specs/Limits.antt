-- Which settings of the post-filter are taken.
use Rattle.std.specs.Prelude.{◌≡◌, ℕ, ◌≤◌, Bool, true, ◌&&◌, leb}
use Rattle.std.proofs.Common.{leb-true}
use Rattle.loops.specs.Logic.{and-true}
use Rattle.post_filter.specs.declared.Filter.{Filter}

abbrev pub period_least : ℕ
period_least = 15

abbrev pub period_most : ℕ
period_most = 1022

abbrev pub tapset_most : ℕ
tapset_most = 2

-- the gain may be any
unfoldable pub filter_fits : Filter → Bool
filter_fits f = leb period_least f.period && leb f.period period_most && leb f.tapset tapset_most

-- the same, one by one
pub fits_each : (f : Filter) → filter_fits f ≡ true → (period_least ≤ f.period) × (f.period ≤ period_most) × (f.tapset ≤ tapset_most)
unfolding filter_fits
fits_each f e =
    let p = and-true (leb period_least f.period && leb f.period period_most) (leb f.tapset tapset_most) e in
    let q = and-true (leb period_least f.period) (leb f.period period_most) p.0 in
    (leb-true period_least f.period q.0, leb-true f.period period_most q.1, leb-true f.tapset tapset_most p.1)
