-- Each place of the row is the sum of its lag below the longest lag.
use Rattle.std.proofs.Common.{◌≡◌, ◌-◌, length, take, drop, rules}
use Rattle.std.proofs.lemmas.List.{length_push}
use Rattle.std.proofs.lemmas.Slice.Zip.{zip_turn, zip_end}
use Rattle.std.specs.Iterator.Adapters.{zip_first, zip_second}
use Rattle.std.specs.Slice.Iter.{iter_rest}
use lib.Ieee.{nan}
use Rattle.loops.specs.Front.{tab-none, tab-more, tab-all}
use Rattle.plc.specs.Autocorr.{row_at}
use Rattle.plc.proofs.Lags.{lag_none, zip_more, zip_all}
use Rattle.plc.proofs.autocorr.first_terms.Goals as goal

pub loop-j-init : goal.loop-j-init
loop-j-init c = tab-none _ _

pub loop-a-init : goal.loop-a-init
loop-a-init c = lag_none _ _ _ (search rules)

pub loop-a-preserved : goal.loop-a-preserved
loop-a-preserved c =
    let x = c.args.x.now in
    let top = length c.args.row.now - 1 in
    let lag = top - c.loop-j.j in
    let i = c.into_iter-a-iterator.result in
    let l = c.loop-a in
    let first : iter_rest (zip_first i) ≡ take (top - lag) (drop lag x) = cc in
    let second : iter_rest (zip_second i) ≡ x = cc in
    let t =
    zip_turn (take (top - lag) (drop lag x)) x l.yielded i l.a-iterator c.next.new.self c.next.result first second l.yielded_by (c.in-Some.a, c.in-Some.b)
    c.in-Some.is c.next.ensures.steps in
    zip_more x lag (top - lag) (length l.yielded) _ l.d _ _ l.invariant t.0 (t.2 nan) (t.3 nan) (length_push l.yielded (c.in-Some.a, c.in-Some.b))

pub loop-j-preserved : goal.loop-j-preserved
loop-j-preserved c =
    let x = c.args.x.now in
    let n = length c.args.row.now in
    let lag = n - 1 - c.loop-j.j in
    let i = c.into_iter-a-iterator.result in
    let l = c.loop-a in
    let h = c.loop-j in
    let first : iter_rest (zip_first i) ≡ take (n - 1 - lag) (drop lag x) = cc in
    let second : iter_rest (zip_second i) ≡ x = cc in
    let e =
    zip_end (take (n - 1 - lag) (drop lag x)) x l.yielded i l.a-iterator c.next.new.self c.next.result first second l.yielded_by c.in-None.is c.next.ensures.steps in
    tab-more (row_at x n (n - 1)) nan c.args.row.now h.row h.j h.invariant l.d (zip_all x lag (n - 1) (length l.yielded) l.d l.invariant e (search rules) (search rules))
    (search rules)

pub returns : goal.returns
returns c = tab-all _ nan _ _ _ c.loop-j.invariant (search rules)
