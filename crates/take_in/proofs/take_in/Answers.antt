use Rattle.std.proofs.Common.{◌≡◌, refl, sym, ◌∙◌, true, false, length-take-le, arith, ◌≤◌, length}
use Rattle.reply.specs.Reply.{reply-taken}
use Rattle.history.specs.History.{half}
use Rattle.take_in.proofs.Frame.{roll-takes, fold-takes, after_is}
use Rattle.take_in.proofs.take_in.Goals as goal

pub slice_bounds-roll-end-2 : goal.slice_bounds-roll-end-2
slice_bounds-roll-end-2 c = let h : half ≤ length c.args.t.now = omega arith in sym (length-take-le half c.args.t.now h)

pub returns-in_err-roll : goal.returns-in_err-roll
returns-in_err-roll c =
    let no : false ≡ true = reply-taken _ _ _ c.in_err-roll.ensures
    ∙ roll-takes c.args.n c.args.t.now c.args.e.now c.args.filter (omega arith) (omega arith) (omega arith) (sym c.if-not-filter_fits.ensures) in
    cc

pub returns-in_err-fold_tail : goal.returns-in_err-fold_tail
returns-in_err-fold_tail c =
    let no : false ≡ true = reply-taken _ _ _ c.in_err-fold_tail.ensures
    ∙ fold-takes c.args.n c.args.t.now c.args.e.now c.args.filter (omega arith) (omega arith) (omega arith) (sym c.if-not-filter_fits.ensures)
    _ _ c.in_ok-roll.ensures _ refl in
    cc

pub returns : goal.returns
returns c =
    after_is c.args.n c.args.t.now c.args.e.now c.args.filter (omega arith) (omega arith) (omega arith) (sym c.if-not-filter_fits.ensures)
    _ _ c.in_ok-roll.ensures _ _ _ refl c.in_ok-fold_tail.ensures _ _ c.prefilter.ensures
