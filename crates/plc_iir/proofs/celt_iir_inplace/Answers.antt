-- After i turns the first i outputs stand in buf, and behind the memory in y.
use Rattle.std.proofs.Common.{refl, ◌∙◌, ◌+◌, ◌-◌, arith, rules}
use borrow.Author.Tests.{le-leb, lt-leb}
use Rattle.reply.specs.Reply.{reply-yes, reply-no}
use lib.Ieee.{binary32, of_bits}
use Rattle.plc_pad.proofs.Taps.{remember-taken, remembers_all, taps-part}
use Rattle.plc_iir.proofs.Iirs.{filtered-none, filtered-more, filtered-all}
use Rattle.plc_iir.proofs.celt_iir_inplace.Goals as goal

pub returns-then-buf-gt-LONGEST : goal.returns-then-buf-gt-LONGEST
returns-then-buf-gt-LONGEST c = reply-no _ _ _ (lt-leb _ 1200 c.if-buf-gt-LONGEST.true) refl

pub unwrap-requires : goal.unwrap-requires
unwrap-requires c = remember-taken c.args.mem.now 1224 (of_bits binary32 0) c.remember.ensures (search rules) (search rules)

pub loop-i-init : goal.loop-i-init
loop-i-init c = let a = c.args in
    filtered-none a.den.now a.mem.now a.buf.now c.remember.new.pad (search rules)
    (remembers_all a.mem.now 1224 (of_bits binary32 0) c.remember.ensures (search rules) (search rules))

pub loop-i-preserved : goal.loop-i-preserved
loop-i-preserved c = let h = c.loop-i in
    let a = c.args in
    let part = (rw c.unwrap-in-loop-i.ensures at c.try_into.ensures.1).same in
    filtered-more a.den.now a.mem.now a.buf.now h.buf h.y h.i c.less_taps-sum.result h.invariant
    (search rules) (search rules) (search rules) (search rules) (c.less_taps-sum.ensures ∙ taps-part _ _ _ _ (h.i + 24 - h.i) _ (omega arith) part)

pub returns : goal.returns
returns c = let h = c.loop-i in
    let a = c.args in
    reply-yes _ _ _ (le-leb _ 1200 c.if-buf-gt-LONGEST.false)
    (filtered-all a.den.now a.mem.now a.buf.now h.buf h.y h.i h.invariant (search rules))
