-- After i turns the first i outputs of either channel stand in its buffer, and behind its memory.
use mathlib.Core.Path.{ap₂}
use Rattle.std.proofs.Common.{◌∙◌, ◌+◌, ◌-◌, arith, rules}
use Rattle.std.proofs.lemmas.Bool.Decides.{nat_tests}
use lib.Ieee.{binary32, of_bits}
use Rattle.reply.specs.Reply.{reply-yes}
use Rattle.plc_iir_pair.specs.Pair.{channels}
use Rattle.plc_pad.proofs.Taps.{remembers_all, taps-part}
use Rattle.plc_iir.proofs.Iirs.{filtered-none, filtered-more, filtered-all}
use Rattle.plc_iir_pair.proofs.celt_iir_pair.Goals as goal

pub loop-i-init : goal.loop-i-init
loop-i-init c = let a = c.args in
    let r = c.remember in
    let q = c.remember-2 in (
      filtered-none a.den_a.now a.mem_a.now a.a.now r.new.pad (search rules)
          (remembers_all a.mem_a.now 1224 (of_bits binary32 0) r.ensures (search rules) (search rules)),
      filtered-none a.den_b.now a.mem_b.now a.b.now q.new.pad (search rules)
          (remembers_all a.mem_b.now 1224 (of_bits binary32 0) q.ensures (search rules) (search rules)),
    )

pub loop-i-preserved : goal.loop-i-preserved
loop-i-preserved c = let h = c.loop-i in
    let a = c.args in
    let s = c.less_taps-sum_a in
    let t = c.less_taps-sum_b in
    let p = (rw c.unwrap-in-loop-i.ensures at c.try_into.ensures.1).same in
    let q = (rw c.unwrap-in-loop-i-2.ensures at c.try_into-in-loop-i.ensures.1).same in (
      filtered-more a.den_a.now a.mem_a.now a.a.now h.a h.y h.i s.result h.invariant.0
          (search rules) (search rules) (search rules) (search rules)
          (s.ensures ∙ taps-part _ _ _ _ (h.i + 24 - h.i) _ (omega arith) p),
      filtered-more a.den_b.now a.mem_b.now a.b.now h.b h.z h.i t.result h.invariant.1
          (search rules) (search rules) (search rules) (search rules)
          (t.ensures ∙ taps-part _ _ _ _ (h.i + 24 - h.i) _ (omega arith) q),
    )

pub returns : goal.returns
returns c = let h = c.loop-i in
    let a = c.args in
    reply-yes _ _ _ (grind (arith, nat_tests))
    (ap₂ channels
    (filtered-all a.den_a.now a.mem_a.now a.a.now h.a h.y h.i h.invariant.0 (search rules))
    (filtered-all a.den_b.now a.mem_b.now a.b.now h.b h.z h.i h.invariant.1 (search rules)))
