use Rattle.std.proofs.Common.{◌≡◌, ◌-◌, length, arith, rules}
use Rattle.std.proofs.lemmas.Bool.Decides.{nat_tests}
use Rattle.reply.specs.Reply.{reply-yes}
use Rattle.plc_pad.proofs.Taps.{remembered-put}
use Rattle.plc_pad.proofs.remember.Goals as goal

pub returns : goal.returns
returns c =
    let a = c.args in
    let n : 24 - (24 - length a.mem.now) ≡ length a.mem.now = omega arith in
    reply-yes _ _ _ (grind (arith, nat_tests))
    (remembered-put a.mem.now a.pad.now _ _ _ (search rules) (search rules) n c.copy_from_slice.ensures.after c.reverse.ensures.after)
