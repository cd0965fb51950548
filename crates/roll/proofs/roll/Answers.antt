use Rattle.std.proofs.Common.{refl, le-leb}
use Rattle.reply.specs.Reply.{reply-yes}
use Rattle.roll.proofs.Laws.{roll-is}
use Rattle.roll.proofs.roll.Goals as goal

pub returns : goal.returns
returns c =
    reply-yes _ _ _ (le-leb _ _ c.if-newest-n.false)
    (roll-is c.args.frame.now c.args.newest.now _ _ _ _ c.if-newest-n.false refl refl c.copy_within.ensures.after c.take_frame.ensures)
