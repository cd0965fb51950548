-- `ref_decode::noise::noise_made` meets its contract: the noise loss takes an accepted state.
use Rattle.std.proofs.Common.{ap, ◌∙◌}
use Rattle.reply.specs.Reply.{value_or, reply-taken}
use Rattle.ref_decode.proofs.Paths.{noise_taken, noise_path}
use Rattle.ref_decode.proofs.noise.noise_made.Goals as goal

pub unwrap-seed-requires : goal.unwrap-seed-requires
unwrap-seed-requires c = reply-taken _ _ _ c.noise_loss.ensures ∙ noise_taken c.args.s c.args.history.now c.requires

pub returns : goal.returns
returns c =
    let s = c.args.s in
    noise_path s c.args.history.now c.requires _ _ _ _ _ c.lower_energies-coarse.ensures c.read_energies-energies.ensures c.noise_loss.ensures
    _ _ c.from.ensures (ap (value_or s.seed) c.unwrap-seed.ensures)
