-- Each refusal by its test, and the blocks: of one channel, or of the second one after the first.
use mathlib.Core.Path.{refl, ◌∙◌, sym}
use mathlib.Core.Logic.{inl, inr}
use borrow.Author.Rules.{rules}
use Rattle.reply.specs.Reply.{reply-yes, reply-no}
use Rattle.settings.proofs.Passed.{good}
use Rattle.noise_loss.proofs.Channels.{takes_whole, takes-no_settings, takes-not-whole, mono-is, stereo-is}
use Rattle.noise_loss.proofs.noise_loss.Goals as goal

pub returns-then-not-settings_pass : goal.returns-then-not-settings_pass
returns-then-not-settings_pass c =
    reply-no _ _ _
    (elim c.then-not-settings_pass.either [
      | inl h ↦ takes-no_settings c.args.k _ (sym c.settings_pass.ensures ∙ h)
      | inr h ↦ takes-not-whole c.args.k _ h.1
    ]) refl

pub returns-then-is_stereo : goal.returns-then-is_stereo
returns-then-is_stereo c =
    let n = c.if-history-ne-WHOLE.false in
    let s = c.split_at_mut-first in
    let one = c.noise_channel-one in
    let two = c.noise_channel in
    let a = c.args in
    let g = good a.k _ c.settings_pass.ensures c.if-not-settings_pass.false in
    reply-yes _ _ _ (takes_whole a.k _ (sym c.settings_pass.ensures ∙ c.if-not-settings_pass.false) n)
    (stereo-is a.k g a.history.now n a.seed a.energies _ _ _ _ s.ensures.front (search rules) one.ensures.0 one.ensures.1
    _ _ _ _ (sym c.is_stereo.ensures ∙ c.if-is_stereo.true) s.ensures.back (search rules) two.ensures.0 two.ensures.1)

pub returns-else-is_stereo : goal.returns-else-is_stereo
returns-else-is_stereo c =
    let size = c.if-history-ne-WHOLE.false in
    let s = c.split_at_mut-first in
    let one = c.noise_channel-one in
    let a = c.args in
    let g = good a.k _ c.settings_pass.ensures c.if-not-settings_pass.false in
    reply-yes _ _ _ (takes_whole a.k _ (sym c.settings_pass.ensures ∙ c.if-not-settings_pass.false) size)
    (mono-is a.k g a.history.now size a.seed a.energies _ _ _ _ s.ensures.front (search rules) one.ensures.0 one.ensures.1
    _ (sym c.is_stereo.ensures ∙ c.if-is_stereo.false) s.ensures.back)
