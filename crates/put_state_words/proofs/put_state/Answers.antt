-- `put_state` meets its contract: three parts, one behind the other.
use Rattle.std.proofs.Common.{◌≡◌, ◌∙◌, length, rules}
use Rattle.put_state_words.proofs.Parts.{all-parts}
use Rattle.put_state_words.proofs.put_state.Goals as goal

pub returns : goal.returns
returns c =
    let s = c.args.s in
    let coarse : length s.coarse ≡ 50 = search rules in
    let background : length s.background ≡ 50 = search rules in
    all-parts s c.args.w.now _ _ _ (c.copy_from_slice.ensures.after ∙ c.head_words.ensures) c.put_both.ensures c.put_both-2.ensures coarse background (search rules)
