-- `word_at` meets its contract: four bytes make a word.
use Rattle.std.proofs.Common.{rules}
use Rattle.words.proofs.Laws.{word_found}
use Rattle.words.proofs.word_at.Goals as goal

pub returns : goal.returns
returns c =
    let a = c.args in
    let q = c.as_chunks in
    word_found a.b.now a.i c.get.result c.map_or.result q.result.0.now _ q.ensures.front q.ensures.front_len c.get.ensures.lookup c.map_or.ensures (λ x p. search rules)
