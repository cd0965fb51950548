-- The places are those that the closure answers, by number.
use borrow.Author.Rules.{rules}
use Rattle.loops.specs.Made.{made}
use Rattle.mdct_pairs.proofs.lanes.first_places.Goals as goal

pub returns : goal.returns
returns c = made _ _ _ 4 (λ i y q l e. search rules) 0 _ c.from_fn.ensures.items
