-- `put_values` meets its contract: one word after the other.
use Rattle.std.proofs.Common.{◌≡◌, length, map, arith, ap, sym, ◌∙◌}
use Rattle.std.proofs.lemmas.List.{get_or-map, length-map}
use Rattle.words.specs.Bytes.{bytes_by}
use Rattle.words.proofs.Laws.{bytes-none, bytes_more, bytes-all}
use Rattle.put_words.proofs.put_values.Goals as goal

pub loop-i-init : goal.loop-i-init
loop-i-init g c = bytes-none _ _

pub loop-i-preserved : goal.loop-i-preserved
loop-i-preserved g c =
    let f = g.W.Word.word_of in
    let h = c.loop-i in
    let x = c.index-xs-i in
    let p = c.copy_from_slice.ensures in
    let e = c.to_word.ensures ∙ ap f x.is ∙ sym (get_or-map f c.args.xs.now h.i x.result 0 (omega arith)) in
    bytes_more _ _ h.b _ h.i c.to_word.result _ h.invariant (p.after ∙ c.to_le_bytes.ensures) e (omega arith)

pub returns : goal.returns
returns g c =
    let h = c.loop-i in
    let f = g.W.Word.word_of in
    let s = length-map c.args.xs.now f in
    let e : h.i ≡ length (map f c.args.xs.now) = omega arith in
    bytes-all _ _ h.b h.i h.invariant (omega arith) ∙ ap (bytes_by _) e
