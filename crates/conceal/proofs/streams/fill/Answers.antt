-- What a read put after the filled front joins it.
use Rattle.std.proofs.Common.{◌≡◌, ℕ, ◌+◌, ◌-◌, ◌≤◌, List, ◌++◌, arith, rules, length, take, drop, sym, ap, ◌∙◌, subst, le_refl, drop_at, length-take-le}
use Rattle.std.proofs.lemmas.Slice.{take-put_mid_below}
use Rattle.std.specs.Io.KnownBytes.{Consumes}
use Rattle.std.proofs.KnownBytes.{Consumes-trans}
use borrow.Rule.Slice.PartMut.{put_mid, post_of}
use lib.Seq.{take-add, take-append-le}
use Rattle.conceal.proofs.streams.fill.Goals as goal

-- the first a + n of xs with ys put at a
joined : (a k n : ℕ) (xs ys : List ℕ) → a ≤ length xs → n ≤ length ys → take a xs ++ take n ys ≡ take (a + n) (put_mid a k xs ys)
joined a k n xs ys within fits =
    let all = put_mid a k xs ys in
    let front : take a all ≡ take a xs = take-put_mid_below _ _ _ _ _ (le_refl _) within in
    let part : take n (drop a all) ≡ take n ys =
    ap (take n) (drop_at (take a xs) (ys ++ post_of a k xs) a (length-take-le a xs within)) ∙ take-append-le n ys (post_of a k xs) fits in
    ap (λ l. l ++ take n ys) (sym front) ∙ ap (λ l. take a all ++ l) (sym part) ∙ sym (take-add a n all)

pub loop-done-preserved : goal.loop-done-preserved
loop-done-preserved g c =
    let done = c.loop-done.done in
    let more = c.in_ok-more.more in
    let room = length c.loop-done.buf - done in
    let before = c.loop-done.invariant in
    let bound = c.in_ok-more.ensures.bound in
    let same = joined done room more c.loop-done.buf c.read.new.buf (omega arith) bound.0 in
    (search rules, search rules, subst (Consumes _ _) same (Consumes-trans _ _ _ _ _ before.2 c.in_ok-more.ensures.bytes.0))
