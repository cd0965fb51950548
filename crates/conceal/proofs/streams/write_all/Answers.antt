-- What a write took and what is left are the rest before it.
use Rattle.std.proofs.Common.{◌≡◌, ℕ, ◌-◌, ◌<◌, ◌≤◌, List, [], ◌∷◌, length, take, drop, sym, subst, arith, rules}
use Rattle.std.specs.declared.option.Option.{Option}
use Rattle.std.proofs.lemmas.List.{take-append-drop, take_rest, length-drop}
use Rattle.std.specs.Io.KnownBytes.{Appends}
use Rattle.std.proofs.KnownBytes.{Appends-trans, Appends-nil}
use Rattle.conceal.proofs.streams.write_all.Goals as goal

shorter : (n : ℕ) (xs : List ℕ) → (n ≡ 0 → ⊥) → n ≤ length xs → length (take (length xs - n) (drop n xs)) < length xs
shorter n xs some fits =
    subst (λ ys. length ys < length xs) (sym (take_rest xs n)) (omega (arith, length-drop n xs))

joined : (a b c : Option (List ℕ)) (n : ℕ) (xs : List ℕ) → Appends a b (take n xs) → Appends b c (take (length xs - n) (drop n xs)) → Appends a c xs
joined a b c n xs p q =
    subst (Appends a c) (take-append-drop n xs) (Appends-trans a b c _ _ p (subst (Appends b c) (take_rest xs n) q))

none : (a : Option (List ℕ)) (xs : List ℕ) → length xs ≡ 0 → Appends a a xs
none a [] e = Appends-nil a
none a (x ∷ xs) e = absurd (omega arith)

pub loop-rest-init : goal.loop-rest-init
loop-rest-init g c = λ new h. h

pub loop-rest-smaller : goal.loop-rest-smaller
loop-rest-smaller g c = shorter c.in_ok-more.more c.loop-rest.rest.now c.if-more-eq0.false c.in_ok-more.ensures.bound

pub loop-rest-preserved : goal.loop-rest-preserved
loop-rest-preserved g c = λ new h. c.loop-rest.invariant new (joined _ _ new c.in_ok-more.more c.loop-rest.rest.now c.in_ok-more.ensures.bytes h)

pub returns : goal.returns
returns g c =
    let empty : length c.loop-rest.rest.now ≡ 0 = search rules in
    c.loop-rest.invariant _ (none _ c.loop-rest.rest.now empty)
