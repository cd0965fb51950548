-- The code's way to each number of the table.
use Rattle.std.proofs.Common.{◌≡◌, refl, ap, ◌∙◌, arith, Ok, Err}
use Rattle.std.specs.Prelude.{Result, false, eqb}
use borrow.Author.Tests.{ne_eqb}
use Rattle.std.specs.Result.{IsErrAnd, result_and}
use Rattle.std.proofs.lemmas.Result.{err_from_is_err_and}
use Rattle.settings.specs.Number.{number_of, number_in, or_else}
use Rattle.settings.specs.declared.Refusal.{Refusal}
use Rattle.settings.specs.declared.Refusal.TheVariants.{BadLm, BadChannels, BadStart, BadEnd, BadDownsample, CountFull, BadLag, BadFilter, BadHistory, ShortPcm}

-- the exit of a `?` refuses as its check did
pub exit_is : {A : Type 0} (r : Result A Refusal) (e : Refusal) → IsErrAnd r (λ y. y ≡ e) → r ≡ Err e
exit_is r e q = let p = err_from_is_err_and r q in p.1 ∙ ap Err p.2

pub exit_number : {A : Type 0} (r : Result A Refusal) (e : Refusal) → IsErrAnd r (λ y. y ≡ e) → number_in r ≡ number_of e
exit_number r e q = ap number_in (exit_is r e q)

-- 0 is no refusal's number
pub number_low : (e : Refusal) → number_of e ≡ 0 → ⊥
number_low BadLm h = omega arith
number_low BadChannels h = omega arith
number_low BadStart h = omega arith
number_low BadEnd h = omega arith
number_low BadDownsample h = omega arith
number_low CountFull h = omega arith
number_low BadLag h = omega arith
number_low BadFilter h = omega arith
number_low BadHistory h = omega arith
number_low ShortPcm h = omega arith

pub refusal-counts : (e : Refusal) → eqb (number_of e) 0 ≡ false
refusal-counts e = ne_eqb (number_of e) 0 (number_low e)

-- Two results joined by `and` have the number that the table's join gives. No proof cites it: it stays, since it says what `or_else` means for
-- checks that follow each other.
pub and_number : {A B : Type 0} (a : Result A Refusal) (b : Result B Refusal) → number_in (result_and a b) ≡ or_else (number_in a) (number_in b)
unfolding or_else
and_number (Ok x) b = refl
and_number (Err BadLm) b = refl
and_number (Err BadChannels) b = refl
and_number (Err BadStart) b = refl
and_number (Err BadEnd) b = refl
and_number (Err BadDownsample) b = refl
and_number (Err CountFull) b = refl
and_number (Err BadLag) b = refl
and_number (Err BadFilter) b = refl
and_number (Err BadHistory) b = refl
and_number (Err ShortPcm) b = refl
