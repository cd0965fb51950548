-- What a call that may refuse leaves: whether it took what it was given, and what was lent to it.
use Rattle.std.specs.Prelude.{◌≡◌, Bool, true, false, Result, Ok, Err, is_ok}
use Rattle.std.proofs.Math.Path.{ap, sym}
use Rattle.std.proofs.Common.{◌∙◌}
use Rattle.std.proofs.Math.Bool.{cond}
use Rattle.reply.specs.declared.Refused.{Refused}

pub record Reply (A : Type 0) : Type 0 where
  pub taken : Bool
  pub lent : A

abbrev pub reply : {A : Type 0} → Bool → A → Reply A
reply b x = record { taken = b; lent = x }

-- taken where b holds, which leaves x; else all is as it was
unfoldable pub reply_if : {A : Type 0} → Bool → A → A → Reply A
reply_if b x was = record { taken = b; lent = cond b x was }

-- the value where b holds; of a call that is lent nothing this is all
unfoldable pub ok_if : {A : Type 0} → Bool → A → Result A Refused
ok_if true x = Ok x
ok_if false x = Err (record {})

-- from what a call returned
abbrev pub replied : {A V : Type 0} → Result V Refused → A → Reply A
replied r x = reply (is_ok r) x

-- a value that is returned stands beside what was lent; where it is refused, d does
abbrev pub value_or : {A : Type 0} → A → Result A Refused → A
value_or d (Ok x) = x
value_or d (Err e) = d

module _ {A : Type 0} (b : Bool) (x was : A) where
  pub reply-lent : {t : Bool} {y : A} → reply t y ≡ reply_if b x was → b ≡ true → y ≡ x
  unfolding reply_if
  reply-lent e q = ap (λ z. z.lent) e ∙ ap (λ z. cond z x was) q

  -- it was taken exactly where b holds
  pub reply-taken : {t : Bool} {y : A} → reply t y ≡ reply_if b x was → t ≡ b
  unfolding reply_if
  reply-taken e = ap (λ z. z.taken) e

  -- from the code's two ways out
  pub reply-yes : {y : A} → b ≡ true → y ≡ x → reply true y ≡ reply_if b x was
  unfolding reply_if
  reply-yes q e = λ i. record { taken = sym q i; lent = (e ∙ sym (ap (λ z. cond z x was) q)) i }

  pub reply-no : {y : A} → b ≡ false → y ≡ was → reply false y ≡ reply_if b x was
  unfolding reply_if
  reply-no q e = λ i. record { taken = sym q i; lent = (e ∙ sym (ap (λ z. cond z x was) q)) i }
