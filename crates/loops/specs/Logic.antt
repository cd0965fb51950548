-- Tests joined by `and` and `or`, taken apart.
use Rattle.std.specs.Prelude.{◌≡◌, refl, Bool, true, false, cond, ◌&&◌, ◌||◌}

pub and-true : (a b : Bool) → (a && b) ≡ true → (a ≡ true) × (b ≡ true)
and-true true b e = (refl, e)
and-true false b e = (e, (cc))

pub or-false : (a b : Bool) → (a || b) ≡ false → (a ≡ false) × (b ≡ false)
or-false true b e = (e, (cc))
or-false false b e = (refl, e)

-- joined again
pub and_both : (a b : Bool) → a ≡ true → b ≡ true → (a && b) ≡ true
and_both true b p q = q
and_both false b p q = p

pub and_first : (a b : Bool) → a ≡ false → (a && b) ≡ false
and_first true b p = (cc)
and_first false b p = refl

pub and_second : (a b : Bool) → b ≡ false → (a && b) ≡ false
and_second true b p = p
and_second false b p = refl

-- what holds of both choices holds of the chosen one
pub cond_either : {A : Type 0} (P : A → Type 0) (b : Bool) (x y : A) → P x → P y → P (cond b x y)
cond_either P true x y p q = p
cond_either P false x y p q = q
