use Rattle.std.proofs.Common.{◌≡◌, List, ◌++◌, length, take, drop, ℕ, min, arith, take_all, drop_of_length-le}
use Rattle.std.proofs.lemmas.Grind.{common_steps}
use lib.Ieee.{Float}
use Rattle.copying.specs.Copy.{copied}
use Rattle.copying.proofs.copy.Goals as goal

copied_is : (src dst out : List Float) (n : ℕ) → n ≡ min (length src) (length dst) → out ≡ take n src → out ++ drop n dst ≡ copied src dst
unfolding copied
copied_is src dst out n h e = grind (arith, common_steps, take_all {A = Float}, drop_of_length-le {A = Float})

pub returns : goal.returns
returns c = copied_is _ _ _ _ c.min-n.ensures c.copy_from_slice.ensures.after
