use Rattle.std.proofs.Common.{ap, List, ℕ, ◌-◌, get_or}
use Rattle.std.specs.Float.{Float, nan, binary32}
use Rattle.std.specs.Float.Ieee.{add, mul}
use Rattle.fold.specs.Fold.{last, fold_at}
use Rattle.fold.proofs.Laws.{nearer}
use Rattle.fold.proofs.fold_at.Goals as goal

-- the sum that place k shares, i from an end
place : List Float → List Float → ℕ → ℕ → Float
place w x k i =
    mul binary32 (get_or w (last - k) nan)
    (add binary32 (mul binary32 (get_or w i nan) (get_or x (last - i) nan)) (mul binary32 (get_or w (last - i) nan) (get_or x i nan)))

pub returns : goal.returns
unfolding fold_at place
returns c = ap (place c.args.w.now c.args.x.now c.args.k) (nearer c.args.k _ c.min-i.ensures c.requires)
