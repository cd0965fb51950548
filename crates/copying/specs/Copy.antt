-- Samples copied.
use Rattle.std.specs.Prelude.{◌≡◌, List, ◌++◌, length, take, drop, Float}
use Rattle.std.proofs.Common.{ap₂, ◌∙◌, append-nil, arith, drop_of_length-le, take_all}

-- src over the first places of dst
unfoldable pub copied : List Float → List Float → List Float
copied src dst = take (length dst) src ++ drop (length src) dst

pub copied_all : (src dst : List Float) → length src ≡ length dst → copied src dst ≡ src
unfolding copied
copied_all src dst e =
    ap₂ (λ y z. y ++ z) (take_all (length dst) src (omega arith)) (drop_of_length-le dst {i = length src} (omega arith)) ∙ append-nil src
