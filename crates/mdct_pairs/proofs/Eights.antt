-- The sums of a frame, eight by eight.
use mathlib.Core.Path.{◌≡◌, ap, ap₂}
use mathlib.Core.Bool.{true}
use mathlib.Core.List.{List}
use Prim.Native.Nat.{ℕ, ◌+◌, ◌*◌, ◌/◌, ◌%◌, ◌≤◌, ◌<◌}
use native.Mathlib.Omega.{arith}
use native.Mathlib.Nat.{add-mul, mul-le-mul}
use lib.Ieee.{Float}
use Rattle.loops.specs.Front.{front, tab}
use Rattle.loops.specs.Part.{put}
use Rattle.cosine_circle.specs.Circle.{is_frame_size}
use Rattle.cosine_circle.proofs.Sizes.{few}
use Rattle.mdct.specs.Imdct.{imdct_sum}
use Rattle.mdct.proofs.Fronts.{run_put}
use Rattle.mdct_pairs.proofs.Two.{pair_sum}

-- the eight of turn k, put behind those before
pub eight_put : (n k r : ℕ) (x xs b y : List Float) → b ≡ front (tab (pair_sum n x) (8 * k)) xs (8 * k)
    → y ≡ tab (λ (e : ℕ). imdct_sum n x (4 * k + e / 2 + e % 2 * n)) 8 → r ≡ 8
    → put (8 * k) r y b ≡ front (tab (pair_sum n x) (8 * (k + 1))) xs (8 * (k + 1))
eight_put n k r x xs b y e f g =
    run_put _ _ xs b y (8 * k) 8 r (8 * (k + 1)) e f
    (λ j l.
    let half : 4 * k + j / 2 ≡ (8 * k + j) / 2 = omega arith in
    let odd : j % 2 ≡ (8 * k + j) % 2 = omega arith in
    ap (imdct_sum n x) (ap₂ ◌+◌ half (ap (λ z. z * n) odd)))
    g (omega arith)

-- turn k of the n / 8 makes 8 n products
pub room : (n m k p : ℕ) → is_frame_size n ≡ true → m ≡ n → k < m / 8 → p ≡ 8 * k * n
    → (2 * (4 * k) + 8 ≤ n) × (n ≤ 960) × (p ≤ 960 * 960) × (p + 8 * n ≡ 8 * (k + 1) * n)
room n m k p f e l q =
    let u = few n f in
    let w : 8 * k ≤ 960 = omega arith in
    let s : 8 * (k + 1) ≡ 8 * k + 8 = omega arith in
    (omega arith, u, omega (arith, mul-le-mul w u), omega (arith, add-mul (8 * k) 8 n, ap (λ z. z * n) s))
