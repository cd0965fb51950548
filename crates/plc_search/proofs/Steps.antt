-- The steps of the search put together.
use mathlib.Core.Path.{◌≡◌, ap, ◌∙◌, sym}
use mathlib.Core.Bool.{Bool, true}
use mathlib.Core.List.{List}
use Prim.Native.Nat.{ℕ, ◌≤◌, ◌<◌}
use native.Mathlib.Omega.{arith}
use lib.Ieee.{Float, nan}
use lib.ListN.{length, take, drop}
use lib.Seq.{get_or-take, length-take-le, ext_get_or}
use Rattle.loops.specs.Front.{tab, get_or-tab, length-tab}
use Rattle.reply.specs.Reply.{reply, reply_if}
use Rattle.std.specs.Prelude.{Option, Some}
use Rattle.std.proofs.lemmas.Option.{same_Some}
use Rattle.plc_best.specs.Best.{find_best_pitch, best_pitches}
use Rattle.plc_correlate.specs.Correlation.{correlation, correlate_takes}
use Rattle.plc_search.specs.Search.{every_second, coarse, coarse_best, fine_at, fine, fine_best, refined, pitch_search}
use Rattle.plc_search.specs.Offset.{Within, best-within}
use Rattle.plc_best.proofs.Pairs.{found}
use Rattle.plc_search.proofs.Finer.{rest}
use Rattle.plc_correlate.proofs.Rows.{correlated, taken}

take-length-tab : {A : Type 0} (f : ℕ → A) (m n : ℕ) → m ≤ n → length (take m (tab f n)) ≡ m
take-length-tab f m n h = length-take-le m (tab f n) (omega (arith, length-tab f n))

take-tab : {A : Type 0} (d : A) (f : ℕ → A) (m n : ℕ) → m ≤ n → take m (tab f n) ≡ tab f m
take-tab d f m n h =
    ext_get_or d (take m (tab f n)) (tab f m) (take-length-tab f m n h ∙ sym (length-tab f m))
    (λ i l.
    let k : i < m = omega (arith, take-length-tab f m n h) in
    get_or-take m (tab f n) i d k ∙ get_or-tab f n i d (omega arith) ∙ sym (get_or-tab f m i d k))

pub length-second : (x : List Float) (n : ℕ) → length (every_second x n) ≡ n
unfolding every_second
length-second x n = length-tab _ n

-- a count of the first m of a list that has n
pub first_count : {A : Type 0} (f : ℕ → A) (r : List A) (m n : ℕ) → m ≤ n → r ≡ tab f n → length (take m r) ≡ m
first_count f r m n h e = ap (λ z. length (take m z)) e ∙ take-length-tab f m n h

coarse-done : (y x4 y4 xc : List Float) → length y ≡ 1024 → x4 ≡ every_second (take 664 (drop 360 y)) 332 → y4 ≡ every_second y 487
    → xc ≡ tab (correlation x4 y4 (length x4)) 156 → find_best_pitch (take 155 xc) y4 332 155 ≡ coarse_best y
unfolding coarse_best coarse
coarse-done y x4 y4 xc h e1 e2 e3 =
    let x : x4 ≡ every_second (drop 360 y) 332 = e1 ∙ ap (λ z. every_second z 332) (rest y h 360) in
    let l : length x4 ≡ 332 = ap length x ∙ length-second (drop 360 y) 332 in
    let c : xc ≡ tab (correlation (every_second (drop 360 y) 332) (every_second y 487) 332) 156 =
    e3 ∙ ap (λ z. tab (correlation x4 y4 z) 156) l ∙ ap (λ z. tab (correlation z y4 332) 156) x
    ∙ ap (λ z. tab (correlation (every_second (drop 360 y) 332) z 332) 156) e2 in
    ap (λ z. find_best_pitch (take 155 z) y4 332 155) c
    ∙ ap (λ z. find_best_pitch z y4 332 155) (take-tab nan (correlation (every_second (drop 360 y) 332) (every_second y 487) 332) 155 156 (omega arith))
    ∙ ap (λ z. find_best_pitch (tab (correlation (every_second (drop 360 y) 332) (every_second y 487) 332) 155) z 332 155) e2

-- the coarse correlations
pub coarse-row : {t : Bool} {x4 y4 r : List Float} (x y w : List Float) → x4 ≡ every_second x 332 → y4 ≡ every_second y 487 → length w ≡ 156
    → reply t r ≡ reply_if (correlate_takes (length x4) (length y4) (length w)) (tab (correlation x4 y4 (length x4)) (length w)) w
    → r ≡ tab (correlation x4 y4 (length x4)) 156
coarse-row {x4 = x4} {y4 = y4} x y w ex ey l e =
    let k : length x4 ≡ 332 = ap length ex ∙ length-second x 332 in
    let m : length y4 ≡ 487 = ap length ey ∙ length-second y 487 in
    correlated x4 y4 w e (omega arith) ∙ ap (tab (correlation x4 y4 (length x4))) l

pub coarse-taken : {t : Bool} {x4 y4 r : List Float} (x y w : List Float) → x4 ≡ every_second x 332 → y4 ≡ every_second y 487 → length w ≡ 156
    → reply t r ≡ reply_if (correlate_takes (length x4) (length y4) (length w)) (tab (correlation x4 y4 (length x4)) (length w)) w → t ≡ true
coarse-taken {x4 = x4} {y4 = y4} x y w ex ey l e =
    let k : length x4 ≡ 332 = ap length ex ∙ length-second x 332 in
    let m : length y4 ≡ 487 = ap length ey ∙ length-second y 487 in
    taken x4 y4 w e (omega arith)

-- the two best of them, which are never refused here
pub coarse-pair : {r : Option (ℕ × ℕ)} (y x4 y4 xc : List Float) → length y ≡ 1024 → x4 ≡ every_second (take 664 (drop 360 y)) 332 → y4 ≡ every_second y 487
    → xc ≡ tab (correlation x4 y4 (length x4)) 156 → r ≡ best_pitches (take 155 xc) y4 332 (length (take 155 xc))
    → r ≡ Some ((coarse_best y).first.at, (coarse_best y).second.at)
coarse-pair y x4 y4 xc h e1 e2 e3 e4 =
    let m : length y4 ≡ 487 = ap length e2 ∙ length-second y 487 in
    found (take 155 xc) y4 332 155 (first_count (correlation x4 y4 (length x4)) xc 155 156 (omega arith) e3) (omega arith) e4
    ∙ ap (λ z. Some (z.first.at, z.second.at)) (coarse-done y x4 y4 xc h e1 e2 e3)

coarse-found : {r : Option (ℕ × ℕ)} {p : ℕ × ℕ} (y x4 y4 xc : List Float) → length y ≡ 1024 → x4 ≡ every_second (take 664 (drop 360 y)) 332
    → y4 ≡ every_second y 487 → xc ≡ tab (correlation x4 y4 (length x4)) 156 → r ≡ best_pitches (take 155 xc) y4 332 (length (take 155 xc)) → r ≡ Some p
    → p ≡ ((coarse_best y).first.at, (coarse_best y).second.at)
coarse-found y x4 y4 xc h e1 e2 e3 e4 q = same_Some _ _ (sym q ∙ coarse-pair y x4 y4 xc h e1 e2 e3 e4)

-- from what the code's calls leave
pub coarse-known : {t : Bool} {x4 y4 r : List Float} {o : Option (ℕ × ℕ)} {p : ℕ × ℕ} (y w : List Float) → length y ≡ 1024
    → x4 ≡ every_second (take 664 (drop 360 y)) 332 → y4 ≡ every_second y 487 → length w ≡ 156
    → reply t r ≡ reply_if (correlate_takes (length x4) (length y4) (length w)) (tab (correlation x4 y4 (length x4)) (length w)) w
    → o ≡ best_pitches (take 155 r) y4 332 (length (take 155 r)) → o ≡ Some p → p ≡ ((coarse_best y).first.at, (coarse_best y).second.at)
coarse-known y w h ex ey l e f q = coarse-found y _ _ _ h ex ey (coarse-row (take 664 (drop 360 y)) y w ex ey l e) f q

coarse-within : (y : List Float) → Within 155 (coarse_best y)
unfolding coarse_best
coarse-within y = best-within (coarse y) (every_second y 487) 332 155 (omega arith)

pub coarse-least : {p : ℕ × ℕ} (y : List Float) → p ≡ ((coarse_best y).first.at, (coarse_best y).second.at) → (p.0 < 155) × (p.1 < 155)
coarse-least y e =
    let w : (coarse_best y).first.at < 155 = (coarse-within y).first in
    let v : (coarse_best y).second.at < 155 = (coarse-within y).second in
    (omega (arith, ap (λ z. z.0) e), omega (arith, ap (λ z. z.1) e))

-- the best of the finer places
pub fine-pair : {r : Option (ℕ × ℕ)} (xc y : List Float) → length xc ≡ 310 → length y ≡ 1024 → r ≡ best_pitches xc y 664 (length xc)
    → r ≡ Some ((find_best_pitch xc y 664 310).first.at, (find_best_pitch xc y 664 310).second.at)
fine-pair xc y l m e = found xc y 664 310 l (omega arith) e

fine-first : {r : Option (ℕ × ℕ)} {p : ℕ × ℕ} (xc y : List Float) → length xc ≡ 310 → length y ≡ 1024 → r ≡ best_pitches xc y 664 (length xc) → r ≡ Some p
    → p.0 ≡ (find_best_pitch xc y 664 310).first.at
fine-first xc y l m e q = ap (λ z. z.0) (same_Some _ _ (sym q ∙ fine-pair xc y l m e))

pub fine-least : {r : Option (ℕ × ℕ)} {p : ℕ × ℕ} (xc y : List Float) → length xc ≡ 310 → length y ≡ 1024 → r ≡ best_pitches xc y 664 (length xc)
    → r ≡ Some p → p.0 < 310
fine-least xc y l m e q =
    let w : (find_best_pitch xc y 664 310).first.at < 310 = (best-within xc y 664 310 (omega arith)).first in
    omega (arith, fine-first xc y l m e q)

pub search-done : {r : Option (ℕ × ℕ)} {b p : ℕ × ℕ} {n : ℕ} (y xc : List Float) → b ≡ ((coarse_best y).first.at, (coarse_best y).second.at)
    → xc ≡ tab (fine_at y b.0 b.1) 310 → r ≡ best_pitches xc y 664 (length xc) → r ≡ Some p → n ≡ refined xc p.0 → length xc ≡ 310 → length y ≡ 1024
    → n ≡ pitch_search y
unfolding pitch_search fine_best fine
search-done y xc e ex ef q en l m =
    let x : xc ≡ fine y (coarse_best y) = ex ∙ ap (λ z. tab (fine_at y z.0 z.1) 310) e in
    en ∙ ap (refined xc) (fine-first xc y l m ef q) ∙ ap (λ z. refined z (find_best_pitch z y 664 310).first.at) x
