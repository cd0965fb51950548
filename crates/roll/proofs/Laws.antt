-- Laws of plain variables that the proofs cite.
use Rattle.std.proofs.Common.{◌≡◌, ◌∙◌, ap, sym, List, ◌++◌, ℕ, ◌+◌, ◌≤◌, ◌-◌, arith, length, take, drop, length-drop, take_at, append-nil, drop_of_length-le}
use Rattle.std.specs.List.{copy_within}
use Rattle.std.proofs.lemmas.List.Edits.{paste_all}
use Rattle.loops.specs.Part.{put}
use Rattle.std.specs.Float.{Float}
use Rattle.roll.specs.Roll.{moved_back, rolled}

moved-within : (n : ℕ) (newest : List Float) → copy_within newest n (length newest) 0 ≡ moved_back n newest
unfolding moved_back
moved-within n newest =
    paste_all newest 0 (drop n newest) (length newest - n) (sym (length-drop n newest))
    ∙ (let e : 0 + (length newest - n) ≡ length newest - n = omega arith in ap (λ z. drop n newest ++ drop z newest) e)

-- all of a list moved back by a frame's length, and the part from a on, as many as the frame, replaced by it
pub roll-is : (frame newest m y : List Float) (a k : ℕ) → length frame ≤ length newest → a ≡ length newest - length frame → k ≡ length m - a
    → m ≡ copy_within newest (length frame) (length newest) 0 → y ≡ frame → put a k y m ≡ rolled frame newest
unfolding moved_back rolled
roll-is frame newest m y a k h e l p q =
    let t : length (drop a m) ≤ k = omega (arith, length-drop a m) in
    ap (λ z. take a m ++ (y ++ z)) (drop_of_length-le (drop a m) {i = k} t)
    ∙ ap (λ z. take a m ++ z) (append-nil y ∙ q)
    ∙ ap (λ z. z ++ frame)
    (ap (take a) (p ∙ moved-within (length frame) newest)
    ∙ take_at (drop (length frame) newest) _ a (length-drop (length frame) newest ∙ sym e))
