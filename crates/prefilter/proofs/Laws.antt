-- Laws of plain variables that the proofs cite.
use Rattle.std.proofs.Common.{◌≡◌, ap, ◌∙◌, sym, true, false, List, ◌++◌, ℕ, ◌+◌, ◌-◌, ◌≤◌, length, take, drop, arith, length-drop, drop_of_length-le, take-append-drop, append-nil}
use Rattle.std.proofs.lemmas.Bool.Decides.{nat_tests}
use Rattle.std.specs.Float.{Float}
use Rattle.loops.specs.Pick.{pick_true, pick-false}
use Rattle.loops.specs.Part.{put}
use Rattle.post_filter.specs.declared.Filter.{Filter}
use Rattle.post_filter.specs.Limits.{filter_fits}
use Rattle.history.specs.History.{half, overlap}
use Rattle.comb_filter.specs.Comb.{comb_filtered}
use Rattle.prefilter.specs.Prefilter.{skips, pre_filtered, pre_filtered_end, prefilter_takes}

pub prefilter-yes : (n : ℕ) (f : Filter) → n ≡ half + overlap → filter_fits f ≡ true → prefilter_takes n f ≡ true
unfolding prefilter_takes
prefilter-yes n f p q = grind (arith, nat_tests)

-- a gain of zero leaves all
pub pre_skip : (f : Filter) (t : List Float) → skips f.gain ≡ true → t ≡ pre_filtered_end f t
unfolding pre_filtered pre_filtered_end
pre_skip f t e = sym (take-append-drop half t) ∙ ap (λ z. take half t ++ z) (sym (pick_true _ _ _ e))

-- any other puts the filtered overlap in place of the overlap
pub pre-put : (f : Filter) (t pre y : List Float) (k : ℕ) → skips f.gain ≡ false → k ≡ length t - half → pre ≡ comb_filtered f t → y ≡ pre
    → put half k y t ≡ pre_filtered_end f t
unfolding pre_filtered pre_filtered_end
pre-put f t pre y k e n p q =
    let l : length (drop half t) ≤ k = omega (arith, length-drop half t) in
    let s : t ≡ take half t ++ drop half t = sym (take-append-drop half t) in
    ap (λ z. take half t ++ (y ++ z)) (drop_of_length-le (drop half t) {i = k} l)
    ∙ ap (λ z. take half t ++ z) (append-nil y ∙ q ∙ p ∙ ap (comb_filtered f) s ∙ sym (pick-false _ _ _ e))
