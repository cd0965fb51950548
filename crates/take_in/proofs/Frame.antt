-- What a frame taken in leaves of a tail, over plain variables.
use mathlib.Core.Path.{◌≡◌, refl, ap, sym, ◌∙◌}
use mathlib.Core.Bool.{Bool, true}
use mathlib.Core.List.{List, [], ◌++◌, append-nil}
use Prim.Native.Nat.{ℕ, ◌+◌, ◌-◌, ◌≤◌}
use native.Mathlib.Omega.{arith}
use lib.Dec.{eqb, leb}
use lib.ListN.{length, take, drop, length-append, length-drop, drop_of_length-le}
use lib.Seq.{slice, length-slice, length-take-le, take_at, drop_at}
use lib.Ieee.{Float}
use borrow.Author.Tests.{eqb-true, leb-true, eq-eqb, le-leb}
use Rattle.loops.specs.Part.{put}
use Rattle.history.proofs.Parts.{TailSized, slice-take}
use Rattle.fold.proofs.Laws.{fold-yes}
use Rattle.prefilter.proofs.Laws.{prefilter-yes}
use Rattle.loops.specs.Logic.{and-true, and_both}
use Rattle.reply.specs.Reply.{reply, reply_if, reply-lent, reply-yes, reply-taken}
use Rattle.history.specs.History.{half, overlap, Tail, tail_list, tail_of}
use Rattle.celt_window.specs.Window.{window}
use Rattle.post_filter.specs.declared.Filter.{Filter}
use Rattle.post_filter.specs.Limits.{filter_fits}
use Rattle.prefilter.specs.Prefilter.{pre_filtered, length-pre_filtered, pre_filtered_end, prefilter_takes}
use Rattle.roll.specs.Roll.{rolled, length-rolled}
use Rattle.fold.specs.Fold.{folded, length-folded, fold_takes}
use Rattle.take_in.specs.TakeIn.{longest_frame, extra, tail_after, tail_takes}

-- what an accepted call may go by
pub record Fits (size n m : ℕ) (f : Filter) : Type 0 where
  pub whole : size ≡ half + overlap
  pub frame : n ≤ longest_frame
  pub samples : m ≡ n + extra
  pub filter : filter_fits f ≡ true

pub takes-fits : (size n m : ℕ) (f : Filter) → tail_takes size n m f ≡ true → Fits size n m f
unfolding tail_takes
takes-fits size n m f e =
    let a = and-true (eqb size (half + overlap)) _ e in
    let b = and-true (leb n longest_frame) _ a.1 in
    let c = and-true (eqb m (n + extra)) _ b.1 in
    record {
      whole = eqb-true size (half + overlap) a.0;
      frame = leb-true n longest_frame b.0;
      samples = eqb-true m (n + extra) c.0;
      filter = c.1;
    }

pub tail-takes : (size n m : ℕ) (f : Filter) → size ≡ half + overlap → n ≤ longest_frame → m ≡ n + extra → filter_fits f ≡ true → tail_takes size n m f ≡ true
unfolding tail_takes
tail-takes size n m f p q r s =
    and_both (eqb size (half + overlap)) _ (eq-eqb _ _ p) (and_both (leb n longest_frame) _ (le-leb _ _ q) (and_both (eqb m (n + extra)) _ (eq-eqb _ _ r) s))

-- what a step did that cannot refuse, by what stood before it
passed-on : {A : Type 0} (t : Bool) (v : A) (b d : Bool) (x y was before : A)
    → reply t v ≡ reply_if b x was → b ≡ true → d ≡ true → x ≡ y → reply t v ≡ reply_if d y before
passed-on t v b d x y was before e p q h =
    ap (λ z. reply z v) (reply-taken b x was e ∙ p) ∙ reply-yes d y before q (reply-lent b x was e p ∙ h)

pub after-sized : (n : ℕ) (e : List Float) (f : Filter) (t : Tail) → length e ≡ n + extra → n ≤ longest_frame → TailSized t → TailSized (tail_after n e f t)
unfolding tail_after
after-sized n e f t l h z = record {
  new = length-rolled (take n e) t.new (omega (arith, length-take-le n e (omega arith), z.new)) ∙ z.new;
  over = length-pre_filtered f _ _ (length-folded _ _);
}

module _ (n : ℕ) (x e : List Float) (f : Filter) (lx : length x ≡ half + overlap) (le : length e ≡ n + extra) (ln : n ≤ longest_frame) (fits : filter_fits f ≡ true) where
  framed : List Float
  framed = rolled (take n e) (take half x)

  over : List Float
  over = folded window (slice n (n + overlap) e)

  framed-size : length framed ≡ half
  unfolding framed
  framed-size =
      length-rolled (take n e) (take half x) (omega (arith, length-take-le n e (omega arith), length-take-le half x (omega arith)))
      ∙ length-take-le half x (omega arith)

  over-size : length over ≡ overlap
  unfolding over
  over-size = length-folded _ _

  tail-after : tail_list (tail_after n e f (tail_of x)) ≡ framed ++ pre_filtered f framed over
  unfolding tail_list tail_after tail_of framed over
  tail-after = refl

  -- the roll takes the frame
  pub roll-takes : leb (length (take n e)) (length (take half x)) ≡ true
  roll-takes =
      le-leb (length (take n e)) (length (take half x)) (omega (arith, length-take-le n e (omega arith), length-take-le half x (omega arith)))

  -- r: the newest after the roll
  module _ (r : List Float) (b : Bool)
      (p : reply b r ≡ reply_if (leb (length (take n e)) (length (take half x))) (rolled (take n e) (take half x)) (take half x)) where
    rolled-is : r ++ drop half x ≡ framed ++ drop half x
    unfolding framed
    rolled-is = ap (λ w. w ++ drop half x) (reply-lent _ _ _ p roll-takes)

    -- the part from 1,024 on is the overlap, and what is folded into it is as long: the fold takes both
    part-size : (k : ℕ) → k ≡ length (r ++ drop half x) - half → length (take k (drop half (r ++ drop half x))) ≡ overlap
    part-size k q =
        let l : length (r ++ drop half x) ≡ half + overlap =
        ap length rolled-is ∙ omega (arith, length-append framed (drop half x), length-drop half x, framed-size) in
        omega (
          arith,
          length-drop half (r ++ drop half x),
          length-take-le k (drop half (r ++ drop half x)) (omega (arith, length-drop half (r ++ drop half x))),
        )

    next : take (n + overlap - n) (drop n e) ≡ slice n (n + overlap) e
    next =
        let s : n + overlap - n ≡ overlap = omega arith in
        ap (λ w. take w (drop n e)) s ∙ sym (slice-take n overlap e (omega arith))

    pub fold-takes : (k : ℕ) → k ≡ length (r ++ drop half x) - half
        → fold_takes (length (take k (drop half (r ++ drop half x)))) (length (take (n + overlap - n) (drop n e))) ≡ true
    fold-takes k q = fold-yes _ _ (part-size k q) (ap length next ∙ omega (arith, length-slice n (n + overlap) e (omega arith)))

    -- y: the overlap after the fold, and u the whole then
    module _ (y : List Float) (c : Bool) (k : ℕ) (pk : k ≡ length (r ++ drop half x) - half)
        (q : reply c y ≡ reply_if (fold_takes (length (take k (drop half (r ++ drop half x)))) (length (take (n + overlap - n) (drop n e))))
        (folded window (take (n + overlap - n) (drop n e))) (take k (drop half (r ++ drop half x)))) where
      joined_is : put half k y (r ++ drop half x) ≡ framed ++ over
      unfolding over
      joined_is =
          let a : take half (r ++ drop half x) ≡ framed = ap (take half) rolled-is ∙ take_at framed (drop half x) half framed-size in
          let b : drop k (drop half (r ++ drop half x)) ≡ [] =
          drop_of_length-le (drop half (r ++ drop half x)) {i = k} (omega (arith, length-drop half (r ++ drop half x))) in
          let d : y ≡ over = reply-lent _ _ _ q (fold-takes k pk) ∙ ap (folded window) next in
          (λ i. a i ++ (d i ++ b i)) ∙ ap (λ w. framed ++ w) (append-nil over)

      pub after_is : (v : List Float) (a : Bool)
          → reply a v
          ≡ reply_if (prefilter_takes (length (put half k y (r ++ drop half x))) f) (pre_filtered_end f (put half k y (r ++ drop half x)))
          (put half k y (r ++ drop half x))
          → reply a v ≡ reply_if (tail_takes (length x) n (length e) f) (tail_list (tail_after n e f (tail_of x))) x
      unfolding pre_filtered_end
      after_is v a h =
          let u : List Float = put half k y (r ++ drop half x) in
          let m : prefilter_takes (length u) f ≡ true =
          prefilter-yes _ _ (ap length joined_is ∙ omega (arith, length-append framed over, framed-size, over-size)) fits in
          let g : take half u ≡ framed = ap (take half) joined_is ∙ take_at framed over half framed-size in
          let o : drop half u ≡ over = ap (drop half) joined_is ∙ drop_at framed over half framed-size in
          passed-on _ _ _ _ _ _ _ _ h m (tail-takes _ n _ f lx ln le fits) ((λ i. g i ++ pre_filtered f (g i) (o i)) ∙ sym tail-after)
