-- With two inputs every lane goes two steps on and is taken back into the circle, and each sum gets two terms more.
use mathlib.Core.Path.{◌≡◌, refl, ap, ◌∙◌}
use Prim.Native.Nat.{ℕ, ◌+◌, ◌*◌, ◌<◌}
use native.Mathlib.Omega.{arith}
use mathlib.Core.List.{[], ◌∷◌}
use lib.ListN.{length, get_or}
use lib.Ieee.{nan}
use borrow.Author.Rules.{rules}
use Rattle.loops.specs.Chunks.{chunk_at}
use Rattle.loops.specs.Front.{tab}
use Rattle.loops.specs.Mapped.{mapped}
use Rattle.mdct.specs.Imdct.{imdct_sum}
use Rattle.cosine_circle.proofs.Sizes.{sized, even, few}
use Rattle.mdct_pairs.proofs.PairLanes.{sums, places-none}
use Rattle.mdct.proofs.Lanes.{places, sums_none}
use Rattle.mdct_pairs.proofs.Two.{short-step, Turn, turn, more-left, two-of, inputs-count, pairs-in, reads, small, reads-1, small-1, sums-2, wrap, lanes-3}
use Rattle.mdct_pairs.proofs.lanes.Tables.four.Goals.{In-loop-four}
use Rattle.mdct_pairs.proofs.lanes.Tables.four.Goals as goal

pub first_places-at-requires : goal.first_places-at-requires
first_places-at-requires c = let f = few _ c.args.self.frame in (omega arith, f)

pub loop-four-init : goal.loop-four-init
loop-four-init c = (places-none _ _ (sized _ c.args.self.frame) c.requires _ c.first_places-at.ensures, sums_none _, refl)

-- a turn is under way, as each call in it asks
begun : (c : In-loop-four)
    → Turn c.args.self.x.now c.args.self.pairs.now c.args.self.inputs.now c.args.t c.loop-four.four-index c.loop-four.at c.loop-four.acc
begun c =
    turn c.args.self c.requires (more-left c.args.self _ c.as_chunks.ensures.front_len c.loop-four-test.true) c.loop-four.invariant.0 c.loop-four.invariant.1

pub add_terms-requires : goal.add_terms-requires
add_terms-requires c =
    let w = begun (goal.at.add_terms-requires c).In-loop-four in
    record { pairs_len = pairs-in w; by_index = reads w }

pub onward-requires : goal.onward-requires
onward-requires c =
    let w = begun (goal.at.onward-requires c).In-loop-four in
    record { step_bound = short-step _ _ (few _ c.args.self.frame) c.requires; by_index = small w }

pub add_terms-requires-in-loop-four : goal.add_terms-requires-in-loop-four
add_terms-requires-in-loop-four c =
    let w = begun (goal.at.add_terms-requires-in-loop-four c).In-loop-four in
    record {
      pairs_len = pairs-in w;
      by_index = reads-1 w _ _ refl c.onward.ensures;
    }

pub onward-requires-in-loop-four : goal.onward-requires-in-loop-four
onward-requires-in-loop-four c =
    let w = begun (goal.at.onward-requires-in-loop-four c).In-loop-four in
    record {
      step_bound = short-step _ _ (few _ c.args.self.frame) c.requires;
      by_index = small-1 w _ _ refl c.onward.ensures;
    }

pub loop-four-preserved : goal.loop-four-preserved
loop-four-preserved c =
    let w = begun (goal.at.loop-four-preserved c).In-loop-four in
    let n = length c.args.self.x.now in
    let l = c.loop-four in
    let f = λ (j : ℕ) (g : j < 4).
    ap (λ y. get_or (get_or y l.four-index []) j nan) c.as_chunks.ensures.front
    ∙ chunk_at 4 _ l.four-index j nan c.args.self.inputs.now (omega (arith, c.loop-four-test.true, c.as_chunks.ensures.front_len)) g in
    let u = two-of c.args.self.inputs.now l.four-index 0 _ _ (f 0 (omega arith)) (f 1 (omega arith)) in
    let v = two-of c.args.self.inputs.now l.four-index 2 _ _ (f 2 (omega arith)) (f 3 (omega arith)) in
    let back = mapped _ (wrap (8 * n)) _ (λ x y q l. search rules) 4 _ _ 0 0 c.map-at.ensures.items in
    let two : 2 * l.four-index + 1 + 1 ≡ 2 * (l.four-index + 1) = omega arith in (
      lanes-3 w _ _ refl c.onward.ensures _ c.onward-in-loop-four.ensures _ back
          ∙ ap (λ y. tab (λ (j : ℕ). 2 * places n c.args.t y j) 4) two,
      sums-2 w _ _ refl c.onward.ensures _ (_ ∷ _ ∷ []) u c.add_terms.ensures _ (_ ∷ _ ∷ []) v c.add_terms-in-loop-four.ensures
          ∙ ap (λ y. tab (sums n c.args.self.x.now c.args.t y) 8) two,
      omega arith,
    )

pub returns : goal.returns
unfolding imdct_sum
returns c =
    let l = c.loop-four in
    let n = length c.args.self.x.now in
    let v = even n (sized _ c.args.self.frame) in
    let q = c.as_chunks.ensures.front_len in
    let i = inputs-count _ _ c.args.self.inputs_value in
    let e : 2 * l.four-index ≡ n = omega (arith, c.loop-four-test, q, i, v) in
    (l.invariant.1 ∙ ap (λ y. tab (sums n c.args.self.x.now c.args.t y) 8) e, omega arith)
