use Rattle.std.proofs.Common.{◌≡◌, refl, sym, ap, ap₂, ◌∙◌, [], ◌∷◌, ◌++◌, List, ℕ, ◌+◌, ◌-◌, ◌*◌, ◌/◌, ◌<◌, ◌≤◌, length, get_or, drop, arith, length-drop}
use Rattle.std.proofs.Math.Nat.{zero-mul}
use Rattle.std.proofs.Math.ListN.{set}
use Rattle.std.proofs.lemmas.List.{length_push}
use Rattle.std.proofs.lemmas.Slice.Zip.{zip_turn, zip_end}
use Rattle.std.specs.Iterator.Adapters.{zip_first, zip_second}
use Rattle.std.specs.Slice.Iter.{iter_rest}
use Rattle.std.specs.Prelude.{Float}
use Rattle.std.specs.Float.{nan}
use mathlib.Core.Logic.{inl, inr}
use Rattle.loops.specs.Front.{front, tab, tab-none, tab-more}
use Rattle.deemphasis.specs.Deemphasis.{memory_to, next_memory, pcm_value, value_at}
use Rattle.deemphasis.proofs.Laws.{memory_none, memory_more, value-first, value-second}
use Rattle.deemphasis.proofs.Parts.{part-within, part-room, part-rest, part-at, part-count, part-end}
use Rattle.deemphasis_stereo.proofs.filter_stereo.Goals as goal

pub loop-q-init : goal.loop-q-init
loop-q-init c =
    let a = c.args in
    let i = c.into_iter-q-iterator.ensures.into_iter_gives in
    let n = c.enumerate-q-items.ensures in
    let z : c.into_iter-q-iterator.result.count ≡ 0 = ap (λ x. x.count) i ∙ n.count in
    let s = ap (λ x. x.iter) i ∙ n.source in
    let x = ap (λ x. x.a) s ∙ c.zip.ensures.first in
    let y = ap (λ x. x.b) s ∙ c.zip.ensures.second in
    rw z (record {
      size = (ap (λ x. x.size) x ∙ c.chunks_exact.ensures.size, ap (λ x. x.size) y ∙ c.chunks_exact-2.ensures.size);
      rest = rw zero-mul (ap (λ x. x.rest.now) x ∙ c.chunks_exact.ensures.rest, ap (λ x. x.rest.now) y ∙ c.chunks_exact-2.ensures.rest);
      within = omega arith;
      first = rw zero-mul (memory_none a.v.now (get_or a.memories 0 nan));
      second = rw zero-mul (memory_none a.w.now (get_or a.memories 1 nan));
      pcm = tab-none (value_at a.downsample (a.v.now ∷ a.w.now ∷ []) a.memories) a.pcm.now;
    })

-- where k values of both are kept, there is room for one more of each
room-both : (d q k n : ℕ) (v part rest : List Float) → drop (k * d) v ≡ part ++ rest → length part ≡ d → q ≡ k → k * d ≤ length v
    → 1 ≤ d → length v / d ≤ n / 2 → 2 * q + 1 < n
room-both d q k n v part rest cut long e l one r = omega (arith, part-room d k v part rest cut long (n / 2) one l r, e)

pub loop-x-preserved : goal.loop-x-preserved
loop-x-preserved c =
    let a = c.args in
    let v = a.v.now in
    let w = a.w.now in
    let d = a.downsample in
    let h = c.loop-q.invariant in
    let s = c.in-Some.ensures.steps in
    let l = c.loop-x in
    let q = c.in-Some.q in
    let part = c.in-Some.part.now in
    let other = c.in-Some.other.now in
    let cut = ap (λ k. drop (k * d) v) s.1 ∙ sym h.rest.0 ∙ s.0.0.1.0 in
    let cut' = ap (λ k. drop (k * d) w) s.1 ∙ sym h.rest.1 ∙ s.0.1.1.0 in
    let long = s.0.0.1.1 ∙ h.size.0 in
    let long' = s.0.1.1.1 ∙ h.size.1 in
    let i = c.into_iter-x-iterator.result in
    let one : iter_rest (zip_first i) ≡ part = cc in
    let two : iter_rest (zip_second i) ≡ other = cc in
    let j = length l.yielded in
    let x = c.next-in-loop-x in
    let t =
    zip_turn part other l.yielded i l.x-iterator x.new.self x.result one two l.yielded_by (c.in-Some-2.x, c.in-Some-2.y) c.in-Some-2.is x.ensures.steps in
    let n : q * d + j + 1 ≡ q * d + length (l.yielded ++ (c.in-Some-2.x, c.in-Some-2.y) ∷ []) =
    omega (arith, length_push l.yielded (c.in-Some-2.x, c.in-Some-2.y)) in
    let below : j < d = omega (arith, t.0, long) in (
      c.next_memory-first.ensures ∙ ap (next_memory l.first) (t.2 nan ∙ part-at d q v part _ cut long j below)
          ∙ memory_more v (get_or a.memories 0 nan) l.first (q * d + j) l.invariant.0 ∙ ap (memory_to v (get_or a.memories 0 nan)) n,
      c.next_memory-second.ensures ∙ ap (next_memory l.second) (t.3 nan ∙ part-at d q w other _ cut' long' j below)
          ∙ memory_more w (get_or a.memories 1 nan) l.second (q * d + j) l.invariant.1 ∙ ap (memory_to w (get_or a.memories 1 nan)) n,
    )

pub loop-q-preserved : goal.loop-q-preserved
loop-q-preserved c =
    let a = c.args in
    let v = a.v.now in
    let w = a.w.now in
    let d = a.downsample in
    let h = c.loop-q.invariant in
    let s = c.in-Some.ensures.steps in
    let l = c.loop-x in
    let q = c.in-Some.q in
    let part = c.in-Some.part.now in
    let other = c.in-Some.other.now in
    let cut = ap (λ k. drop (k * d) v) s.1 ∙ sym h.rest.0 ∙ s.0.0.1.0 in
    let cut' = ap (λ k. drop (k * d) w) s.1 ∙ sym h.rest.1 ∙ s.0.1.1.0 in
    let long = s.0.0.1.1 ∙ h.size.0 in
    let long' = s.0.1.1.1 ∙ h.size.1 in
    let i = c.into_iter-x-iterator.result in
    let one : iter_rest (zip_first i) ≡ part = cc in
    let two : iter_rest (zip_second i) ≡ other = cc in
    let e = c.next-in-loop-x in
    let t = zip_end part other l.yielded i l.x-iterator e.new.self e.result one two l.yielded_by c.in-None-2.is e.ensures.steps in
    let f : ℕ → Float = value_at d (v ∷ w ∷ []) a.memories in
    let z : q * d + 0 ≡ q * d = omega arith in
    let end : q * d + length l.yielded ≡ (q + 1) * d = omega (arith, t, long, long') in
    let n : c.next.new.self.count ≡ q + 1 = s.2 ∙ ap (λ k. k + 1) (sym s.1) in
    let low : q * d ≤ length v = rw s.1 h.within in
    let room = room-both d q q (length a.pcm.now) v part _ cut long refl low c.requires.1.some c.requires.1.enough in
    let x = c.pcm_value.result in
    let y = c.pcm_value-in-loop-q.result in
    let r : x ≡ f (2 * q) =
    c.pcm_value.ensures ∙ ap (pcm_value c.loop-q.first) (part-at d q v part _ cut long 0 c.requires.1.some ∙ ap (λ k. get_or v k nan) z)
    ∙ value-first d v w a.memories q c.loop-q.first (q * d) refl (h.first ∙ ap (λ k. memory_to v (get_or a.memories 0 nan) (k * d)) (sym s.1)) in
    let u : y ≡ f (2 * q + 1) =
    c.pcm_value-in-loop-q.ensures ∙ ap (pcm_value c.loop-q.second) (part-at d q w other _ cut' long' 0 c.requires.1.some ∙ ap (λ k. get_or w k nan) z)
    ∙ value-second d v w a.memories q c.loop-q.second (q * d) refl (h.second ∙ ap (λ k. memory_to w (get_or a.memories 1 nan) (k * d)) (sym s.1)) in
    let k : 2 * q + 1 + 1 ≡ 2 * (q + 1) = omega arith in
    let first : set c.loop-q.pcm (2 * q) x ≡ front (tab f (2 * q + 1)) a.pcm.now (2 * q + 1) =
    tab-more f nan a.pcm.now c.loop-q.pcm (2 * q) (h.pcm ∙ ap (λ k. front (tab f (2 * k)) a.pcm.now (2 * k)) (sym s.1)) x r (omega (arith, room)) in
    rw n (record {
      size = (s.0.0.0 ∙ h.size.0, s.0.1.0 ∙ h.size.1);
      rest = (part-rest d q v part _ cut long, part-rest d q w other _ cut' long');
      within = part-within d q v part _ cut long low;
      first = l.invariant.0 ∙ ap (memory_to v (get_or a.memories 0 nan)) end;
      second = l.invariant.1 ∙ ap (memory_to w (get_or a.memories 1 nan)) end;
      pcm = tab-more f nan a.pcm.now (set c.loop-q.pcm (2 * q) x) (2 * q + 1) first y u room ∙ ap (λ z. front (tab f z) a.pcm.now z) k;
    })

pub returns : goal.returns
returns c =
    let a = c.args in
    let v = a.v.now in
    let w = a.w.now in
    let d = a.downsample in
    let k = c.loop-q.q-iterator.count in
    let h = c.loop-q.invariant in
    let r = c.requires in
    let f : ℕ → Float = value_at d (v ∷ w ∷ []) a.memories in
    let less : length v - k * d < d =
    elim c.in-None.ensures.steps.0 [
      | inl x ↦ omega (arith, ap length h.rest.0, length-drop (k * d) v, x.1.1.0, h.size.0)
      | inr x ↦ omega (arith, ap length h.rest.1, length-drop (k * d) w, x.1.1.0, h.size.1, r.0)
    ] in
    let e = part-end d k (length v) h.within less r.1.even in (
      ap₂ (λ x y. x ∷ y ∷ []) (h.first ∙ ap (memory_to v (get_or a.memories 0 nan)) e) (h.second ∙ ap (memory_to w (get_or a.memories 1 nan)) e),
      h.pcm ∙ ap (λ k. front (tab f (2 * k)) a.pcm.now (2 * k)) (part-count d k (length v) h.within less),
    )
