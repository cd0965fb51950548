use Rattle.std.proofs.Common.{◌≡◌, refl, sym, ap, ◌∙◌, [], ◌∷◌, ℕ, ◌+◌, ◌*◌, ◌-◌, ◌<◌, ◌≤◌, length, get_or, drop, arith, length-drop}
use Rattle.std.proofs.Math.Nat.{zero-mul}
use Rattle.std.specs.Prelude.{Float}
use Rattle.std.specs.Float.{nan}
use Rattle.loops.specs.Front.{tab, front, tab-none, tab-more}
use Rattle.deemphasis.specs.Deemphasis.{memory_to, next_memory, pcm_value, value_at}
use Rattle.deemphasis.proofs.Laws.{memory_none, memory_more, value-mono}
use Rattle.deemphasis.proofs.Parts.{part-within, part-room, part-rest, part-at, part-count, part-end}
use Rattle.deemphasis_mono.proofs.filter_mono.Goals as goal

pub loop-q-init : goal.loop-q-init
loop-q-init c =
    let a = c.args in
    let i = c.into_iter-q-iterator.ensures.into_iter_gives in
    let n = c.enumerate-q-items.ensures.count in
    let e = c.enumerate-q-items.ensures.source in
    let z : c.into_iter-q-iterator.result.count ≡ 0 = ap (λ x. x.count) i ∙ n in
    let s = ap (λ x. x.iter) i ∙ e in
    rw z (record {
      size = ap (λ x. x.size) s ∙ c.chunks_exact.ensures.size;
      rest = rw zero-mul (ap (λ x. x.rest.now) s ∙ c.chunks_exact.ensures.rest);
      within = omega arith;
      mem = rw zero-mul (memory_none a.v.now a.memory);
      pcm = tab-none (value_at a.downsample (a.v.now ∷ []) (a.memory ∷ [])) a.pcm.now;
    })

pub loop-x-preserved : goal.loop-x-preserved
loop-x-preserved c =
    let v = c.args.v.now in
    let d = c.args.downsample in
    let h = c.loop-q.invariant in
    let s = c.in-Some.ensures.steps in
    let l = c.loop-x in
    let q = c.in-Some.q in
    let cut = ap (λ k. drop (k * d) v) s.1 ∙ sym h.rest ∙ s.0.1.0 in
    let long = s.0.1.1 ∙ h.size in
    let e : q * d + l.x-index + 1 ≡ q * d + (l.x-index + 1) = omega arith in
    c.next_memory-mem.ensures
    ∙ ap (next_memory l.mem) (part-at d q v c.in-Some.part.now _ cut long l.x-index (omega arith))
    ∙ memory_more v c.args.memory l.mem (q * d + l.x-index) l.invariant
    ∙ ap (memory_to v c.args.memory) e

pub loop-q-preserved : goal.loop-q-preserved
loop-q-preserved c =
    let a = c.args in
    let v = a.v.now in
    let d = a.downsample in
    let h = c.loop-q.invariant in
    let s = c.in-Some.ensures.steps in
    let q = c.in-Some.q in
    let part = c.in-Some.part.now in
    let cut = ap (λ k. drop (k * d) v) s.1 ∙ sym h.rest ∙ s.0.1.0 in
    let long = s.0.1.1 ∙ h.size in
    let f : ℕ → Float = value_at d (v ∷ []) (a.memory ∷ []) in
    let n : c.next.new.self.count ≡ q + 1 = s.2 ∙ ap (λ k. k + 1) (sym s.1) in
    let low : q * d ≤ length v = rw s.1 h.within in
    let z : q * d + 0 ≡ q * d = omega arith in
    let mem = h.mem ∙ ap (λ k. memory_to v a.memory (k * d)) (sym s.1) in
    let r : c.pcm_value.result ≡ f q =
    c.pcm_value.ensures ∙ ap (pcm_value c.loop-q.mem) (part-at d q v part _ cut long 0 (omega arith) ∙ ap (λ k. get_or v k nan) z)
    ∙ value-mono d v a.memory q c.loop-q.mem (q * d) refl mem in
    let k : q * d + c.loop-x.x-index ≡ (q + 1) * d = omega arith in
    rw n (record {
      size = s.0.0 ∙ h.size;
      rest = part-rest d q v part _ cut long;
      within = part-within d q v part _ cut long low;
      mem = c.loop-x.invariant ∙ ap (memory_to v a.memory) k;
      pcm = tab-more f nan a.pcm.now c.loop-q.pcm q (h.pcm ∙ ap (λ k. front (tab f k) a.pcm.now k) (sym s.1)) _ r
          (omega (arith, c.loop-q.auto.pcm, part-room d q v part _ cut long (length a.pcm.now) c.requires.some low c.requires.enough));
    })

pub returns : goal.returns
returns c =
    let v = c.args.v.now in
    let d = c.args.downsample in
    let q = c.loop-q.q-iterator.count in
    let h = c.loop-q.invariant in
    let f : ℕ → Float = value_at d (v ∷ []) (c.args.memory ∷ []) in
    let less : length v - q * d < d = omega (arith, ap length h.rest, length-drop (q * d) v, c.in-None.ensures.steps.0.1.0) in (
      h.mem ∙ ap (memory_to v c.args.memory) (part-end d q (length v) h.within less c.requires.even),
      h.pcm ∙ ap (λ k. front (tab f k) c.args.pcm.now k) (part-count d q (length v) h.within less),
    )
