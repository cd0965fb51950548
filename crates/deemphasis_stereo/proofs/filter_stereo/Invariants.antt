use Rattle.std.proofs.Common.{◌≡◌, [], ◌∷◌, ◌+◌, ◌*◌, ◌≤◌, length, get_or, drop}
use Rattle.std.specs.Float.{nan}
use Rattle.loops.specs.Front.{front, tab}
use Rattle.deemphasis.specs.Deemphasis.{memory_to, value_at}
use Rattle.deemphasis_stereo.proofs.filter_stereo.Given as goal

-- after as many samples of both as were yielded
abbrev pub invariant-loop-x : goal.invariant-loop-x
invariant-loop-x l =
    let j = l.q * l.downsample + length l.yielded in
    (l.first ≡ memory_to l.v (get_or l.fn.memories 0 nan) j) × (l.second ≡ memory_to l.w (get_or l.fn.memories 1 nan) j)

-- after as many values of both as the parts are counted
abbrev pub invariant-loop-q : goal.invariant-loop-q
invariant-loop-q l =
    let q = l.q-iterator.count in
    record {
      size : (l.q-iterator.iter.a.size ≡ l.downsample) × (l.q-iterator.iter.b.size ≡ l.downsample);
      rest : (l.q-iterator.iter.a.rest.now ≡ drop (q * l.downsample) l.v) × (l.q-iterator.iter.b.rest.now ≡ drop (q * l.downsample) l.w);
      within : q * l.downsample ≤ length l.v;
      first : l.first ≡ memory_to l.v (get_or l.fn.memories 0 nan) (q * l.downsample);
      second : l.second ≡ memory_to l.w (get_or l.fn.memories 1 nan) (q * l.downsample);
      pcm : l.pcm ≡ front (tab (value_at l.downsample (l.v ∷ l.w ∷ []) l.fn.memories) (2 * q)) l.initial.pcm (2 * q);
    }
