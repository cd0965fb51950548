use Rattle.std.proofs.Common.{◌≡◌, [], ◌∷◌, ◌+◌, ◌*◌, ◌≤◌, length, drop}
use Rattle.loops.specs.Front.{front, tab}
use Rattle.deemphasis.specs.Deemphasis.{memory_to, value_at}
use Rattle.deemphasis_mono.proofs.filter_mono.Given as goal

-- after the samples before x
abbrev pub invariant-loop-x : goal.invariant-loop-x
invariant-loop-x l = l.mem ≡ memory_to l.v l.memory (l.q * l.downsample + l.x-index)

-- after as many values as the parts are counted
abbrev pub invariant-loop-q : goal.invariant-loop-q
invariant-loop-q l =
    let q = l.q-iterator.count in
    record {
      size : l.q-iterator.iter.size ≡ l.downsample;
      rest : l.q-iterator.iter.rest.now ≡ drop (q * l.downsample) l.v;
      within : q * l.downsample ≤ length l.v;
      mem : l.mem ≡ memory_to l.v l.memory (q * l.downsample);
      pcm : l.pcm ≡ front (tab (value_at l.downsample (l.v ∷ []) (l.memory ∷ [])) q) l.initial.pcm q;
    }
