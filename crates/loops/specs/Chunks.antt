-- A list read by chunks of one length, and what stands at each place of each.
use Rattle.std.specs.Prelude.{◌≡◌, List, [], ℕ, zero, suc, ◌+◌, ◌*◌, ◌<◌, get_or, drop}
use Rattle.std.proofs.Common.{ap, ◌∙◌, arith}
use Rattle.std.specs.Simd.{first_chunks}
use Rattle.std.proofs.lemmas.List.{get_or-take, get_or-drop}

-- element j of the chunk of n numbered h
pub chunk_at : {A : Type 0} (n k h j : ℕ) (d : A) (xs : List A) → h < k → j < n → get_or (get_or (first_chunks n k xs) h []) j d ≡ get_or xs (n * h + j) d
chunk_at n zero h j d xs l m = let z : ⊥ = omega arith in absurd z
chunk_at n (suc k) zero j d xs l m = let e : j ≡ n * 0 + j = omega arith in get_or-take n xs j d m ∙ ap (λ z. get_or xs z d) e
chunk_at n (suc k) (suc h) j d xs l m =
    let e : n + (n * h + j) ≡ n * suc h + j = omega arith in
    chunk_at n k h j d (drop n xs) (omega arith) m ∙ get_or-drop n xs (n * h + j) d ∙ ap (λ z. get_or xs z d) e
