-- Lists whose values are all f32.
use Rattle.std.specs.Prelude.{Bool, true, false, cond, List, [], ◌∷◌, ◌++◌, map, ℕ, zero, suc, ◌<◌, length, get_or, set, take, drop, replicate, T, Float}
use Rattle.std.specs.List.{All}
use Rattle.std.proofs.lemmas.List.Elements.{All-nil, All-head, All-tail, All-append, All-push, All-take, All-drop, All-set}
use Rattle.std.proofs.lemmas.List.Elements.{All-map, All-replicate, All-from_get_or}
use Rattle.std.proofs.Math.Seq.{slice}
use Rattle.std.specs.Float.{nan, binary32}
use Rattle.std.specs.Float.Ieee.{fits}
use Rattle.std.specs.Float.Ieee.Fits.{nan-fits}
use Rattle.loops.specs.Front.{tab}

-- an f32
abbrev pub Single : Float → Type 0
Single v = T (fits binary32 v)

-- each of its values is an f32
abbrev pub AllSingle : List Float → Type 0
AllSingle = All Single

pub all-at : (xs : List Float) (i : ℕ) → AllSingle xs → Single (get_or xs i nan)
all-at [] i a = nan-fits binary32
all-at (x ∷ xs) zero a = All-head Single x xs a
all-at (x ∷ xs) (suc i) a = all-at xs i (All-tail Single x xs a)

pub all_append : (xs ys : List Float) → AllSingle xs → AllSingle ys → AllSingle (xs ++ ys)
all_append = All-append Single

pub all_take : (n : ℕ) (xs : List Float) → AllSingle xs → AllSingle (take n xs)
all_take = All-take Single

pub all_drop : (n : ℕ) (xs : List Float) → AllSingle xs → AllSingle (drop n xs)
all_drop = All-drop Single

pub all-slice : (i j : ℕ) (xs : List Float) → AllSingle xs → AllSingle (slice i j xs)
all-slice i j xs a = all_drop i (take j xs) (all_take j xs a)

pub all_set : (xs : List Float) (i : ℕ) (v : Float) → AllSingle xs → Single v → AllSingle (set xs i v)
all_set xs i v a s = All-set Single xs i v s a

pub all_map : (f : Float → Float) (xs : List Float) → ((v : Float) → Single (f v)) → AllSingle (map f xs)
all_map f xs s = All-map Single f xs (All-from_get_or (λ v. Single (f v)) xs nan (λ i _. s (get_or xs i nan)))

pub all_replicate : (n : ℕ) (v : Float) → Single v → AllSingle (replicate n v)
all_replicate = All-replicate Single

pub all-tab : (f : ℕ → Float) (n : ℕ) → ((i : ℕ) → Single (f i)) → AllSingle (tab f n)
unfolding tab
all-tab f zero s = All-nil Single
all-tab f (suc n) s = All-push Single (tab f n) (f n) (all-tab f n s) (s n)

pub all-cond : (b : Bool) (xs ys : List Float) → AllSingle xs → AllSingle ys → AllSingle (cond b xs ys)
all-cond true xs ys p q = p
all-cond false xs ys p q = q

-- by index, as a record's reader has it, and back
pub all-index : (xs : List Float) → AllSingle xs → (i : ℕ) → i < length xs → Single (get_or xs i nan)
all-index xs a i l = all-at xs i a

pub index-all : (xs : List Float) → ((i : ℕ) → i < length xs → Single (get_or xs i nan)) → AllSingle xs
index-all xs s = All-from_get_or Single xs nan s
