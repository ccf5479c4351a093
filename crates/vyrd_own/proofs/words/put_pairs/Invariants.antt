use Rattle.vyrd_own.proofs.Prelude.{◌≡◌, ℕ, take, map, slice_index_or, show_of, given_by}
use Rattle.vyrd_own.proofs.words.put_pairs.Given as goal

abbrev pub invariant-loop-j : goal.invariant-loop-j
invariant-loop-j l =
    (k : ℕ) → slice_index_or l.pairs k (0, 0) ≡ slice_index_or
    (map (given_by l.values) (map show_of (take l.j l.shows))) k (0, 0)
