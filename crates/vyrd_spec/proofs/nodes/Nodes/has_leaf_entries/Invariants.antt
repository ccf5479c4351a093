use Rattle.vyrd_spec.proofs.Prelude.{◌≡◌, true, list_all, numbers_below, is_leaf_entry, entry_at}
use Rattle.vyrd_spec.proofs.nodes.Nodes.has_leaf_entries.Given as goal

abbrev pub invariant-loop-place : goal.invariant-loop-place
invariant-loop-place l = list_all (λ j. is_leaf_entry (entry_at l.self.words.now l.node j))
    (numbers_below l.place) ≡ true
