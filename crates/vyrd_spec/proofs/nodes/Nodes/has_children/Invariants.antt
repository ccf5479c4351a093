use Rattle.vyrd_spec.proofs.Prelude.{◌≡◌, true, list_all, numbers_below, is_child_entry, entry_at}
use Rattle.vyrd_spec.proofs.nodes.Nodes.has_children.Given as goal

abbrev pub invariant-loop-place : goal.invariant-loop-place
invariant-loop-place l =
    list_all (λ j. is_child_entry l.self.last l.self.words.now l.level
    (entry_at l.self.words.now l.node j)) (numbers_below l.place) ≡ true
