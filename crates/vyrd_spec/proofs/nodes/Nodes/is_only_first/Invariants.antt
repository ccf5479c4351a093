use Rattle.vyrd_spec.proofs.Prelude.{◌≡◌, count_by, numbers_below, is_first_of}
use Rattle.vyrd_spec.proofs.nodes.Nodes.is_only_first.Given as goal

abbrev pub invariant-loop-other : goal.invariant-loop-other
invariant-loop-other l = l.firsts ≡ count_by (is_first_of l.self.last l.self.words.now l.level)
    (numbers_below l.other)
