-- What a node of a tree gives to a key, if it is on the chain of leaves.
use Rattle.std.specs.Prelude.{ℕ, ◌+◌, List}
use Rattle.vyrd_base.specs.Amounts.{part_given}
use Rattle.vyrd_view.specs.Chains.{entry_pair}

-- what its four entries give
abbrev pub node_given : ℕ → List ℕ → ℕ → ℕ
node_given q words n = part_given q (entry_pair words n 0) + part_given q (entry_pair words n 1)
    + part_given q (entry_pair words n 2) + part_given q (entry_pair words n 3)
