-- The left neighbours of a tree's nodes.
use Rattle.std.specs.Prelude.{ℕ, Bool, ◌==◌, not, ◌&&◌, ◌||◌, nat_le, List, length, get_or}
use Rattle.std.specs.Prelude.{slice_set, count_by, Option, None, Some, is_some, if◌then◌else◌}
use Rattle.std.specs.List.{list_all}
use Rattle.vyrd_base.specs.Tree.{nodes, leads_to}

-- whether at most one right link leads to each node in use
abbrev pub have_one_left : ℕ → List ℕ → Bool
have_one_left last words =
    list_all (λ n. nat_le (count_by (leads_to words n) (nodes last)) 1) (nodes last)

-- whether the node on the right has a left neighbour
abbrev pub has_left : List (Option ℕ) → ℕ → Bool
has_left lefts right = not (right == 0) && is_some (get_or lefts right None)

-- the left neighbours, once a node with this right link is one, if that leads to a node in use
abbrev pub with_left : List (Option ℕ) → ℕ → ℕ → List (Option ℕ)
with_left lefts right node =
    if right == 0 || nat_le (length lefts) right then lefts else slice_set lefts right (Some node)
