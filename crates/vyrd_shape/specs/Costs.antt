-- What the rules of shape cost, in steps.
use Rattle.std.specs.Prelude.{ℕ, ◌+◌, ◌*◌, ◌^◌, ◌==◌, List, length, if◌then◌else◌}
use Rattle.std.specs.List.{sum_by}
use Rattle.vyrd_shape.specs.Stamps.{CommitStamps}
use Rattle.vyrd_shape.specs.Following.{ShapeKept}

-- how many words are held
abbrev pub held_count : List ℕ → ℕ
held_count holders = sum_by (λ holder. if holder == 0 then 0 else 1) holders

-- what it costs to number that many stamps by these commits: each stamp is compared with all
abbrev pub ranking_cost : ℕ → ℕ → ℕ
ranking_cost commits stamps = stamps * (commits + 1)

-- what it costs to number all stamps again: those of commits are copied, and then those of words
-- and of commits are numbered
abbrev pub renumbering_cost : CommitStamps → List ℕ → ℕ
renumbering_cost commits stamps =
    length commits.by_caller + ranking_cost (length commits.by_caller) (length stamps)
    + ranking_cost (length commits.by_caller) (length commits.by_caller)

-- The same, if the next stamp is the greatest that a `u64` has, and otherwise nothing. No log of
-- less than 2^63 entries gets there.
abbrev pub adding_cost : CommitStamps → List ℕ → ℕ
adding_cost commits stamps =
    if commits.next + 1 == 2 ^ 64 then renumbering_cost commits stamps else 0

-- What is owed for the entries so far: each held word is looked at once more, when its block ends.
abbrev pub owed : ShapeKept → ℕ
owed kept = held_count kept.holders
