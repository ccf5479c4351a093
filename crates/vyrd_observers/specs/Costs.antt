-- What open observers will still cost, in steps.
use Rattle.std.specs.Prelude.{ℕ, ◌+◌, ◌*◌}
use Rattle.vyrd_observers.specs.Watching.{Watched, answer_count}

-- What is owed for the open observers: a step for each answer that one of them has, since its
-- return looks at it, and two for each answer that is kept, since one is dropped and where some
-- stay, no more than are dropped move up.
abbrev pub owed : Watched → ℕ
owed w = answer_count w.by_caller + 2 * w.kept
