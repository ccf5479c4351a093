-- How many answers the open observers of a log have, each its own.
use Rattle.std.specs.Prelude.{ℕ, suc, Bool, false, not, ◌-◌, ◌&&◌, List, [], ◌∷◌, if◌then◌else◌}
use Rattle.std.specs.List.{sum_by}
use Rattle.std.specs.Option.{option_map_or}
use Rattle.vyrd_base.specs.declared.log.Entry.{Entry}
use Rattle.vyrd_base.specs.Callers.{open_call, has_committed, entries_before_call}
use Rattle.vyrd_base.specs.Commits.{commit_count}
use Rattle.vyrd_base.specs.Places.{numbers_below}
use Rattle.vyrd_base.specs.Subjects.{must_commit}
use Rattle.vyrd_judge.specs.Keeping.{is_left_open}

-- whether a caller has an open execution that may still return without a commit
abbrev pub is_observing : ℕ → List Entry → Bool
is_observing c earlier =
    option_map_or (λ called. not (must_commit called.method)) (open_call c earlier) false
    && not (has_committed c earlier)

-- how many answers such an execution has: that of the state at its call, and one more for each
-- commit since
abbrev pub answers_of : ℕ → List Entry → ℕ
answers_of c earlier =
    if is_observing c earlier
    then suc (commit_count earlier - commit_count (entries_before_call c earlier))
    else 0

-- The entries before the first commit whose execution hasn't returned, the newest first: all, if
-- each execution that has committed has returned too.
abbrev pub before_open_commit : List Entry → List Entry → List Entry
before_open_commit earlier [] = earlier
before_open_commit earlier (e ∷ later) =
    if is_left_open e later then earlier else before_open_commit (e ∷ earlier) later

-- how many answers all callers have there
abbrev pub answers_left : ℕ → List Entry → ℕ
answers_left callers log =
    sum_by (λ c. answers_of c (before_open_commit [] log)) (numbers_below callers)
