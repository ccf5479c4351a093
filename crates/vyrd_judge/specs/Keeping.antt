-- How much is kept of a log, by the executions that are open at its end.
use Rattle.std.specs.Prelude.{ℕ, suc, Bool, false, ◌+◌, ◌&&◌, List, [], ◌∷◌, length, is_none}
use Rattle.std.specs.Prelude.{is_some, if◌then◌else◌}
use Rattle.std.specs.List.{sum_by}
use Rattle.vyrd_base.specs.declared.log.Entry.{Entry}
use Rattle.vyrd_base.specs.Commits.{is_commit, next_reply}
use Rattle.vyrd_base.specs.Places.{numbers_below}
use Rattle.vyrd_base.specs.Words.{effects_at}
use Rattle.vyrd_shadow.specs.Following.{ShadowKept, kept_writes}
use Rattle.vyrd_words.specs.Cuts.{Cuts}

-- whether an entry commits, and its execution doesn't return in the entries after it
abbrev pub is_left_open : Entry → List Entry → Bool
is_left_open e later = is_commit e.kind && is_none (next_reply e.caller later)

-- How many entries stand from the first commit on whose execution hasn't returned, that commit
-- among them: none, if each execution that has committed has returned too.
abbrev pub from_open_commit : List Entry → ℕ
from_open_commit [] = 0
from_open_commit (e ∷ later) =
    if is_left_open e later then suc (length later) else from_open_commit later

-- how many writes take effect at the entries from a place on
abbrev pub effects_in : List Entry → List Entry → ℕ
effects_in earlier [] = 0
effects_in earlier (e ∷ later) =
    length (effects_at earlier e.caller e.kind later) + effects_in (e ∷ earlier) later

-- whether there is a commit among these entries, and the execution of the first one has returned
abbrev pub next_has_returned : List Entry → Bool
next_has_returned [] = false
next_has_returned (e ∷ later) =
    if is_commit e.kind then is_some (next_reply e.caller later) else next_has_returned later

-- How many writes take effect behind the last commit that stands before the first one whose
-- execution hasn't returned. If all executions that have committed have returned, they are those
-- behind the last commit. Entries are passed over as long as the next commit has returned.
abbrev pub effects_left : List Entry → List Entry → ℕ
effects_left earlier [] = 0
effects_left earlier (e ∷ later) =
    if next_has_returned (e ∷ later)
    then effects_left (e ∷ earlier) later
    else effects_in earlier (e ∷ later)

-- how many writes these lists have
abbrev pub count_all : List (List (ℕ × ℕ)) → ℕ
count_all [] = 0
count_all (writes ∷ since) = length writes + count_all since

-- how many writes are kept for the commits that wait
abbrev pub writes_kept : Cuts → ℕ
writes_kept views = views.begun + count_all views.since

-- how many writes the open blocks keep
abbrev pub blocks_keep : ShadowKept → ℕ
blocks_keep shadow =
    sum_by (λ c. length (kept_writes shadow c)) (numbers_below shadow.header.callers)
