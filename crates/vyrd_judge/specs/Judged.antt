-- What is judged of a log so far, and what waits.
use Rattle.std.specs.Prelude.{◌≡◌, ◌≤◌, ◌+◌, ◌^◌, ℕ, true, false, List, ◌∷◌, ◌++◌, Some, None}
use Rattle.std.specs.Prelude.{[], length, slice_get, slice_set}
use Rattle.vyrd_base.specs.declared.log.Entry.{Entry}
use Rattle.vyrd_base.specs.declared.log.StartWord.{StartWord}
use Rattle.vyrd_base.specs.Places.{places_after, newest_first_onto, newest_first, first_answer}
use Rattle.vyrd_base.specs.Shape.{broken_rule}
use Rattle.vyrd_base.specs.Amounts.{first_difference}
use Rattle.vyrd_base.specs.States.{State}
use Rattle.vyrd_base.specs.Callers.{Called, has_inner_commit}
use Rattle.vyrd_base.specs.Words.{effects}
use Rattle.vyrd_base.specs.Faults.{step_fault}
use Rattle.vyrd_base.specs.declared.verdict.Verdict.TheVariants.{Violation}
use Rattle.vyrd_base.specs.Verdicts.{line_of, violation_at, first_fault, states_along}
use Rattle.vyrd_shadow.specs.Blocks.{with_writes}
use Rattle.vyrd_judge.specs.declared.outcome.Outcome.{Outcome}
use Rattle.vyrd_judge.specs.declared.outcome.Outcome.TheVariants.{Goes, Faults}
use Rattle.vyrd_judge.specs.declared.waiting.Waiting.{Waiting}
use Rattle.vyrd_words.specs.Cuts.{Cuts}
use Rattle.vyrd_words.specs.Effects.{effect_parts, HasParts, is_ended}
use Rattle.vyrd_observers.specs.Watching.{Seen, unwatched}
use Rattle.vyrd_judge.specs.Answers.{answers_of}
use Rattle.vyrd_judge.specs.Keeping.{is_left_open}
use Rattle.vyrd_judge.specs.Waiting.{waiting_after}
use Rattle.vyrd_judge.specs.Reached.{Reached}
use Rattle.vyrd_judge.specs.Shown.{ShowsFew}
use Rattle.vyrd_observers.specs.Watching.{AreCurrent, AllSee}
use Rattle.vyrd_base.specs.Rules.{Rules}

-- each commit before a place has a return after it
abbrev pub AllReturned : List Entry → List Entry → Type 0
AllReturned [] later = Unit {0}
AllReturned (e ∷ earlier) later =
    (is_left_open e later ≡ false) × AllReturned earlier (e ∷ later)

-- no caller has seen more answers than its open observer has at a place
abbrev pub AreSeenFew : List Entry → List Seen → Type 0
AreSeenFew earlier watches = (c : ℕ) (seen : Seen) → slice_get watches c ≡ Some seen
    → length seen.answers ≤ answers_of c earlier

-- All entries before some place are judged, and none of them is a fault; those from it on that are
-- judged wait, and so do the words at its commits. This stands however the log goes on: a commit
-- that is judged has returned, and so its block has ended and its effects are known. The state is
-- that at the place, after `made` steps.
pub record Judged (r : Rules) (starting : List StartWord) (log : List Entry) (state : State)
    (made : ℕ) (watches : List Seen) (queue : List Waiting) (first : List ℕ)
    (since : List (List (ℕ × ℕ))) : Type 0 where
  pub earlier : List Entry
  pub later : List Entry
  pub whole : newest_first_onto earlier later ≡ newest_first log
  pub kept : first_answer (λ place. broken_rule r.header place.earlier place.here)
      (places_after earlier later)
      ≡ None
  pub queued : queue ≡ waiting_after earlier later
  pub parts : HasParts r.header starting first since
      (effect_parts (effects earlier later) earlier later)
  pub settled : (more : List Entry) → effects earlier (later ++ more) ≡ effects earlier later
  pub ended : (c : ℕ) → has_inner_commit c earlier ≡ true → is_ended c later ≡ true
  pub reached : (more : List Entry)
      → Reached r (states_along r starting (log ++ more)) earlier (later ++ more) state watches
  pub clean : (more : List Entry)
      → first_fault r starting (log ++ more)
      ≡ first_answer (violation_at r starting (states_along r starting (log ++ more)))
      (places_after earlier (later ++ more))
  pub few : made ≤ length earlier
  pub current : AreCurrent (r.answer state) watches
  pub returned : AllReturned earlier later
  pub seen_few : AreSeenFew earlier watches
  pub shows : ShowsFew r starting state

-- What the entry that waits first leads to: it is judged and no fault; or it is this fault, the
-- first of the log.
abbrev pub HeadGives : Rules → List StartWord → List Entry → State → ℕ → List Seen → Waiting
    → List Waiting → List ℕ → List (List (ℕ × ℕ)) → Outcome → Type 0
HeadGives r starting log state made watches x xs first since Goes =
    Judged r starting log state made watches xs first since
HeadGives r starting log state made watches x xs first since (Faults why) =
    first_fault r starting log ≡ Some (Violation (line_of starting x.position) why)

-- the entry waits first in some log
abbrev pub MayJudge : Rules → State → ℕ → List Seen → Waiting → List ℕ → List (List (ℕ × ℕ))
    → Type 0
MayJudge r state made watches x first since =
    ∥ ((starting : List StartWord) × (log : List Entry) × (xs : List Waiting)
    × Judged r starting log state made watches (x ∷ xs) first since × (length log ≤ 2 ^ 62)) ∥₁

-- A commit that is right: its reply is allowed, its view is the state after it, all but its caller
-- that are watched have seen that state, and the words go on to the next commit that waits.
pub record CommitRight (r : Rules) (first : List ℕ) (part : List (ℕ × ℕ))
    (rest : List (List (ℕ × ℕ))) (caller : ℕ) (called : Called) (reply : ℕ) (before : State)
    (made : ℕ) (old : List Seen) (after : State) (more : ℕ) (new : List Seen)
    (next_first : List ℕ) (next_since : List (List (ℕ × ℕ))) : Type 0 where
  pub next : r.next called.method called.args reply before ≡ Some after
  pub same : first_difference (r.view first) (r.shown after) ≡ None
  pub count : more ≤ made + 1
  pub seen : AllSee (r.answer after) (slice_set old caller unwatched) new
  pub len : length new ≡ length (slice_set old caller unwatched)
  pub current : AreCurrent (r.answer after) new
  pub words : next_first ≡ with_writes first part
  pub since : next_since ≡ rest

-- what a commit leads to, if these are the words there
abbrev pub CommitLeads : Rules → List ℕ → List (ℕ × ℕ) → List (List (ℕ × ℕ)) → ℕ → Called → ℕ
    → State → ℕ → List Seen → State → ℕ → List Seen → List ℕ → List (List (ℕ × ℕ)) → Outcome
    → Type 0
CommitLeads r first part rest caller called reply before made old after more new next_first
    next_since Goes =
    CommitRight r first part rest caller called reply before made old after more new next_first
    next_since
CommitLeads r first part rest caller called reply before made old after more new next_first
    next_since (Faults why) =
    step_fault r (r.view first) called reply before ≡ Some why

-- unless there was a fault, the views know the state that was compared last
abbrev pub KnowsState : Rules → Cuts → State → Outcome → Type 0
KnowsState r views state Goes = (views.specified ≡ r.shown state) × (views.refused ≡ false)
KnowsState r views state (Faults why) = Unit {0}
