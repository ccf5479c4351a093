-- What open observers ask, and how they share what the states since their calls answer.
use Rattle.std.specs.Prelude.{◌≡◌, ◌≢◌, ◌≤◌, ◌+◌, ◌-◌, ◌*◌, ◌⊎◌, ℕ, Bool, true, false, cond, ◌&&◌}
use Rattle.std.specs.Prelude.{◌==◌, List, [], ◌∷◌, ◌++◌, length, drop, Option, Some, None}
use Rattle.std.specs.Prelude.{slice_get, count_by, sum_by}
use Rattle.vyrd_base.specs.declared.header.Header.{Header}
use Rattle.vyrd_base.specs.declared.subject.Method.{Method}
use Rattle.vyrd_base.specs.declared.subject.Args.{Args}
use Rattle.vyrd_base.specs.Subjects.{must_commit}
use Rattle.vyrd_observers.specs.declared.watch.Watch.{Watch}
use Rattle.vyrd_base.specs.Entries.{has_method}
use Rattle.vyrd_observers.specs.Watching.{Seen, unwatched}

-- whether some open observer may ask it, how many do, what was called, and what the states since
-- then answer: the last of them, and others before it
pub record Asked : Type 0 where
  pub is_asked : Bool
  pub askers : ℕ
  pub method : Method
  pub args : Args
  pub latest : ℕ
  pub others : List ℕ

-- the same, after one more state that answers this
abbrev pub with_answer : ℕ → Asked → Asked
with_answer answer t =
    cond (answer == t.latest) t (record t { latest = answer; others = t.others ++ t.latest ∷ [] })

-- the same, after a state that answers what it is told to, and where answers that aren't affected
-- are those of the state before
abbrev pub after_state : (Method → Args → Bool) → (Method → Args → ℕ) → Asked → Asked
after_state affects told t = cond (t.is_asked && affects t.method t.args)
    (with_answer (told t.method t.args) t) t

-- the same, once one more observer asks it
abbrev pub with_asker : Asked → Asked
with_asker t = record t { askers = t.askers + 1 }

-- The same, once an observer that asked it has returned. It is free if that was the only one.
abbrev pub without_asker : Asked → Asked
without_asker t = cond (t.askers == 1)
    (record t { is_asked = false; askers = t.askers - 1; others = [] })
    (record t { askers = t.askers - 1 })

-- what an observer has seen for which the answers count from this one on
abbrev pub seen_from : ℕ → Option Asked → Seen
seen_from since None = unwatched
seen_from since (Some t) = record {
  is_open = true;
  method = t.method;
  args = t.args;
  answers = t.latest ∷ drop since t.others;
}

abbrev pub seen_by : List Asked → Option Watch → Seen
seen_by trails None = unwatched
seen_by trails (Some w) = seen_from w.since (slice_get trails w.trail)

-- an open observer has a trail that is asked, and counts its answers from one of them on
pub record IsOn (trails : List Asked) (w : Watch) : Type 0 where
  pub asked : Asked
  pub there : slice_get trails w.trail ≡ Some asked
  pub is_asked : asked.is_asked ≡ true
  pub within : w.since ≤ length asked.others

abbrev pub AreOn : List Asked → List (Option Watch) → Type 0
AreOn trails watches = (c : ℕ) (w : Watch) → slice_get watches c ≡ Some (Some w) → IsOn trails w

-- what is asked is a method of the header's specification that may return without a commit
abbrev pub AreAsking : Header → List Asked → Type 0
AreAsking h trails = (i : ℕ) (t : Asked) → slice_get trails i ≡ Some t → t.is_asked ≡ true
    → (has_method h t.method t.args ≡ true) × (must_commit t.method ≡ false)

-- a trail is asked, it is that of this question, and its latest answer is this
abbrev pub IsTrailOf : Method → Args → ℕ → Asked → Type 0
IsTrailOf method args answer t =
    (t.is_asked ≡ true) × (t.method ≡ method) × (t.args ≡ args) × (t.latest ≡ answer)

-- what is asked stays as it is
abbrev pub KeepsAsked : List Asked → List Asked → Type 0
KeepsAsked old new =
    (i : ℕ) (t : Asked) → slice_get old i ≡ Some t → t.is_asked ≡ true → slice_get new i ≡ Some t

-- how many trails are asked
abbrev pub asked_count : List Asked → ℕ
asked_count trails = count_by (λ t. t.is_asked) trails

-- how many answers a trail keeps: those before the latest, and the latest if it is asked
abbrev pub kept_by : Asked → ℕ
kept_by t = length t.others + cond t.is_asked 1 0

-- how many answers all trails keep
abbrev pub kept_count : List Asked → ℕ
kept_count trails = sum_by kept_by trails

-- The trail at a place keeps nothing if it isn't asked. If it is, some open observer is on it, and
-- at least half of the answers before the latest one count for that observer.
pub record IsUsed (t : Asked) (trail : ℕ) (watches : List (Option Watch)) : Type 0 where
  pub nothing : t.is_asked ≡ false → t.others ≡ []
  pub by : t.is_asked ≡ true
      → (c : ℕ) × (w : Watch) × (slice_get watches c ≡ Some (Some w)) × (w.trail ≡ trail)
      × (2 * w.since ≤ length t.others)

-- all trails are used
abbrev pub AreUsed : List Asked → List (Option Watch) → Type 0
AreUsed trails watches =
    (i : ℕ) (t : Asked) → slice_get trails i ≡ Some t → IsUsed t i watches

-- all trails except this one are used
abbrev pub OthersAreUsed : List Asked → List (Option Watch) → ℕ → Type 0
OthersAreUsed trails watches trail =
    (i : ℕ) (t : Asked) → slice_get trails i ≡ Some t → i ≢ trail → IsUsed t i watches

-- if it is still asked, it is the same question, and its latest answer is the same
abbrev pub StaysOrEnds : Asked → Asked → Type 0
StaysOrEnds old new =
    new.is_asked ≡ true
    → (old.is_asked ≡ true) × (new.method ≡ old.method) × (new.args ≡ old.args)
    × (new.latest ≡ old.latest)

-- so is each trail
abbrev pub StayOrEnd : List Asked → List Asked → Type 0
StayOrEnd old new =
    (i : ℕ) (t : Asked) → slice_get old i ≡ Some t
    → (u : Asked) × (slice_get new i ≡ Some u) × StaysOrEnds t u

-- each trail was there before, or it is this one
abbrev pub AreOldExcept : List Asked → List Asked → ℕ → Type 0
AreOldExcept old new trail =
    (i : ℕ) (t : Asked) → slice_get new i ≡ Some t → (slice_get old i ≡ Some t) ⊎ (i ≡ trail)

-- an observer that counts the answers of a trail, once the first n of them are dropped
abbrev pub moved : ℕ → ℕ → Option Watch → Option Watch
moved trail n None = None
moved trail n (Some w) =
    Some (cond (w.trail == trail) (record { trail = w.trail; since = w.since - n }) w)
