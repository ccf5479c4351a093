-- What is kept of a caller's open observer.
use Rattle.std.specs.Prelude.{◌≡◌, ◌≤◌, ◌*◌, ℕ, zero, suc, Bool, true, false, Some, ◌||◌, ◌==◌}
use Rattle.std.specs.Prelude.{List, []}
use Rattle.std.specs.Prelude.{length, slice_get, count_by, sum_by}
use Rattle.std.specs.List.{list_any}
use Rattle.vyrd_base.specs.declared.header.Header.{Header}
use Rattle.vyrd_base.specs.declared.subject.Method.{Method}
use Rattle.vyrd_base.specs.declared.subject.Args.{Args}
use Rattle.vyrd_base.specs.Subjects.{some_method}

-- whether an observer is open, what was called, and what the states since its call answer
pub record Seen : Type 0 where
  pub is_open : Bool
  pub method : Method
  pub args : Args
  pub answers : List ℕ

-- what is kept of a caller that has no open observer
abbrev pub unwatched : Seen
unwatched = record {
  is_open = false;
  method = some_method;
  args = record { a = 0; b = 0; c = 0 };
  answers = [];
}

-- What is kept of each caller, and the header whose methods its observers call. Observers that ask
-- the same share a trail of answers: how many trails there are, how many of them are asked, and how
-- many answers they keep in all.
pub record Watched : Type 0 where
  pub header : Header
  pub by_caller : List Seen
  pub trails : ℕ
  pub asked : ℕ
  pub kept : ℕ

-- how many callers have an open observer
abbrev pub open_count : List Seen → ℕ
open_count watches = count_by (λ seen. seen.is_open) watches

-- how many answers the open observers have, each its own
abbrev pub answer_count : List Seen → ℕ
answer_count watches = sum_by (λ seen. length seen.answers) watches

-- Trails are kept for open observers alone. There are no more than callers, no more are asked than
-- there are open observers, and what they keep is at most twice what these observers have. So they
-- keep nothing where no observer is open.
pub record KeepsFew (w : Watched) : Type 0 where
  pub few : w.trails ≤ w.header.callers
  pub asked : w.asked ≤ open_count w.by_caller
  pub kept : w.kept ≤ 2 * answer_count w.by_caller

-- whether one of the answers is this
abbrev pub has_answer : List ℕ → ℕ → Bool
has_answer answers reply = list_any (λ x. x == reply) answers

-- the same observer, with one more answer
pub record SeesAnswer (answer : ℕ) (old new : Seen) : Type 0 where
  pub is_open : new.is_open ≡ old.is_open
  pub method : new.method ≡ old.method
  pub args : new.args ≡ old.args
  pub answers : (reply : ℕ)
      → has_answer new.answers reply ≡ (has_answer old.answers reply || answer == reply)

-- one more answer of an observer that has so many, since an open one has at least one: none of a
-- caller that has none
abbrev pub one_more : ℕ → ℕ
one_more zero = 0
one_more (suc n) = suc (suc n)

-- the same watch, which has seen this state too if it is open, and has at most one answer more
pub record SeesState (told : Method → Args → ℕ) (old new : Seen) : Type 0 where
  pub is_open : new.is_open ≡ old.is_open
  pub method : new.method ≡ old.method
  pub args : new.args ≡ old.args
  pub answers : old.is_open ≡ true → SeesAnswer (told old.method old.args) old new
  pub few : length new.answers ≤ one_more (length old.answers)

-- every open watch knows the state's answer
abbrev pub AreCurrent : (Method → Args → ℕ) → List Seen → Type 0
AreCurrent told watches =
    (c : ℕ) (seen : Seen) → slice_get watches c ≡ Some seen → seen.is_open ≡ true
    → has_answer seen.answers (told seen.method seen.args) ≡ true

-- each watch has seen the state
abbrev pub AllSee : (Method → Args → ℕ) → List Seen → List Seen → Type 0
AllSee told old new = (c : ℕ) (seen : Seen) → slice_get old c ≡ Some seen
    → (next : Seen) × (slice_get new c ≡ Some next) × SeesState told seen next
