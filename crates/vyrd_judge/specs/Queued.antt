-- The queue of the entries that wait, and how a return finds its commit there.
use Rattle.std.specs.Prelude.{◌≡◌, ◌<◌, ◌≤◌, ◌+◌, ◌-◌, ℕ, true, false, List, ◌∷◌, ◌++◌, [], map}
use Rattle.std.specs.Prelude.{length, Some, None, slice_get}
use Rattle.std.specs.List.{cons_option}
use Rattle.vyrd_base.specs.declared.header.Header.{Header}
use Rattle.vyrd_base.specs.declared.subject.Method.{Method}
use Rattle.vyrd_base.specs.declared.subject.Args.{Args}
use Rattle.vyrd_base.specs.declared.log.Entry.{Entry}
use Rattle.vyrd_base.specs.Callers.{Called, open_call, has_committed}
use Rattle.vyrd_judge.specs.declared.caller.Caller.{Caller}
use Rattle.vyrd_judge.specs.declared.waiting.Event.TheVariants.{Commits}
use Rattle.vyrd_judge.specs.declared.waiting.Waiting.{Waiting}
use Rattle.vyrd_words.specs.HasWords.{Keeps}
use Rattle.vyrd_base.specs.Entries.{place_of}
use Rattle.vyrd_judge.specs.Waiting.{waiting_at, replied}

-- what a caller has called is known
pub record IsCaller (callers : List Caller) (c : ℕ) (called : Called) : Type 0 where
  pub caller : Caller
  pub here : slice_get callers c ≡ Some caller
  pub method : caller.method ≡ called.method
  pub args : caller.args ≡ called.args

-- its commit waits without a reply, in the place that its number says, counted from 1
pub record IsPending (waiting : List Waiting) (taken : ℕ) (c : ℕ) (called : Called)
    (caller : Caller) : Type 0 where
  pub commit : Waiting
  pub since : taken < caller.commit
  pub here : slice_get waiting (caller.commit - 1 - taken) ≡ Some commit
  pub caller_is : commit.caller ≡ c
  pub event : commit.event ≡ Commits called.method called.args None

-- a commit that waits without a reply is the open execution's of its caller, and has its number
pub record IsUnreturned (callers : List Caller) (taken : ℕ) (earlier : List Entry) (i : ℕ)
    (commit : Waiting) (called : Called) : Type 0 where
  pub opened : open_call commit.caller earlier ≡ Some called
  pub committed : has_committed commit.caller earlier ≡ true
  pub number : (caller : Caller) → slice_get callers commit.caller ≡ Some caller
      → caller.commit ≡ taken + i + 1

-- What is kept of callers and their commits stands for these entries, given the newest first.
-- `taken` of them no longer wait.
pub record HasQueued (h : Header) (waiting : List Waiting) (taken : ℕ) (callers : List Caller)
    (earlier : List Entry) : Type 0 where
  pub called : (c : ℕ) (k : Called) → c < h.callers → open_call c earlier ≡ Some k
      → IsCaller callers c k
  pub pending : (c : ℕ) (k : Called) (caller : Caller) → c < h.callers
      → open_call c earlier ≡ Some k → has_committed c earlier ≡ true
      → slice_get callers c ≡ Some caller
      → IsPending waiting taken c k caller
  pub uncommitted : (c : ℕ) (k : Called) (caller : Caller) → c < h.callers
      → open_call c earlier ≡ Some k → has_committed c earlier ≡ false
      → slice_get callers c ≡ Some caller
      → caller.commit ≡ 0
  pub unreturned : (i : ℕ) (commit : Waiting) (k : Called) → slice_get waiting i ≡ Some commit
      → commit.event ≡ Commits k.method k.args None → IsUnreturned callers taken earlier i commit k
  pub count : taken + length waiting ≤ length earlier

-- an entry at a position keeps the rules after some entries for which what is kept stands
abbrev pub MayQueue : Header → List Waiting → ℕ → List Caller → Entry → ℕ → Type 0
MayQueue h waiting taken callers e position =
    ∥ ((earlier : List Entry) × HasQueued h waiting taken callers earlier × Keeps h earlier e
    × (position ≡ length earlier)) ∥₁

-- the entry was taken in: what is kept stands for the entries with it, and what waits has gone on
pub record HasTakenUp (h : Header) (old new : List Waiting) (taken : ℕ) (callers : List Caller)
    (e : Entry) (earlier : List Entry) : Type 0 where
  pub queued : HasQueued h new taken callers (e ∷ earlier)
  pub waiting : new ≡ map (replied e) old ++ cons_option (waiting_at (place_of e earlier [])) []

-- the entry isn't a commit that hasn't returned
abbrev pub CanLeave : Waiting → Type 0
CanLeave x = (method : Method) (args : Args) → x.event ≡ Commits method args None → ⊥

-- Nothing that waits can be judged: the first, if there is one, is a commit that hasn't returned.
abbrev pub AwaitsReturn : List Waiting → Type 0
AwaitsReturn [] = Unit {0}
AwaitsReturn (x ∷ xs) = (method : Method) × (args : Args) × (x.event ≡ Commits method args None)
