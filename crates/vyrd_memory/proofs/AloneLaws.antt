-- What is said of a script that is played alone: how it ends, and locks that are taken and given
-- back.
use Rattle.vyrd_memory.proofs.Prelude.{◌≡◌, ◌≢◌, ℕ, ◌+◌, Bool, true, false, not, Option, Some, None}
use Rattle.vyrd_memory.proofs.Prelude.{refl, ap, ◌∙◌, sym, subst, ◌==◌, IsSome, Header, is_observer}
use Rattle.vyrd_memory.proofs.Prelude.{Amounts, amount_of, is_present, same_of, apart_of, isnt_same}
use Rattle.vyrd_memory.proofs.Prelude.{Take, Op, Script, perform}
use Rattle.vyrd_memory.specs.Alone.{Memory, with_cell, Outcome, alone, state_after}
use Rattle.vyrd_memory.specs.Alone.{MeetsSpecification, GivesUpWhere}
use Rattle.vyrd_memory.proofs.Memories.{Represents, represented, changed_cell, other_cell}

-- there is an outcome, and this holds of its reply and its memory
abbrev pub EndsSo : Option Outcome → (ℕ → Memory → Type 0) → Type 0
EndsSo None says = ⊥
EndsSo (Some outcome) says = says outcome.reply outcome.memory

pub ended_with : (o : Option Outcome) (says : ℕ → Memory → Type 0) → EndsSo o says
    → (outcome : Outcome) × (o ≡ Some outcome) × says outcome.reply outcome.memory
ended_with None says e = absurd e
ended_with (Some outcome) says e = (outcome, refl, e)

-- an operation that ends so, if the specification allows it
pub met : (h : Header) (op : Op) (script : Script) (c : ℕ) (old new : Memory) (state next : Amounts)
    (reply : ℕ)
    → alone c script old ≡ Some (record { reply = reply; memory = new }) → Represents h new next
    → state_after (is_observer op.method) op reply state ≡ Some next
    → MeetsSpecification h op script c old state
met h op script c old new state next reply ends is allowed = record {
  outcome = record { reply = reply; memory = new };
  ends = ends;
  after = represented h new next is ∙ sym allowed;
  goes_on = subst (λ (o : Option Amounts). IsSome o) (sym (represented h new next is)) refl;
}

-- what the specification says of a key that is there, and of one that isn't
pub is_there : (s : Amounts) (x : ℕ) → amount_of s x ≢ 0 → is_present s x ≡ true
is_there s x some = ap not (isnt_same (amount_of s x) 0 some)

pub isnt_there : (s : Amounts) (x : ℕ) → amount_of s x ≡ 0 → is_present s x ≡ false
isnt_there s x none = ap (λ n. not (n == 0)) none

-- an operation that ends so gives up where this says that its reply is 0
pub gives_up : (P : Type 0) (says : ℕ → Memory → Type 0) (o : Option Outcome) → EndsSo o says
    → ((reply : ℕ) (after : Memory) → says reply after → (reply ≡ 0 → P) × (P → reply ≡ 0))
    → GivesUpWhere P o
gives_up P says None e where_zero = absurd e
gives_up P says (Some outcome) e where_zero = let both = where_zero _ _ e in (both.0, both.1)

-- a free lock is taken
pub take_played : (c lock : ℕ) (later : Script) (memory : Memory) (Q : Option Outcome → Type 0)
    → memory lock ≡ 0
    → Q (alone c later (with_cell memory lock (c + 1)))
    → Q (alone c (perform (Take lock) later) memory)
take_played c lock later memory Q free e =
    rw (ap (λ n. n == 0) free) e

-- a lock that was free is given back: the cell is as it was
pub given_back : (before during : Memory) (lock cell : ℕ) → before lock ≡ 0
    → (cell ≢ lock → during cell ≡ before cell)
    → with_cell during lock 0 cell ≡ before cell
given_back before during lock cell free same = by_place (cell == lock) refl
  where
    by_place : (b : Bool) → (cell == lock) ≡ b → with_cell during lock 0 cell ≡ before cell
    by_place true e = cc (same_of cell lock e, changed_cell during lock 0)
    by_place false e = let apart = apart_of _ _ e in other_cell during _ 0 cell apart ∙ same apart
