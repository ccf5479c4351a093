-- What is called in the execution of the entry at a place, and what its commit does to the state.
use Rattle.vyrd_states.proofs.Prelude
use Prelude.{◌≡◌, ℕ, ◌+◌, Bool, true, false, cond, List, [], ◌∷◌, length, take, drop, Option, Some}
use Prelude.{None, slice_get, refl, ap, subst, ◌∙◌, sym, ◌==◌, option_and_then, option_or, Header}
use Prelude.{Entry, Called, entries_before_call, place_of, newest_first, first_answer, Rules, State}
use Prelude.{Execution, execution_in, called_by, state_by, state_past}
use Rattle.std.specs.Prelude.{option_map}
use Rattle.std.specs.Option.{option_flatten}
use Rattle.std.proofs.lemmas.List.{take-append-drop}
use Rattle.std.proofs.lemmas.Option.{same_Some}
use Rattle.vyrd_base.specs.declared.log.Kind.{Kind}
use Rattle.vyrd_base.specs.declared.log.Kind.TheVariants.{Call, Return, Write, Commit, BlockOpen}
use Rattle.vyrd_base.specs.declared.log.Kind.TheVariants.{BlockClose, BlockCommit}
use Rattle.vyrd_base.specs.Callers.{open_call, by_caller, call_or_return}
use Rattle.vyrd_base.specs.Commits.{next_reply, returned, committed_at, state_after}
use Rattle.vyrd_base.specs.Entries.{has_method}
use Rattle.vyrd_base.specs.Front.{first_break, WellFormed}
use Rattle.vyrd_base.specs.Shape.{broken_rule}
use Rattle.vyrd_base.specs.Subjects.{is_observer}
use Rattle.vyrd_base.proofs.BlockLaws.{entry, by_same, own_answer}
use Rattle.vyrd_base.proofs.CommitLaws.{Commits, alone, with_block, commits_is, commits_unreturned}
use Rattle.vyrd_base.proofs.KeptLaws.{call_kept, commit_kept, block_commit_runs, rules_at}
use Rattle.vyrd_base.proofs.ListLaws.{both_none}
use Rattle.vyrd_base.proofs.ShadowLaws.{well_formed-first_break}
use Rattle.vyrd_base.proofs.StateLaws.{open_call-other, next_reply-quiet}
use Rattle.vyrd_base.proofs.VerdictLaws.{first_break-append}
use Rattle.vyrd_witness.specs.declared.execution.Returned.{Returned}
use Rattle.vyrd_witness.specs.Executions.{next_return}
use Rattle.vyrd_states.proofs.KnownLaws.{later_is}

-- an entry of the caller calls what may be called, or goes on with what may be
still_allowed : (h : Header) (c : ℕ) (kind : Kind) (earlier : List Entry) (called : Called)
    → (open_call c earlier ≡ Some called → has_method h called.method called.args ≡ true)
    → broken_rule h earlier (entry c kind) ≡ None → open_call c (entry c kind ∷ earlier)
    ≡ Some called
    → has_method h called.method called.args ≡ true
still_allowed h c kind earlier called before kept is =
    by_kind kind kept (sym (ap option_flatten (own_answer c call_or_return kind earlier)) ∙ is)
  where
    by_kind : (k : Kind) → broken_rule h earlier (entry c k) ≡ None
        → option_flatten (option_or (call_or_return k)
        (first_answer (by_caller c call_or_return) earlier)) ≡ Some called
        → has_method h called.method called.args ≡ true
    by_kind (Call method args) keeps it = cc (call_kept h c method args earlier keeps)
    by_kind (Return reply) keeps it = cc
    by_kind (Write word value) keeps it = before it
    by_kind Commit keeps it = before it
    by_kind BlockOpen keeps it = before it
    by_kind BlockClose keeps it = before it
    by_kind BlockCommit keeps it = before it

-- what is called in an open execution may be called
open_allowed : (h : Header) (c : ℕ) (earlier : List Entry) (called : Called) → WellFormed h earlier
    → open_call c earlier ≡ Some called → has_method h called.method called.args ≡ true
open_allowed h c [] called wf is = cc
open_allowed h c (e ∷ earlier) called wf is = by_same e.caller c
    (λ same. still_allowed h c e.kind earlier called (open_allowed h c earlier called wf.1)
    (subst (λ d. broken_rule h earlier (entry d e.kind) ≡ None) same wf.0)
    (subst (λ d. open_call c (entry d e.kind ∷ earlier) ≡ Some called) same is))
    (λ other. open_allowed h c earlier called wf.1
    (sym (open_call-other c e.caller e.kind earlier other) ∙ is))

-- a beginning of a log that keeps all rules keeps them
kept_before : (h : Header) (front : List Entry) (n : ℕ) → first_break h front ≡ None
    → first_break h (take n front) ≡ None
kept_before h front n kept =
    (both_none _ _ (sym (first_break-append h (take n front) (drop n front))
    ∙ ap (first_break h) (take-append-drop n front) ∙ kept)).0

-- the execution is that of the open call
execution_none : (front : List Entry) (at c : ℕ)
    → open_call c (newest_first (take at front)) ≡ None → execution_in front at c ≡ None
execution_none front at c none = rw none refl

abbrev pub execution_of_call : List Entry → ℕ → ℕ → Called → Execution
execution_of_call front at c called = record {
  caller = c;
  called_at = length (entries_before_call c (newest_first (take at front)));
  method = called.method;
  args = called.args;
  returned = next_return c at (drop at front);
}

pub execution_some : (front : List Entry) (at c : ℕ) (called : Called)
    → open_call c (newest_first (take at front)) ≡ Some called
    → execution_in front at c ≡ Some (execution_of_call front at c called)
execution_some front at c called some = rw some refl

-- what an execution is of
pub execution_is : (front : List Entry) (at c : ℕ) (x : Execution)
    → execution_in front at c ≡ Some x
    → (open_call c (newest_first (take at front)) ≡ Some (called_by x))
    × (x ≡ execution_of_call front at c (called_by x))
execution_is front at c x is = by_call (open_call c (newest_first (take at front))) refl
  where
    by_call : (o : Option Called) → open_call c (newest_first (take at front)) ≡ o
        → (open_call c (newest_first (take at front)) ≡ Some (called_by x))
        × (x ≡ execution_of_call front at c (called_by x))
    by_call None none = let nothing = execution_none front at c none in cc
    by_call (Some called) some =
        let same : execution_of_call front at c called ≡ x = same_Some _ _
        (sym (execution_some front at c called some) ∙ is) in (cc, cc)

-- and it is none if there is no call
pub no_execution : (front : List Entry) (at c : ℕ) → execution_in front at c ≡ None
    → open_call c (newest_first (take at front)) ≡ None
no_execution front at c is = by_call (open_call c (newest_first (take at front))) refl
  where
    by_call : (o : Option Called) → open_call c (newest_first (take at front)) ≡ o
        → open_call c (newest_first (take at front)) ≡ None
    by_call None none = none
    by_call (Some called) some = let something = execution_some front at c called some in cc

-- what it has called may be called
pub execution_allowed : (h : Header) (front : List Entry) (at c : ℕ) (x : Execution)
    → first_break h front ≡ None → execution_in front at c ≡ Some x
    → has_method h x.method x.args ≡ true
execution_allowed h front at c x kept is =
    open_allowed h c (newest_first (take at front)) (called_by x)
    (well_formed-first_break h (take at front) (kept_before h front at kept))
    (execution_is front at c x is).0

-- a commit stands in a mutator's execution
commit_runs : (h : Header) (c : ℕ) (kind : Kind) (earlier : List Entry) → Commits kind
    → broken_rule h earlier (entry c kind) ≡ None
    → (called : Called) × (open_call c earlier ≡ Some called)
    × (is_observer called.method ≡ false)
commit_runs h c _ earlier alone kept = commit_kept h c earlier kept
commit_runs h c _ earlier with_block kept = block_commit_runs h c earlier kept

pub execution_mutates : (h : Header) (front : List Entry) (at : ℕ) (e : Entry) (x : Execution)
    → slice_get front at ≡ Some e → Commits e.kind → first_break h front ≡ None
    → execution_in front at e.caller ≡ Some x → is_observer x.method ≡ false
execution_mutates h front at e x here commits kept is =
    let runs = commit_runs h e.caller e.kind (newest_first (take at front)) commits
    (rules_at h front at e here kept) in
    let same : runs.0 ≡ called_by x =
    same_Some _ _ (sym runs.1 ∙ (execution_is front at e.caller x is).0) in
    ap (λ y. is_observer y.method) (sym same) ∙ runs.2

-- the reply of the next return

next_return-reply : (c at : ℕ) (later : List Entry)
    → option_map (λ back. back.reply) (next_return c at later) ≡ next_reply c later
next_return-reply c at [] = refl
next_return-reply c at (e ∷ later) = by_entry (e.caller == c) (returned _) (next_return c _ _)
    (next_reply c _) (next_return-reply c (at + 1) later)
  where
    by_entry : (b : Bool) (o : Option ℕ) (p : Option Returned) (q : Option ℕ)
        → option_map (λ back. back.reply) p ≡ q
        → option_map (λ back. back.reply)
        (option_or (cond b (option_map (λ reply. record { at = at; reply = reply }) o) None) p)
        ≡ option_or (cond b o None) q
    by_entry true None p q same = same
    by_entry true (Some reply) p q same = refl
    by_entry false o p q same = same

-- a commit by the execution that is looked up
commit_by : (r : Rules) (front : List Entry) (at c : ℕ) (kind : Kind) (s : State) → Commits kind
    → slice_get front at ≡ Some (entry c kind)
    → state_after r s (committed_at (place_of (entry c kind) (newest_first (take at front))
    (drop (at + 1) front)))
    ≡ option_and_then (λ x. state_by r x s) (execution_in front at c)
commit_by r front at c kind s commits here =
    by_call (open_call c (newest_first (take at front))) refl
  where
    later : List Entry
    later = drop (at + 1) front

    replies : next_reply c later
        ≡ option_map (λ back. back.reply) (next_return c at (drop at front))
    replies =
        sym (next_reply-quiet c c kind later (commits_unreturned kind commits))
        ∙ ap (next_reply c) (sym (later_is front at (entry c kind) here))
        ∙ sym (next_return-reply c at (drop at front))

    by_return : {A : Type 0} (f : ℕ → Option A) (p : Option Returned)
        → option_and_then f (option_map (λ back. back.reply) p)
        ≡ option_and_then (λ back. f back.reply) p
    by_return f None = refl
    by_return f (Some back) = refl

    by_call : (o : Option Called) → open_call c (newest_first (take at front)) ≡ o
        → option_and_then (λ called. option_and_then
        (λ reply. r.next called.method called.args reply s) (next_reply c later))
        (open_call c (newest_first (take at front)))
        ≡ option_and_then (λ x. state_by r x s) (execution_in front at c)
    by_call None none =
        ap (option_and_then (λ called. option_and_then
        (λ reply. r.next called.method called.args reply s) (next_reply c later))) none
        ∙ sym (ap (option_and_then (λ x. state_by r x s)) (execution_none front at c none))
    by_call (Some called) some =
        ap (option_and_then (λ called. option_and_then
        (λ reply. r.next called.method called.args reply s) (next_reply c later))) some
        ∙ ap (option_and_then (λ reply. r.next called.method called.args reply s)) replies
        ∙ by_return (λ reply. r.next called.method called.args reply s)
        (next_return c at (drop at front))
        ∙ sym (ap (option_and_then (λ x. state_by r x s)) (execution_some front at c called some))

-- the state past a commit, and past any other entry
pub state_past-commit : (r : Rules) (front : List Entry) (at : ℕ) (e : Entry) (s : State)
    → slice_get front at ≡ Some e → Commits e.kind → state_past r front at s
    ≡ option_and_then (λ x. state_by r x s) (execution_in front at e.caller)
state_past-commit r front at e s here commits =
    cc (commits_is e.kind commits, commit_by r front at e.caller e.kind s commits here)
