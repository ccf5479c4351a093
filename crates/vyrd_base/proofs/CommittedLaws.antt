-- Executions that have committed: how one more entry changes that, what was called in them, and
-- that those of the built-in subjects' methods commit once or never.
use Rattle.vyrd_base.proofs.Prelude
use Prelude.{◌≡◌, ℕ, Bool, true, false, not, cond, ◌&&◌, ◌||◌, List, [], ◌∷◌, ◌++◌, Some, None}
use Prelude.{refl, ap, subst, ◌∙◌, sym, ◌==◌, list_any, option_or, option_map_or, Header, Kind}
use Prelude.{Call, Return, Write, Commit, BlockOpen, BlockClose, BlockCommit, Entry, newest_first}
use Prelude.{first_answer, is_observer, must_commit, is_built_in, subject_of, Called, by_caller}
use Prelude.{open_call, call_or_return, has_committed, commit_or_call, broken_rule, checks_at}
use Prelude.{first_break, WellFormed, State, Rules, observer_fault}
use Rattle.std.specs.Option.{option_flatten}
use Rattle.vyrd_base.specs.declared.verdict.Why.TheVariants.{Observer}
use Rattle.vyrd_base.specs.Shape.{is_observing, owes_commit}
use Rattle.vyrd_base.proofs.PlaceLaws.{newest_first-push}
use Rattle.vyrd_base.proofs.BlockLaws.{entry, by_same, own_answer, other_answer, no_answer}
use Rattle.vyrd_base.proofs.BlockLaws.{open_call-quiet}
use Rattle.vyrd_base.proofs.ShadowLaws.{all_kept, well_formed-first_break}
use Rattle.vyrd_base.proofs.StateLaws.{open_call-other}
use Rattle.vyrd_base.proofs.StructureLaws.{once_or_never}
use Rattle.vyrd_base.proofs.KeptLaws.{commit_kept, block_commit_runs, return_kept, call_kept}
use Rattle.vyrd_base.proofs.KeptLaws.{method_subject}

-- another caller's entry, one that neither begins, commits nor ends an execution, and the caller's
-- own
pub committed-other : (c d : ℕ) (kind : Kind) (earlier : List Entry) → (d == c) ≡ false
    → has_committed c (entry d kind ∷ earlier) ≡ has_committed c earlier
committed-other c d kind earlier other = cc (other_answer c d commit_or_call kind earlier other)

pub committed-quiet : (c d : ℕ) (kind : Kind) (earlier : List Entry) → commit_or_call kind ≡ None
    → has_committed c (entry d kind ∷ earlier) ≡ has_committed c earlier
committed-quiet c d kind earlier quiet = cc (no_answer c d commit_or_call kind earlier quiet)

pub committed-own : (c : ℕ) (kind : Kind) (earlier : List Entry) (b : Bool)
    → commit_or_call kind ≡ Some b → has_committed c (entry c kind ∷ earlier) ≡ b
committed-own c kind earlier b is = cc (own_answer c commit_or_call kind earlier)

-- a method that commits in an execution that is open
abbrev Mutates : ℕ → List Entry → Type 0
Mutates c earlier = (called : Called) × (open_call c earlier ≡ Some called)
    × (is_observer called.method ≡ false)

goes_on : (c d : ℕ) (kind : Kind) (earlier : List Entry) → call_or_return kind ≡ None
    → Mutates c earlier → Mutates c (entry d kind ∷ earlier)
goes_on c d kind earlier inside was = (was.0, open_call-quiet c d _ _ inside ∙ was.1, was.2)

-- an execution that has committed is open, and not an observer's
own_runs : (h : Header) (c : ℕ) (kind : Kind) (earlier : List Entry)
    → broken_rule h earlier (entry c kind) ≡ None
    → (has_committed c earlier ≡ true → Mutates c earlier)
    → has_committed c (entry c kind ∷ earlier) ≡ true → Mutates c (entry c kind ∷ earlier)
own_runs h c (Call method args) earlier kept so is =
    absurd (never (committed-own c (Call method args) earlier false refl) is)
  where
    never : {b : Bool} → b ≡ false → b ≡ true → ⊥
    never p q = cc
own_runs h c (Return reply) earlier kept so is =
    absurd (never (committed-own c (Return reply) earlier false refl) is)
  where
    never : {b : Bool} → b ≡ false → b ≡ true → ⊥
    never p q = cc
own_runs h c (Write word value) earlier kept so is = goes_on c c (Write word value) earlier refl
    (so (sym (committed-quiet c c (Write word value) earlier refl) ∙ is))
own_runs h c Commit earlier kept so is =
    goes_on c c Commit earlier refl (commit_kept h c earlier kept)
own_runs h c BlockOpen earlier kept so is = goes_on c c BlockOpen earlier refl
    (so (sym (committed-quiet c c BlockOpen earlier refl) ∙ is))
own_runs h c BlockClose earlier kept so is = goes_on c c BlockClose earlier refl
    (so (sym (committed-quiet c c BlockClose earlier refl) ∙ is))
own_runs h c BlockCommit earlier kept so is =
    goes_on c c BlockCommit earlier refl (block_commit_runs h c earlier kept)

pub committed_runs : (h : Header) (c : ℕ) (earlier : List Entry) → WellFormed h earlier
    → has_committed c earlier ≡ true
    → (called : Called) × (open_call c earlier ≡ Some called) × (is_observer called.method ≡ false)
committed_runs h c [] wf = λ is. cc
committed_runs h c (e ∷ earlier) wf = step (committed_runs h c earlier wf.1)
  where
    step : (has_committed c earlier ≡ true → Mutates c earlier)
        → has_committed c (e ∷ earlier) ≡ true → Mutates c (e ∷ earlier)
    step so = by_same e.caller c
        (λ same. subst (λ d. broken_rule h earlier (entry d e.kind) ≡ None
        → has_committed c (entry d e.kind ∷ earlier) ≡ true → Mutates c (entry d e.kind ∷ earlier))
        (sym same) (λ kept. own_runs h c e.kind earlier kept so) wf.0)
        (λ other. λ is.
        let was = so (sym (committed-other c e.caller e.kind earlier other) ∙ is) in
        (was.0, open_call-other c e.caller e.kind earlier other ∙ was.1, was.2))

-- an entry of the caller: it calls what is of the header's subject, or goes on with what is
still_ours : (h : Header) (c : ℕ) (kind : Kind) (earlier : List Entry) (called : Called)
    → (open_call c earlier ≡ Some called → subject_of called.method ≡ h.subject)
    → broken_rule h earlier (entry c kind) ≡ None → open_call c (entry c kind ∷ earlier)
    ≡ Some called
    → subject_of called.method ≡ h.subject
still_ours h c kind earlier called before kept is = by_kind kind kept
    (sym (ap option_flatten (own_answer c call_or_return kind earlier)) ∙ is)
  where
    by_kind : (k : Kind) → broken_rule h earlier (entry c k) ≡ None
        → option_flatten
        (option_or (call_or_return k) (first_answer (by_caller c call_or_return) earlier))
        ≡ Some called
        → subject_of called.method ≡ h.subject
    by_kind (Call method args) keeps it =
        cc (method_subject h method args (call_kept h c method args earlier keeps))
    by_kind (Return reply) keeps it = cc
    by_kind (Write word value) keeps it = before it
    by_kind Commit keeps it = before it
    by_kind BlockOpen keeps it = before it
    by_kind BlockClose keeps it = before it
    by_kind BlockCommit keeps it = before it

-- what is called in an open execution is of the header's subject
open_is_ours : (h : Header) (c : ℕ) (earlier : List Entry) (called : Called) → WellFormed h earlier
    → open_call c earlier ≡ Some called → subject_of called.method ≡ h.subject
open_is_ours h c [] called wf is = cc
open_is_ours h c (e ∷ earlier) called wf is = by_same e.caller c
    (λ same. still_ours h c e.kind earlier called (open_is_ours h c earlier called wf.1)
    (subst (λ d. broken_rule h earlier (entry d e.kind) ≡ None) same wf.0)
    (subst (λ d. open_call c (entry d e.kind ∷ earlier) ≡ Some called) same is))
    (λ other. open_is_ours h c earlier called wf.1
    (sym (open_call-other c e.caller e.kind earlier other) ∙ is))

-- an execution that returns without a commit need not have one
pub return_free : (h : Header) (c reply : ℕ) (earlier : List Entry) (called : Called)
    → broken_rule h earlier (entry c (Return reply)) ≡ None → open_call c earlier ≡ Some called
    → has_committed c earlier ≡ false → must_commit called.method ≡ false
return_free h c reply earlier called kept opened none =
    free (must_commit called.method) (has_committed c earlier) none
    (cc ((all_kept (checks_at h earlier (entry c (Return reply))) kept).1.1.1.0))
  where
    free : (a b : Bool) → b ≡ false → (a && not b) ≡ false → a ≡ false
    free true true e f = cc
    free true false e f = cc
    free false b e f = refl

-- Each method of the built-in subjects commits once or never. So a return lacks a commit if its
-- execution has none and isn't an observer's
pub lacks_commit : (c : ℕ) (earlier : List Entry) (called : Called)
    → open_call c earlier ≡ Some called → is_built_in (subject_of called.method) ≡ true
    → (owes_commit c earlier && not (has_committed c earlier))
    ≡ not (is_observing c earlier || has_committed c earlier)
lacks_commit c earlier called opened built =
    cc (
      once_or_never called.method built,
      by_truth (is_observer called.method) (has_committed c
          earlier),
    )
  where
    by_truth : (a b : Bool) → (not a && not b) ≡ not (a || b)
    by_truth true b = refl
    by_truth false b = refl

-- and those that return without a commit are the observers'
pub returns_committed : (h : Header) (c reply : ℕ) (earlier : List Entry) → is_built_in h.subject
    ≡ true → WellFormed h earlier
    → broken_rule h earlier (entry c (Return reply)) ≡ None
    → has_committed c earlier ≡ not (is_observing c earlier)
returns_committed h c reply earlier built wf kept = by_truth (has_committed c earlier) refl
  where
    called : (k : Called) × (open_call c earlier ≡ Some k)
    called = return_kept h c reply earlier kept

    observing : {k : Called} {b : Bool} → open_call c earlier ≡ Some k → is_observer k.method ≡ b
        → is_observing c earlier ≡ b
    observing opened is = ap (λ o. option_map_or (λ k. is_observer k.method) o false) opened ∙ is

    looks : (a : Bool) → not a ≡ false → a ≡ true
    looks true e = refl
    looks false e = cc

    by_truth : (b : Bool) → has_committed c earlier ≡ b
        → has_committed c earlier ≡ not (is_observing c earlier)
    by_truth true is = let runs = committed_runs h c earlier wf is in
        is ∙ ap not (sym (observing runs.1 runs.2))
    by_truth false is =
        is ∙ ap not (sym (observing called.1 (looks (is_observer called.0.method)
        (sym (once_or_never called.0.method
        (ap is_built_in (open_is_ours h c earlier called.0 wf called.1) ∙ built))
        ∙ return_free h c reply earlier called.0 kept called.1 is))))

-- the same of a log
returns_last : (h : Header) (es : List Entry) (c reply : ℕ) → is_built_in h.subject ≡ true
    → first_break h (es ++ entry c (Return reply) ∷ []) ≡ None
    → has_committed c (newest_first es) ≡ not (is_observing c (newest_first es))
returns_last h es c reply built kept =
    let wf : WellFormed h (entry c (Return reply) ∷ newest_first es) =
    subst (WellFormed h) (newest_first-push es (entry c (Return reply)))
    (well_formed-first_break h (es ++ entry c (Return reply) ∷ []) kept) in
    returns_committed h c reply (newest_first es) built wf.1 wf.0

pub returns_observed : (h : Header) (es : List Entry) (c reply : ℕ) → is_built_in h.subject ≡ true
    → first_break h (es ++ record { caller = c; kind = Return reply } ∷ []) ≡ None
    → not (has_committed c (newest_first es)) ≡ is_observing c (newest_first es)
returns_observed h es c reply built kept = ap not (returns_last h es c reply built kept) ∙ twice _
  where
    twice : (b : Bool) → not (not b) ≡ b
    twice true = refl
    twice false = refl

-- so the fault of a return goes by its method
pub fault_by_method : (r : Rules) (window : List State) (es : List Entry) (c reply : ℕ)
    (called : Called) → is_built_in r.header.subject ≡ true
    → first_break r.header (es ++ record { caller = c; kind = Return reply } ∷ []) ≡ None
    → open_call c (newest_first es) ≡ Some called
    → observer_fault r window (has_committed c (newest_first es)) reply called
    ≡ cond (not (is_observer called.method)
    || list_any (λ state. r.answer state called.method called.args == reply) window)
    None (Some (Observer reply))
fault_by_method r window es c reply called built kept opened =
    cc (returns_last r.header es c reply built kept)
