-- What the entries that wait tell of the one that comes: its caller, how many wait, and where a
-- reply goes.
use Rattle.vyrd_judge.proofs.Prelude
use Prelude.{◌≡◌, ℕ, ◌+◌, ◌-◌, ◌<◌, ◌^◌, Bool, true, false, List, [], ◌∷◌, ◌++◌, length, set}
use Prelude.{get_or, ◌&&◌, Option, Some, Result, slice_get, refl, ap, ◌∙◌, sym, arith, ◌==◌, ◌≢◌}
use Prelude.{not, OnOk, IfOk, cons_option, ∥∥₁_elim, Bool-set, Header, Kind, Return, Entry, Called}
use Prelude.{open_call, has_committed, is_observer, is_return, entry, caller_kept, below_of}
use Prelude.{is_below, is_same, isnt_same, keeps_as, Caller, Commits, Returns, Waiting, Keeps}
use Prelude.{IsCaller, IsPending, HasQueued, HasTakenUp, MayQueue, AwaitsReturn, return_kept}
use Rattle.std.proofs.lemmas.Option.{get_or_from_slice_get, slice_get_within}
use Rattle.vyrd_judge.specs.WaitingView.{is_unreturned}
use Rattle.vyrd_base.proofs.CommitLaws.{Commits as Committing}
use Rattle.vyrd_judge.proofs.QueueLaws.{apart, commit_opened, uncommitted_up, found_commit}
use Rattle.vyrd_judge.proofs.QueueLaws.{committed_up}

-- what may follow: its caller, how many entries wait, and where a reply goes
pub queue_caller : {h : Header} {waiting : List Waiting} {taken : ℕ} {callers : List Caller}
    {e : Entry} {position : ℕ}
    → MayQueue h waiting taken callers e position → e.caller < h.callers
queue_caller {h} {e = e} may = below_of _ _
    (∥∥₁_elim may (Bool-set _ _) (λ s. is_below _ _ (caller_kept h s.0 e s.2.rules)))

pub queue_few : {h : Header} {waiting : List Waiting} {taken : ℕ} {callers : List Caller}
    {e : Entry} {position : ℕ}
    → position < 2 ^ 62 → MayQueue h waiting taken callers e position
    → taken + length waiting < 2 ^ 62
queue_few {h} {waiting} {taken} {callers} {e} {position} few may = below_of _ _
    (∥∥₁_elim may (Bool-set _ _) (λ s.
    let low : taken + length waiting < 2 ^ 62 = omega (arith, few, s.1.count, s.3) in is_below
    (taken + length waiting) (2 ^ 62) low))

pub queue_pending : {h : Header} {waiting : List Waiting} {taken : ℕ} {callers : List Caller}
    {e : Entry} {position reply : ℕ} (caller : Caller)
    → e.kind ≡ Return reply → slice_get callers e.caller ≡ Some caller → caller.commit ≢ 0
    → MayQueue h waiting taken callers e position → (taken < caller.commit)
    × (caller.commit - 1 - taken < length waiting)
queue_pending {h} {waiting} {taken} {callers} {e} {position} {reply} caller is here has may = (
  below_of _ _ (∥∥₁_elim may (Bool-set _ _) (λ s. is_below _ _ (pending s.0 s.1 s.2).since)),
  below_of _ _
      (∥∥₁_elim may (Bool-set _ _)
      (λ s. is_below _ _
      (slice_get_within waiting _ (pending s.0 s.1 s.2).commit (pending s.0 s.1 s.2).here))),
)
  where
    pending : (earlier : List Entry) → HasQueued h waiting taken callers earlier
        → (keeps : Keeps h earlier e)
        → IsPending waiting taken e.caller
        (return_kept h e.caller reply earlier (keeps_as is keeps).rules).0 caller
    pending earlier q keeps =
        let called = return_kept h e.caller reply earlier (keeps_as is keeps).rules in
        by_commit (has_committed e.caller earlier) refl
        (λ committed. q.pending e.caller called.0 caller (caller_kept h earlier e keeps.rules)
        called.1 committed here)
        (λ none. has
        (q.uncommitted e.caller called.0 caller (caller_kept h earlier e keeps.rules) called.1 none
        here))
      where
        by_commit : {P : Type 0} (b : Bool) → has_committed e.caller earlier ≡ b
            → (has_committed e.caller earlier ≡ true → P)
            → (has_committed e.caller earlier ≡ false → ⊥) → P
        by_commit true b has_one none = has_one b
        by_commit false b has_one none = absurd (none b)

-- what was called in an execution that returns or commits
pub returning_called : {h : Header} {earlier : List Entry} {e : Entry} {reply : ℕ}
    → e.kind ≡ Return reply → Keeps h earlier e
    → (called : Called) × (open_call e.caller earlier ≡ Some called)
returning_called {h} {earlier} {e} {reply} is keeps = search (return_kept, keeps_as, arith)

pub committing_called : {h : Header} {earlier : List Entry} {e : Entry} (kind : Kind)
    → e.kind ≡ kind → Committing kind → Keeps h earlier e
    → (called : Called) × (open_call e.caller earlier ≡ Some called)
    × (is_observer called.method ≡ false)
committing_called kind is commits keeps = commit_opened kind commits (keeps_as is keeps)

pub known_caller : {h : Header} {waiting : List Waiting} {taken : ℕ} {callers : List Caller}
    {earlier : List Entry} {e : Entry} {called : Called}
    → Keeps h earlier e → open_call e.caller earlier ≡ Some called
    → HasQueued h waiting taken callers earlier → IsCaller callers e.caller called
known_caller {h} {earlier = earlier} {e} {called} keeps opened q = search (caller_kept, arith)

pub taken_kind : {h : Header} {old new : List Waiting} {taken : ℕ} {callers : List Caller}
    {earlier : List Entry} (e : Entry) {kind : Kind} → e.kind ≡ kind
    → HasTakenUp h old new taken callers (entry e.caller kind) earlier
    → HasTakenUp h old new taken callers e earlier
taken_kind {h} {old} {new} {taken} {callers} {earlier} e is up = grind arith

-- what an answer that isn't an error gives, by what it hands out
pub all_ok : {E P R : Type 0} {Q S : Option Waiting → Type 0} (r : Result (Option Waiting) E)
    → OnOk r P → IfOk r Q → OnOk r R
    → ((first : Option Waiting) → P → Q first → R → S first) → IfOk r S
all_ok r p q u f = search arith

-- a return is taken in, whichever it is
pub return_up : {E : Type 0} {h : Header} {old : List Waiting} {taken : ℕ} {callers : List Caller}
    {earlier : List Entry} (r : Result (Option Waiting) E)
    (new : List Waiting) (taken' : ℕ) (callers' : List Caller) (c position reply : ℕ) → position
    ≡ length earlier → Keeps h earlier (entry c (Return reply))
    → HasQueued h old taken callers earlier
    → ((caller : Caller) → slice_get callers c ≡ Some caller → caller.commit ≡ 0
    → IfOk r (λ first. cons_option first new ≡ old
    ++ record { caller = c; position = position; event = Returns reply } ∷ []))
    → ((caller : Caller) → slice_get callers c ≡ Some caller → caller.commit ≢ 0
    → (commit : Waiting)
    → slice_get old (caller.commit - 1 - taken) ≡ Some commit
    → IfOk r (λ first. cons_option first new
    ≡ set old (caller.commit - 1 - taken)
    (record {
      caller = commit.caller;
      position = commit.position;
      event = Commits caller.method caller.args (Some reply);
    })))
    → OnOk r (callers' ≡ callers) → OnOk r (taken' ≡ taken)
    → IfOk r (λ first. HasTakenUp h old (cons_option first new) taken' callers'
    (entry c (Return reply)) earlier)
return_up {h = h} {old} {taken} {callers} {earlier} r new taken' callers' c position reply at keeps
    q uncommitted committed same_callers same =
    by_commit (has_committed c earlier) refl
  where
    called : (k : Called) × (open_call c earlier ≡ Some k)
    called = return_kept h c reply earlier keeps.rules

    known : IsCaller callers c called.0
    known = search (caller_kept, arith)

    by_commit : (b : Bool) → has_committed c earlier ≡ b
        → IfOk r (λ first. HasTakenUp h old (cons_option first new) taken' callers'
        (entry c (Return reply)) earlier)
    by_commit false none =
        let zero_there = q.uncommitted c called.0 known.caller
        (caller_kept h earlier (entry c (Return reply)) keeps.rules) called.1 none known.here in
        all_ok r same_callers (uncommitted known.caller known.here zero_there) same
        (λ first of_callers new_is of_taken.
        uncommitted_up c position reply none at q of_callers new_is of_taken)
    by_commit true has =
        let p = found_commit known.caller known.here called.1 has keeps q in
        all_ok r same_callers
        (committed known.caller known.here (λ zero_there. omega (arith, p.since, zero_there))
        p.commit p.here) same (λ first of_callers new_is of_taken.
        committed_up c reply called.0 known.caller known.here has q known.method known.args p
        of_callers new_is of_taken)

-- a commit that waits first and hasn't returned
pub first_awaits : (ws : List Waiting) (x : Waiting) (xs : List Waiting) → ws ≡ x ∷ xs
    → is_unreturned x.event ≡ true → AwaitsReturn ws
first_awaits ws x xs is unreturned = grind (arith, apart)

-- what waits first stays, if another entry that waits is changed
pub awaits_behind : (ws : List Waiting) (i : ℕ) (x : Waiting) → 0 < i → AwaitsReturn ws
    → AwaitsReturn (set ws i x)
awaits_behind ws i x later awaits = grind arith

-- an execution without a commit returns exactly when what is known of the caller says so
pub observer_is : {h : Header} {waiting : List Waiting} {taken : ℕ} {callers : List Caller}
    {earlier : List Entry} {e : Entry} {reply : ℕ} (caller : Caller)
    → e.kind ≡ Return reply → caller ≡ get_or callers e.caller caller → Keeps h earlier e
    → HasQueued h waiting taken callers earlier
    → (caller.commit == 0) ≡ (is_return e.kind && not (has_committed e.caller earlier))
observer_is {h} {callers = callers} {earlier} {e} {reply} caller is here keeps q =
    let called = returning_called is keeps in
    let known = known_caller keeps called.1 q in
    let it : known.caller ≡ caller =
    sym (get_or_from_slice_get callers e.caller known.caller caller known.here) ∙ sym here in
    let low = caller_kept h earlier e keeps.rules in
    ap (λ z. z.commit == 0) (sym it)
    ∙ by_commit (has_committed e.caller earlier) refl
    (λ committed. λ zero_there. let p = q.pending e.caller called.0 known.caller low called.1
    committed known.here in omega (arith, p.since, zero_there))
    (λ none. q.uncommitted e.caller called.0 known.caller low called.1 none known.here)
    ∙ ap (λ k. is_return k && not (has_committed e.caller earlier)) (sym is)
  where
    by_commit : {n : ℕ} (b : Bool) → has_committed e.caller earlier ≡ b
        → (has_committed e.caller earlier ≡ true → n ≢ 0)
        → (has_committed e.caller earlier ≡ false → n ≡ 0) → (n == 0)
        ≡ not (has_committed e.caller earlier)
    by_commit {n} true b has none = isnt_same n 0 (has b) ∙ ap not (sym b)
    by_commit {n} false b has none = is_same n 0 (none b) ∙ ap not (sym b)
