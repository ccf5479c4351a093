-- What a judge that tracks a front up to a place may do with the entry there.
use Rattle.vyrd_plain.proofs.Prelude
use Prelude.{◌≡◌, ℕ, zero, suc, ◌+◌, ◌<◌, ◌≤◌, true, List, [], ◌∷◌, length, take, drop, get_or}
use Prelude.{replicate, Option, Some, None, slice_get, refl, ap, subst, ◌∙◌, sym, arith, drop-cons}
use Prelude.{length-take, slice_get_within, get_or_from_slice_get, option_map, option_or, same_Some}
use Prelude.{length-newest_first, Method, Args, Kind, Call, Return, Entry, Why, Verdict, Violation}
use Prelude.{places_after, newest_first, first_answer, Called, open_call, broken_rule, first_break}
use Prelude.{State, commits, commit_count, fault_at, line_of, violation_at, states_along}
use Prelude.{first_fault, entry, no_fault_beyond, caller_kept, Execution, has_method, place_of}
use Prelude.{IsExecution, IsOpen, AreAllowed, Tracks, Outcome, PlaceGives, newest_next}
use Prelude.{line_without, rules_at, call_kept, return_kept, Rules, state_at_start}
use Rattle.std.proofs.Math.ListN.{drop_of_length-le}
use Rattle.vyrd_plain.proofs.EffectFacts.{none_there}

-- a caller that is in an execution
pub running_at : (r : Rules) (states : List State) (earlier later : List Entry) (state : State)
    (executions : List (Option Execution)) (c : ℕ) (called : Called)
    → Tracks r states earlier later state executions → c < r.header.callers → open_call c earlier
    ≡ Some called
    → (x : Execution) × (slice_get executions c ≡ Some (Some x))
    × IsExecution r states c earlier later x
running_at r states earlier later state executions c called s within runs = let kept =
    s.open_calls c within in by_option kept.0 kept.1 kept.2
  where
    by_option : (o : Option Execution) → slice_get executions c ≡ Some o
        → IsOpen r states c earlier later o
        → (x : Execution) × (slice_get executions c ≡ Some (Some x))
        × IsExecution r states c earlier later x
    by_option None at is = cc
    by_option (Some x) at is = (x, at, is)

-- every kept execution's method is the header's
pub allowed_all : (r : Rules) (states : List State) (earlier later : List Entry) (state : State)
    (executions : List (Option Execution))
    → Tracks r states earlier later state executions → AreAllowed r.header executions
allowed_all r states earlier later state executions s c x within is = let kept =
    s.open_calls c within in by_option kept.0 kept.1 kept.2
  where
    by_option : (o : Option Execution) → slice_get executions c ≡ Some o
        → IsOpen r states c earlier later o → has_method r.header x.method x.args ≡ true
    by_option None at open_none = cc
    by_option (Some y) at execution = cc (execution.allowed)

-- what the judge knows of the entry at a place of a front that keeps all rules
pub record IsAt (r : Rules) (front : List Entry) (at : ℕ) (e : Entry) (state : State)
    (executions : List (Option Execution)) : Type 0 where
  pub tracks : Tracks r (states_along r [] front) (newest_first (take at front))
      (e ∷ drop (at + 1) front) state executions
  pub kept : broken_rule r.header (newest_first (take at front)) e ≡ None
  pub within : e.caller < r.header.callers
  pub next : newest_first (take (at + 1) front) ≡ e ∷ newest_first (take at front)

is_at : (r : Rules) (front : List Entry) (at : ℕ) (e : Entry) (state : State)
    (executions : List (Option Execution))
    → slice_get front at ≡ Some e → first_break r.header front ≡ None
    → Tracks r (states_along r [] front) (newest_first (take at front)) (drop at front) state
    executions → IsAt r front at e state executions
is_at r front at e state executions here kept s =
    let within = slice_get_within front at e here in
    let same : get_or front at e ≡ e = get_or_from_slice_get front at e e here in
    let more : suc at ≡ at + 1 = omega arith in
    let rules : broken_rule r.header (newest_first (take at front)) e
    ≡ None = rules_at r.header front at e here kept in
    record {
      tracks =
          subst (λ later. Tracks r (states_along r [] front) (newest_first (take at front)) later
          state executions) (cc (drop-cons front at e within)) s;
      kept = rules;
      within = caller_kept r.header (newest_first (take at front)) e rules;
      next = cc (newest_next front at e within);
    }

-- the same for an entry that was read and whose kind is known
pub known_at : {r : Rules} {front : List Entry} {at : ℕ} {val : Entry} {kind : Kind} {state : State}
    {executions : List (Option Execution)}
    → slice_get front at ≡ Some val → val.kind ≡ kind → first_break r.header front ≡ None
    → Tracks r (states_along r [] front) (newest_first (take at front)) (drop at front) state
    executions
    → IsAt r front at (entry val.caller kind) state executions
known_at {r} {front} {at} {val} {kind} {state} {executions} here named kept s =
    is_at r _ _ _ _ _ (here ∙ ap (λ k. Some (entry val.caller k)) named) kept s

-- the entry that was read is every entry at its place
pub same_entry : {o : Option Entry} {r e : Entry} {kind : Kind} → o ≡ Some r → r.kind ≡ kind
    → o ≡ Some e → entry r.caller kind ≡ e
same_entry {o} {r} {e} {kind} is_r named is_e = grind arith

-- the execution of the entry's caller, if it is in one
pub running : {r : Rules} {front : List Entry} {at : ℕ} {e : Entry} {state : State}
    {executions : List (Option Execution)} {called : Called}
    → IsAt r front at e state executions → open_call e.caller (newest_first (take at front))
    ≡ Some called
    → (x : Execution) × (slice_get executions e.caller ≡ Some (Some x))
    × IsExecution r (states_along r [] front) e.caller (newest_first (take at front))
    (e ∷ drop (at + 1) front) x
running {r} {front} {at} {e} {state} {executions} {called} here is =
    running_at r _ _ _ state _ _ called here.tracks here.within is

-- an execution of the caller is what was called
pub called_is : {r : Rules} {front : List Entry} {at : ℕ} {e : Entry} {state : State}
    {executions : List (Option Execution)} {called : Called}
    → IsAt r front at e state executions → open_call e.caller (newest_first (take at front))
    ≡ Some called
    → (x : Execution) → slice_get executions e.caller ≡ Some (Some x) → x.method ≡ called.method
called_is {called = called} here is x at =
    let kept = running here is in
    let same : kept.0 ≡ x = cc in
    let named : called_of kept.0 ≡ called = same_Some _ _ (sym kept.2.called ∙ is) in
    ap (λ y. y.method) (sym same) ∙ ap (λ k. k.method) named
  where
    called_of : Execution → Called
    called_of y = record { method = y.method; args = y.args }

-- what the entry at a place of a front leads to
pub record Leads (r : Rules) (front : List Entry) (at : ℕ) (e : Entry) (state : State)
    (executions : List (Option Execution))
    (o : Outcome) : Type 0 where
  pub to : PlaceGives r [] (states_along r [] front)
      (place_of e (newest_first (take at front)) (drop (at + 1) front)) state executions o

-- the same by other names of what is kept and of the outcome
pub leads_as : {r : Rules} {front : List Entry} {at : ℕ} {e : Entry} {s s' : State}
    {xs xs' : List (Option Execution)} {o o' : Outcome}
    → s' ≡ s → xs' ≡ xs → o' ≡ o → Leads r front at e s xs o → Leads r front at e s' xs' o'
leads_as e0 e1 e2 e3 = search arith

-- the same for another name of the entry
pub leads_for : {r : Rules} {front : List Entry} {at : ℕ} {d e : Entry} {s : State}
    {xs : List (Option Execution)} {o : Outcome}
    → d ≡ e → Leads r front at d s xs o → Leads r front at e s xs o
leads_for {r} {front} {at} {d} {e} {s} {xs} {o} same leads = grind arith

-- What the rules of shape say at each kind of entry.
pub call_allowed : {r : Rules} {front : List Entry} {at c : ℕ} {method : Method} {args : Args}
    {state : State} {executions : List (Option Execution)}
    → IsAt r front at (entry c (Call method args)) state executions
    → has_method r.header method args ≡ true
call_allowed {r} {front} {at} {c} {method} {args} here = search (call_kept, arith)

pub return_called : {r : Rules} {front : List Entry} {at c reply : ℕ} {state : State}
    {executions : List (Option Execution)}
    → IsAt r front at (entry c (Return reply)) state executions → (called : Called)
    × (open_call c (newest_first (take at front)) ≡ Some called)
return_called {r} {front} {at} {c} {reply} here = search (return_kept, arith)

-- the first fault of a front from a place on
abbrev pub fault_from : Rules → List Entry → ℕ → Option Verdict
fault_from r front at = first_answer (violation_at r [] (states_along r [] front))
    (places_after (newest_first (take at front)) (drop at front))

pub fault_from_start : (r : Rules) (front : List Entry) → first_fault r [] front
    ≡ fault_from r front 0
unfolding first_fault
fault_from_start r front = refl

-- how a place comes before those after it
fault_here : (r : Rules) (front : List Entry) (at : ℕ) (e : Entry) (o : Option Why)
    → slice_get front at ≡ Some e
    → fault_at r [] (states_along r [] front)
    (place_of e (newest_first (take at front)) (drop (at + 1) front)) ≡ o
    → fault_from r front at
    ≡ option_or (option_map (Violation (line_of [] (length (newest_first (take at front))))) o)
    (fault_from r front (at + 1))
fault_here r front at e o here fault =
    let within = slice_get_within front at e here in
    let same : get_or front at e ≡ e = get_or_from_slice_get front at e e here in
    let more : suc at ≡ at + 1 = omega arith in
    let next : newest_first (take (at + 1) front) ≡ e ∷ newest_first (take at front) =
    cc (newest_next front at e within) in
    cc (drop-cons front at e within)

-- a place that isn't a fault leads on to those after it
pub fault_goes : (r : Rules) (front : List Entry) (at : ℕ) (e : Entry) → slice_get front at ≡ Some e
    → fault_at r [] (states_along r [] front)
    (place_of e (newest_first (take at front)) (drop (at + 1) front)) ≡ None
    → fault_from r front at ≡ fault_from r front (at + 1)
fault_goes r front at e here fault = fault_here r front at e None here fault

length_taken : (front : List Entry) (at : ℕ) → at ≤ length front
    → length (newest_first (take at front)) ≡ at
length_taken front at within = search (length-newest_first, length-take, arith)

-- a place that is a fault
pub fault_found : (r : Rules) (front : List Entry) (at : ℕ) (e : Entry) (why : Why)
    → slice_get front at ≡ Some e
    → fault_at r [] (states_along r [] front)
    (place_of e (newest_first (take at front)) (drop (at + 1) front)) ≡ Some why
    → fault_from r front at ≡ Some (Violation (at + 2) why)
fault_found r front at e why here fault =
    let within = slice_get_within front at e here in
    fault_here r front at e (Some why) here fault
    ∙ ap (λ n. Some (Violation (line_of [] n) why)) (length_taken front at (omega arith))
    ∙ ap (λ line. Some (Violation line why)) (line_without at)

-- if no later state is known, nothing later is a fault
pub fault_ends : (r : Rules) (front : List Entry) (at : ℕ) (e : Entry) → slice_get front at ≡ Some e
    → fault_at r [] (states_along r [] front)
    (place_of e (newest_first (take at front)) (drop (at + 1) front)) ≡ None
    → length (states_along r [] front) ≤ commit_count (e ∷ newest_first (take at front))
    → fault_from r front at ≡ None
fault_ends r front at e here fault short =
    let within = slice_get_within front at e here in
    let same : get_or front at e ≡ e = get_or_from_slice_get front at e e here in
    let next : e ∷ newest_first (take at front) ≡ newest_first (take (at + 1) front) =
    sym (cc (newest_next front at e within)) in
    fault_goes r front at e here fault ∙ no_fault_beyond r [] (states_along r [] front)
    (newest_first (take (at + 1) front)) (drop (at + 1) front) (rw (← next) short)

-- past the last place there is none
pub fault_past : (r : Rules) (front : List Entry) (at : ℕ) → length front ≤ at
    → fault_from r front at ≡ None
fault_past r front at past = cc (drop_of_length-le front past)

-- before the first place nothing has begun
pub tracks_first : (r : Rules) (front : List Entry) (state : State)
    (executions : List (Option Execution)) → state_at_start r [] ≡ Some state
    → executions ≡ replicate r.header.callers None → Tracks r (states_along r [] front)
    [] front state executions
unfolding commits
tracks_first r front state executions begins empty = search (none_there, arith)

-- an entry at each place
pub some_at : (front : List Entry) (at : ℕ) → at < length front → (e : Entry)
    × (slice_get front at ≡ Some e)
some_at [] at within = absurd (omega arith)
some_at (x ∷ xs) zero within = (x, refl)
some_at (x ∷ xs) (suc at) within = some_at xs at (omega arith)

-- the entries up to the next place
pub next_is : (front : List Entry) (at : ℕ) (e : Entry) → slice_get front at ≡ Some e
    → e ∷ newest_first (take at front) ≡ newest_first (take (at + 1) front)
next_is front at e here =
    sym (newest_next front at e (slice_get_within front at e here)
    ∙ ap (λ x. x ∷ newest_first (take at front)) (get_or_from_slice_get front at e e here))

-- what the entry leads to, by another name of the rules and of the outcome
pub leads_at : {r q : Rules} {front : List Entry} {at : ℕ} {e : Entry} {s : State}
    {xs : List (Option Execution)} {o o' : Outcome} → q ≡ r → o ≡ o'
    → PlaceGives q [] (states_along q [] front)
    (place_of e (newest_first (take at front)) (drop (at + 1) front)) s xs o
    → Leads r front at e s xs o'
leads_at {r} {q} {front} {at} {e} {s} {xs} {o} {o'} same_rules same_outcome gives = grind arith
