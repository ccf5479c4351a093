-- What is reached at a place is reached at the next one, entry by entry.
use Rattle.vyrd_judge.proofs.Prelude
use Prelude.{◌≡◌, ℕ, ◌+◌, Bool, true, false, List, [], ◌∷◌, ◌++◌, drop, Option, Some, None}
use Prelude.{slice_get, refl, ap, subst, ◌∙◌, sym, ◌==◌, list_any, list_any-append, same_Some}
use Prelude.{or-false, Method, Args, Kind, Call, Return, Entry, Called, open_call, call_or_return}
use Prelude.{commit_or_call, is_call, must_commit, State, is_commit, Committed, committed_at}
use Prelude.{commits_after, state_after, states_from, commit_count, states_since_call, entry}
use Prelude.{by_same, own_answer, open_call-quiet, same_number, has_method, Seen, SeesAnswer}
use Prelude.{IsWatched, Reached, AllSee, committed-other, committed-quiet, committed-own, Rules}
use Rattle.vyrd_base.proofs.StateLaws.{open_call-other, before_call-other, before_call-quiet}
use Rattle.vyrd_base.proofs.StateLaws.{count-commit, window-quiet, window-commit, window-call}
use Rattle.vyrd_base.proofs.StateLaws.{state_here, going-quiet, going-commit}

-- an open execution is watched on where the entry leaves its window
watched_on : (r : Rules) {states : List State} {c : ℕ} {e : Entry} {earlier : List Entry}
    {called : Called} {seen : Seen}
    → states_since_call states c (e ∷ earlier) ≡ states_since_call states c earlier
    → IsWatched r states c earlier called seen
    → IsWatched r states c (e ∷ earlier) called seen
watched_on r {called = called} window is = record {
  is_open = is.is_open;
  method = is.method;
  args = is.args;
  answers = λ reply. is.answers reply
      ∙ ap (list_any (λ state. r.answer state called.method called.args == reply)) (sym window);
}

-- an entry that is neither a call nor a return nor a commit
pub reached_inside : (r : Rules) (states : List State) (c : ℕ) (kind : Kind)
    (earlier later : List Entry) (state : State)
    (watches : List Seen) → call_or_return kind ≡ None → is_call kind ≡ false → is_commit kind
    ≡ false → commit_or_call kind ≡ None
    → Reached r states earlier (entry c kind ∷ later) state watches
    → Reached r states (entry c kind ∷ earlier) later state watches
reached_inside r states c kind earlier later state watches inside uncalled quiet uncommitted val =
    record {
      going = going-quiet r states (entry c _) earlier later state quiet val.going;
      allowed = λ d called is. val.allowed d called (sym (open_call-quiet d c _ _ inside) ∙ is);
      watched = λ d called within is free none.
          let old = val.watched d called within (sym (open_call-quiet d c _ _ inside) ∙ is) free
          (sym (committed-quiet d c _ _ uncommitted) ∙ none) in (
            old.0,
            old.1,
            watched_on r
                (window-quiet _ d _ _ quiet (before_call-quiet d c _ _ uncalled)) old.2,
          );
    }

-- another caller's watch is as it was
abbrev pub OthersStay : ℕ → List Seen → List Seen → Type 0
OthersStay c old new = (d : ℕ) → (c == d) ≡ false → slice_get new d ≡ slice_get old d

-- a call or a return: what its caller has open then
abbrev pub opened : ℕ → Kind → List Entry → Option Called
opened c kind earlier = open_call c (entry c kind ∷ earlier)

reached_changed : (r : Rules) (states : List State) (c : ℕ) (kind : Kind)
    (earlier later : List Entry) (state : State)
    (watches new : List Seen) → is_commit kind ≡ false → OthersStay c watches new
    → ((called : Called) → opened c kind earlier ≡ Some called
    → has_method r.header called.method called.args ≡ true)
    → ((called : Called) → opened c kind earlier ≡ Some called → must_commit called.method ≡ false
    → (seen : Seen) × (slice_get new c ≡ Some seen) × IsWatched r states c (entry c kind ∷ earlier)
    called seen)
    → Reached r states earlier (entry c kind ∷ later) state watches
    → Reached r states (entry c kind ∷ earlier) later state new
reached_changed r states c kind earlier later state watches new quiet others may own val = record {
  going = going-quiet r states (entry c kind) earlier later state quiet val.going;
  allowed = λ d called is. by_same c d
      (λ same. may called (subst (λ k. open_call k (entry c kind ∷ earlier) ≡ Some called)
      (sym same) is))
      (λ other. val.allowed d called (sym (open_call-other d c kind earlier other) ∙ is));
  watched = λ d called within is free none. by_same c d
      (λ same. subst (λ k. (seen : Seen) × (slice_get new k ≡ Some seen)
      × IsWatched r states k (entry c kind ∷ earlier) called seen) same
      (own called (subst (λ k. open_call k (entry c kind ∷ earlier) ≡ Some called) (sym same) is)
      free))
      (λ other. let old = val.watched d called within (sym (open_call-other d c kind earlier other)
      ∙ is) free
      (sym (committed-other d c kind earlier other) ∙ none) in (
        old.0,
        others d other ∙ old.1,
        watched_on r
            (window-quiet states d (entry c kind) earlier quiet
            (before_call-other d c kind earlier other)) old.2,
      ));
}

opened_call : (c : ℕ) (method : Method) (args : Args) (earlier : List Entry)
    → opened c (Call method args) earlier ≡ Some (record { method = method; args = args })
opened_call c method args earlier = cc (own_answer c call_or_return (Call method args) earlier)

opened_return : (c reply : ℕ) (earlier : List Entry) → opened c (Return reply) earlier ≡ None
opened_return c reply earlier = cc (own_answer c call_or_return (Return reply) earlier)

-- a call of a method that has to commit
pub reached_owes : (r : Rules) (states : List State) (c : ℕ) (method : Method) (args : Args)
    (earlier later : List Entry) (state : State)
    (watches : List Seen) → must_commit method ≡ true → has_method r.header method args ≡ true
    → Reached r states earlier (entry c (Call method args) ∷ later) state watches
    → Reached r states (entry c (Call method args) ∷ earlier) later state watches
reached_owes r states c method args earlier later state watches owes may val =
    reached_changed r _ c _ _ _ _ watches _ refl (λ d other. refl)
    (λ called is. let same : record { method = method; args = args } ≡ called = same_Some _ _
    (sym (opened_call c _ _ _) ∙ is) in
    rw (← same) may) (λ called is free. let same : record { method = method; args = args }
    ≡ called = same_Some _ _ (sym (opened_call c _ _ _) ∙ is) in
    absurd (apart (cc))) val
  where
    apart : true ≡ false → ⊥
    apart e = cc

-- a call of another method, which the state here answers
pub reached_begins : (r : Rules) (states : List State) (c : ℕ) (method : Method) (args : Args)
    (earlier later : List Entry) (state : State)
    (watches new : List Seen) → has_method r.header method args ≡ true → OthersStay c watches new
    → slice_get new c
    ≡ Some (record {
      is_open = true;
      method = method;
      args = args;
      answers = r.answer state method args ∷ [];
    })
    → Reached r states earlier (entry c (Call method args) ∷ later) state watches
    → Reached r states (entry c (Call method args) ∷ earlier) later state new
reached_begins r states c method args earlier later state watches new may others here val =
    reached_changed r states c (Call method args) earlier later state watches new refl others
    (λ called is. let same : call ≡ called = same_Some _ _ (sym (opened_call c method args earlier)
    ∙ is) in
    rw (← same) may)
    (λ called is free. let same : call ≡ called = same_Some _ _
    (sym (opened_call c method args earlier) ∙ is) in
    (seen, here, rw (← same) watched)) val
  where
    e : Entry
    e = entry c (Call method args)

    call : Called
    call = record { method = method; args = args }

    seen : Seen
    seen = record {
      is_open = true;
      method = method;
      args = args;
      answers = r.answer state method args ∷ [];
    }

    window : states_since_call states c (e ∷ earlier) ≡ state ∷ []
    window = window-call states c e earlier state
        (drop 1 (states_from r state (commits_after earlier (e ∷ later)))) refl (cc (same_number c))
        (val.going ∙ first_of (commits_after earlier (e ∷ later)))
      where
        first_of : (xs : List Committed) → states_from r state xs ≡ state
            ∷ drop 1 (states_from r state xs)
        first_of [] = refl
        first_of (y ∷ ys) = refl

    watched : IsWatched r states c (e ∷ earlier) call seen
    watched = record {
      is_open = refl;
      method = refl;
      args = refl;
      answers = λ reply. ap
          (list_any (λ s. r.answer s method args == reply)) (sym window);
    }

-- a return
pub reached_return : (r : Rules) (states : List State) (c reply : ℕ) (earlier later : List Entry)
    (state : State)
    (watches new : List Seen) → OthersStay c watches new → Reached r states earlier
    (entry c (Return reply) ∷ later) state watches
    → Reached r states (entry c (Return reply) ∷ earlier) later state new
reached_return r states c reply earlier later state watches new others val =
    reached_changed r _ c _ _ _ _ watches _ refl others
    (λ called is. absurd (none (sym (opened_return c reply _) ∙ is)))
    (λ called is free. absurd (none (sym (opened_return c reply _) ∙ is))) val
  where
    none : {called : Called} → None ≡ Some called → ⊥
    none e = cc

-- a commit leads to the next state, which all see that are watched: its own execution isn't any
-- more
pub reached_commit : (r : Rules) (states : List State) (c : ℕ) (kind : Kind)
    (earlier later : List Entry) (state next : State)
    (watches closed new : List Seen) → call_or_return kind ≡ None → is_call kind ≡ false
    → is_commit kind ≡ true → commit_or_call kind ≡ Some true
    → state_after r state
    (committed_at (record { earlier = earlier; here = entry c kind; later = later })) ≡ Some next
    → OthersStay c watches closed → AllSee (r.answer next) closed new
    → Reached r states earlier (entry c kind ∷ later) state watches
    → Reached r states (entry c kind ∷ earlier) later next new
reached_commit r states c kind earlier later state next watches closed new inside uncalled commits
    committed after others see val =
    let going = going-commit r states (entry c kind) earlier later state next commits after
    val.going in
    let here : slice_get states (commit_count earlier + 1) ≡ Some next =
    ap (slice_get states) (sym (count-commit (entry c kind) earlier commits))
    ∙ state_here r states (entry c kind ∷ earlier) next
    (commits_after (entry c kind ∷ earlier) later) going in
    record {
      going = going;
      allowed = λ d called is. val.allowed d called (sym (open_call-quiet d c kind earlier inside)
          ∙ is);
      watched = λ d called within is free none. by_same c d
          (λ same. absurd (apart (cc (committed-own c kind earlier true committed))))
          (λ other.
          let old = val.watched d called within (sym (open_call-quiet d c kind earlier inside) ∙ is)
          free
          (sym (committed-other d c kind earlier other) ∙ none) in
          let more = see d old.0 (others d other ∙ old.1) in (
            more.0,
            more.1,
            sees (window-commit states d (entry c kind) earlier next commits
                (before_call-quiet d c kind earlier uncalled) here) old.2
                (more.2.answers old.2.is_open),
          ));
    }
  where
    apart : true ≡ false → ⊥
    apart e = cc

    sees : {d : ℕ} {called : Called} {seen more : Seen}
        → states_since_call states d (entry c kind ∷ earlier) ≡ states_since_call states d earlier
        ++ next ∷ []
        → IsWatched r states d earlier called seen
        → SeesAnswer (r.answer next seen.method seen.args) seen more
        → IsWatched r states d (entry c kind ∷ earlier) called more
    sees {d} {called} {seen} {more} window is one = record {
      is_open = one.is_open ∙ is.is_open;
      method = one.method ∙ is.method;
      args = one.args ∙ is.args;
      answers = λ reply.
          let test : State → Bool = λ s. r.answer s called.method called.args == reply in
          cc (
            one.answers reply,
            is.answers reply,
            is.method,
            is.args,
            or-false (test next),
            list_any-append test (states_since_call states d earlier) (next ∷ []),
          );
    }
