-- What tracks a front up to a place tracks it up to the next one, entry by entry.
use Rattle.vyrd_plain.proofs.Prelude
use Prelude.{◌≡◌, ℕ, ◌+◌, true, false, List, [], ◌∷◌, map, drop, set, Option, Some, None, slice_get}
use Prelude.{refl, ap, subst, ◌∙◌, sym, ◌==◌, option_map, list_any, or-false, Method, Args, Kind}
use Prelude.{Call, Return, Entry, Called, commit_or_call, State, returned, next_reply, committed_at}
use Prelude.{commits_after, state_after, commit_count, states_since_call, entry, by_same}
use Prelude.{own_answer, same_number, apart_of, Execution, has_method, answers, seeing, with_commit}
use Prelude.{IsExecution, IsOpen, Tracks, slice_get-set_same, slice_get-set_other, state_here}
use Prelude.{next_reply-quiet, committed-other, committed-quiet, committed-own, Rules}
use Rattle.std.specs.Option.{option_flatten}
use Rattle.std.proofs.lemmas.Option.{slice_get-map, slice_get_within}
use Rattle.vyrd_base.specs.Callers.{call_or_return, is_call}
use Rattle.vyrd_base.specs.Commits.{is_commit, Committed, states_from}
use Rattle.vyrd_base.proofs.BlockLaws.{open_call-quiet}
use Rattle.vyrd_base.proofs.StateLaws.{going-quiet, going-commit, open_call-other, next_reply-other}
use Rattle.vyrd_base.proofs.StateLaws.{before_call-other, before_call-quiet, count-commit}
use Rattle.vyrd_base.proofs.StateLaws.{window-quiet, window-commit, window-call}
use Rattle.vyrd_plain.proofs.ExecutionLaws.{execution_stays, execution_sees, execution_commits}

-- an entry inside its caller's execution that isn't its commit
pub tracks_inside : (r : Rules) (states : List State) (c : ℕ) (kind : Kind)
    (earlier later : List Entry) (state : State)
    (executions : List (Option Execution))
    → call_or_return kind ≡ None → returned kind ≡ None → is_call kind ≡ false → is_commit kind
    ≡ false
    → commit_or_call kind ≡ None
    → Tracks r states earlier (entry c kind ∷ later) state executions
    → Tracks r states (entry c kind ∷ earlier) later state executions
tracks_inside r states c kind earlier later state executions inside unreturned uncalled quiet
    uncommitted s =
    record {
      going = going-quiet r states (entry c _) earlier later state quiet s.going;
      open_calls = λ d within. let o = s.open_calls d within in (
        o.0,
        o.1,
        execution_stays r _ d _ _ _ _ (open_call-quiet d c _ _ inside)
            (next_reply-quiet d c _ _ unreturned) (committed-quiet d c _ _ uncommitted)
            (window-quiet _ d _ _ quiet (before_call-quiet d c _ _ uncalled)) o.2,
      );
    }

-- another caller's execution, beside an entry that isn't a commit
beside : (r : Rules) (states : List State) (c d : ℕ) (kind : Kind) (earlier later : List Entry)
    (o : Option Execution)
    → (c == d) ≡ false → is_commit kind ≡ false → IsOpen r states d earlier (entry c kind ∷ later) o
    → IsOpen r states d (entry c kind ∷ earlier) later o
beside r states c d kind earlier later o other quiet is = execution_stays r _ d _ _ _ o
    (open_call-other d c _ _ other) (next_reply-other d c _ _ other) (committed-other d c _ _ other)
    (window-quiet _ d _ _ quiet (before_call-other d c _ _ other)) is

-- the caller's execution alone is another one after its call or return
tracks_changed : (r : Rules) (states : List State) (c : ℕ) (kind : Kind)
    (earlier later : List Entry) (state : State)
    (executions : List (Option Execution)) (o : Option Execution)
    → is_commit kind ≡ false → IsOpen r states c (entry c kind ∷ earlier) later o
    → Tracks r states earlier (entry c kind ∷ later) state executions
    → Tracks r states (entry c kind ∷ earlier) later state (set executions c o)
tracks_changed r states c kind earlier later state executions o quiet own s = record {
  going = going-quiet r states (entry c _) earlier later state quiet s.going;
  open_calls = λ d within. let old = s.open_calls d within in by_same c d
      (λ same. rw (← same) (
        o,
        slice_get-set_same executions c o
            (slice_get_within _ c old.0 (ap (slice_get _) same ∙ old.1)),
        own,
      ))
      (λ other. (
        old.0,
        slice_get-set_other _ c d o (apart_of c d other) ∙ old.1,
        beside r _ c d _ _ _ _ other quiet old.2,
      ));
}

-- a call begins an execution, which sees the state there
pub tracks_call : (r : Rules) (states : List State) (c : ℕ) (method : Method) (args : Args)
    (earlier later : List Entry) (state : State)
    (executions : List (Option Execution)) (x : Execution)
    → x.method ≡ method → x.args ≡ args → x.reply ≡ next_reply c later → x.has_committed ≡ false
    → x.is_answered ≡ answers r x state
    → has_method r.header method args ≡ true
    → Tracks r states earlier (entry c (Call method args) ∷ later) state executions
    → Tracks r states (entry c (Call method args) ∷ earlier) later state (set executions c (Some x))
tracks_call r states c method args earlier later state executions x has_its_method has_its_args
    reply uncommitted answered allowed s =
    tracks_changed r states c (Call method args) earlier later state executions (Some x) refl own s
  where
    e : Entry
    e = entry c (Call method args)

    window : states_since_call states c (e ∷ earlier) ≡ state ∷ []
    window = window-call states c e earlier state
        (drop 1 (states_from r state (commits_after earlier (e ∷ later)))) refl (cc (same_number c))
        (s.going ∙ first_of (commits_after earlier (e ∷ later)))
      where
        first_of : (xs : List Committed) → states_from r state xs ≡ state
            ∷ drop 1 (states_from r state xs)
        first_of [] = refl
        first_of (y ∷ ys) = refl

    own : IsExecution r states c (e ∷ earlier) later x
    own = record {
      called = cc (own_answer c call_or_return (Call method args) earlier);
      allowed = cc;
      reply = reply;
      committed = uncommitted ∙ sym (committed-own c (Call method args) earlier false refl);
      answered = answered ∙ sym (or-false (answers r x state)) ∙ ap (list_any (answers r x))
          (sym window);
    }

-- a return ends one
pub tracks_return : (r : Rules) (states : List State) (c reply : ℕ) (earlier later : List Entry)
    (state : State)
    (executions : List (Option Execution))
    → Tracks r states earlier (entry c (Return reply) ∷ later) state executions
    → Tracks r states (entry c (Return reply) ∷ earlier) later state (set executions c None)
tracks_return r states c reply earlier later state executions s = tracks_changed r _ c _ _ _ _ _ _
    refl (ap option_flatten_of (own_answer c call_or_return (Return reply) earlier)) s
  where
    option_flatten_of : Option (Option Called) → Option Called
    option_flatten_of o = option_flatten o

-- a commit leads to the next state, which all executions see, and its own has committed
pub tracks_commit : (r : Rules) (states : List State) (c : ℕ) (kind : Kind)
    (earlier later : List Entry) (state next : State)
    (executions : List (Option Execution)) (x : Execution)
    → call_or_return kind ≡ None → returned kind ≡ None → is_call kind ≡ false → is_commit kind
    ≡ true → commit_or_call kind ≡ Some true
    → state_after r state
    (committed_at (record { earlier = earlier; here = entry c kind; later = later })) ≡ Some next
    → IsExecution r states c earlier (entry c kind ∷ later) x
    → Tracks r states earlier (entry c kind ∷ later) state executions
    → Tracks r states (entry c kind ∷ earlier) later next
    (map (seeing r next) (set executions c (Some (with_commit x))))
tracks_commit r states c kind earlier later state next executions x inside unreturned uncalled
    commits committed after is s =
    let going = going-commit r states (entry c _) earlier later state next commits after s.going in
    let here : slice_get states (commit_count earlier + 1) ≡ Some next = ap (slice_get states)
    (sym (count-commit (entry c _) earlier commits)) ∙ state_here r states (entry c _ ∷ earlier) _
    (commits_after (entry c _ ∷ earlier) later) going in
    record {
      going = going;
      open_calls = λ d within. let o = s.open_calls d within in by_same c d
          (λ same. subst
          (λ k. (n : Option Execution) × (slice_get (map (seeing r next) marked) k ≡ Some n)
          × IsOpen r states k (entry c kind ∷ earlier) later n) same (
            seeing r next (Some _),
            slice_get-map (seeing r _) marked c
                ∙ ap (option_map (seeing r _))
                (slice_get-set_same executions c (Some _)
                (slice_get_within _ c o.0 (ap (slice_get _) same ∙ o.1))),
            execution_commits r states c (entry c _) earlier later next x
                (open_call-quiet c c _ _ inside) (next_reply-quiet c c _ _ unreturned)
                (committed-own c _ _ _ committed)
                (window-commit _ c _ _ _ commits (before_call-quiet c c _ _ uncalled) here) is,
          )) (λ other. (
            seeing r _ _,
            slice_get-map _ _ d
                ∙ ap (option_map _) (slice_get-set_other _ c d _ (apart_of c d other) ∙ o.1),
            execution_sees r _ d _ _ _ _ _ (open_call-quiet d c _ _ inside)
                (next_reply-quiet d c _ _ unreturned) (committed-other d c _ _ other)
                (window-commit _ d _ _ _ commits (before_call-quiet d c _ _ uncalled) here) o.2,
          ));
    }
  where
    marked : List (Option Execution)
    marked = set executions c (Some (with_commit x))
