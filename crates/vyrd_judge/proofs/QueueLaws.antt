-- How the queue goes on with one more entry, and how entries leave it.
use Rattle.vyrd_judge.proofs.Prelude
use Prelude.{◌≡◌, ℕ, zero, suc, ◌+◌, ◌-◌, ◌<◌, ◌≤◌, Bool, true, false, List, [], ◌∷◌, ◌++◌, map}
use Prelude.{length, set, Option, Some, None, slice_get, refl, ap, ◌∙◌, sym, arith, length-append}
use Prelude.{length-set, ◌==◌, ◌≢◌, not, option_map, option_or, then_some, cons_option}
use Prelude.{slice_get_within, none-some, same_Some, append-nil, Header, Method, Args, Kind, Call}
use Prelude.{Return, Write, BlockOpen, BlockClose, Entry, Called, by_caller, open_call}
use Prelude.{call_or_return, has_committed, commit_or_call, is_observer, must_commit, returned}
use Prelude.{entry, by_same, own_answer, open_call-quiet, all_kept, caller_kept, same_of, is_same}
use Prelude.{apart_of, Caller, Event, Begins, Commits, Returns, Waiting, Keeps, place_of, IsCaller}
use Prelude.{IsPending, IsUnreturned, HasQueued, HasTakenUp, CanLeave, waiting_of, waiting_at}
use Prelude.{replied, commit_kept, block_commit_runs, committed-other, committed-quiet}
use Prelude.{committed-own, slice_get-set_same, slice_get-set_other, slice_get-last}
use Rattle.vyrd_judge.proofs.AnswerLaws.{call_is_free}
use Rattle.vyrd_base.proofs.StateLaws.{open_call-other}
use Rattle.vyrd_base.proofs.CommitLaws.{alone, with_block, commits_called, commits_inside}
use Rattle.vyrd_base.proofs.CommitLaws.{commits_unreturned, Commits as Committing}

pub apart : false ≡ true → ⊥
apart e = cc

-- what the rules say of an entry, by its kind
commit_is_first : {h : Header} {c : ℕ} {earlier : List Entry} (kind : Kind) → Committing kind
    → Keeps h earlier (entry c kind) → has_committed c earlier ≡ false
commit_is_first e0 e1 e2 = search (alone, all_kept, arith)

pub commit_opened : {h : Header} {c : ℕ} {earlier : List Entry} (kind : Kind) → Committing kind
    → Keeps h earlier (entry c kind)
    → (called : Called) × (open_call c earlier ≡ Some called) × (is_observer called.method ≡ false)
commit_opened kind e1 e2 = search (alone, commit_kept, block_commit_runs, arith)

-- what is open of a caller after its own call or return
open_call-own : (c : ℕ) (kind : Kind) (earlier : List Entry) (o : Option Called)
    → call_or_return kind ≡ Some o → open_call c (entry c kind ∷ earlier) ≡ o
open_call-own c kind earlier o is = cc (own_answer c call_or_return kind earlier)

-- an entry that isn't a return leaves replies as they are
unreplied : (e : Entry) → returned e.kind ≡ None → (xs : List Waiting) → map (replied e) xs ≡ xs
unreplied e none [] = refl
unreplied e none (x ∷ xs) = cc (same x.event refl, unreplied e none xs)
  where
    no_reply : (c : ℕ) → by_caller c returned e ≡ None
    no_reply c = search arith

    or_none : {A : Type 0} (o : Option A) → option_or o None ≡ o
    or_none e0 = search arith

    same : (event : Event) → x.event ≡ event → replied e x ≡ x
    same event is = search (no_reply, or_none, arith)

-- a return changes no entry but an unreturned commit of its caller
reply_other : (c reply : ℕ) (x : Waiting)
    → ((method : Method) (args : Args) → x.event ≡ Commits method args None → x.caller ≢ c)
    → replied (entry c (Return reply)) x ≡ x
reply_other c reply x other = grind (arith, same_of)

-- a map that changes one element alone
map_one : {A : Type 0} (f : A → A) (xs : List A) (i : ℕ) (y : A) → i < length xs
    → ((x : A) → slice_get xs i ≡ Some x → f x ≡ y)
    → ((j : ℕ) (x : A) → j ≢ i → slice_get xs j ≡ Some x → f x ≡ x) → map f xs ≡ set xs i y
map_one f [] i y low here others = absurd (omega (arith, low))
map_one {A = A} f (x ∷ xs) zero y low here others = ap (λ z. z ∷ map f xs) (here x refl)
    ∙ ap (λ zs. y ∷ zs) (map_none xs (λ j z at. others (suc j) z (omega arith) at))
  where
    map_none : (zs : List A) → ((j : ℕ) (z : A) → slice_get zs j ≡ Some z → f z ≡ z) → map f zs ≡ zs
    map_none [] same = refl
    map_none (z ∷ zs) same = ap (λ w. w ∷ map f zs) (same 0 z refl)
        ∙ ap (λ ws. z ∷ ws) (map_none zs (λ j w at. same (suc j) w at))
map_one f (x ∷ xs) (suc i) y low here others = ap (λ z. z ∷ map f xs)
    (others 0 x (omega arith) refl)
    ∙ ap (λ zs. x ∷ zs)
    (map_one f xs i y (omega (arith, low)) here
    (λ j z far at. others (suc j) z (λ same. far (omega (arith, same))) at))

-- the elements of a list before the last one
slice_get-front : {A : Type 0} (xs : List A) (x : A) (i : ℕ) → i < length xs
    → slice_get (xs ++ x ∷ []) i ≡ slice_get xs i
slice_get-front [] x i low = absurd (omega (arith, low))
slice_get-front (y ∷ xs) x zero low = refl
slice_get-front (y ∷ xs) x (suc i) low = slice_get-front xs x i (omega (arith, low))

-- an element of the longer list is the last or one before it
by_place : {A P : Type 0} (xs : List A) (x : A) (i : ℕ) (y : A) → slice_get (xs ++ x ∷ []) i
    ≡ Some y
    → (slice_get xs i ≡ Some y → P) → (i ≡ length xs → x ≡ y → P) → P
by_place [] x zero y here before last = last refl (same_Some _ _ here)
by_place [] x (suc i) y here before last = absurd (none-some _ here)
by_place (z ∷ xs) x zero y here before last = before here
by_place (z ∷ xs) x (suc i) y here before last = by_place xs x i y here before
    (λ p q. last (ap suc p) q)

-- what waits goes on with an entry that isn't a return and doesn't wait itself
quiet_up : {h : Header} {waiting : List Waiting} {taken : ℕ} {callers : List Caller}
    {earlier : List Entry} (c : ℕ) (kind : Kind)
    → call_or_return kind ≡ None → commit_or_call kind ≡ None → returned kind ≡ None
    → waiting_at (place_of (entry c kind) earlier []) ≡ None
    → HasQueued h waiting taken callers earlier → HasTakenUp h waiting waiting taken callers
    (entry c kind) earlier
quiet_up {h} {waiting} {taken} {callers} {earlier} c kind inside quiet silent none q = record {
  queued = record {
    called = λ d k low is. q.called d k low (sym (open_call-quiet d c _ _ inside) ∙ is);
    pending = λ d k caller low is committed at. q.pending d k _ low
        (sym (open_call-quiet d c _ _ inside) ∙ is)
        (sym (committed-quiet d c _ _ quiet) ∙ committed) at;
    uncommitted = λ d k caller low is none at. q.uncommitted d k caller low
        (sym (open_call-quiet d c _ _ inside) ∙ is)
        (sym (committed-quiet d c _ _ quiet) ∙ none) at;
    unreturned = λ i commit k at event. let u = q.unreturned i commit k at event in record {
      opened = open_call-quiet _ c _ _ inside ∙ u.opened;
      committed = committed-quiet _ c _ _ quiet ∙ u.committed;
      number = u.number;
    };
    count = omega (arith, q.count);
  };
  waiting = cc
      (unreplied (entry c kind) silent waiting, append-nil (map (replied (entry c kind)) waiting));
}

pub write_up : {h : Header} {waiting : List Waiting} {taken : ℕ} {callers : List Caller}
    {earlier : List Entry} (c word value : ℕ)
    → HasQueued h waiting taken callers earlier → HasTakenUp h waiting waiting taken callers
    (entry c (Write word value)) earlier
write_up c word value q = quiet_up c (Write word value) refl refl refl refl q

pub open_up : {h : Header} {waiting : List Waiting} {taken : ℕ} {callers : List Caller}
    {earlier : List Entry} (c : ℕ)
    → HasQueued h waiting taken callers earlier → HasTakenUp h waiting waiting taken callers
    (entry c BlockOpen) earlier
open_up c q = quiet_up c BlockOpen refl refl refl refl q

pub close_up : {h : Header} {waiting : List Waiting} {taken : ℕ} {callers : List Caller}
    {earlier : List Entry} (c : ℕ)
    → HasQueued h waiting taken callers earlier → HasTakenUp h waiting waiting taken callers
    (entry c BlockClose) earlier
close_up c q = quiet_up c BlockClose refl refl refl refl q

-- a call: what was called is known, and nothing of the caller waits unreturned
call_queued : {h : Header} {waiting : List Waiting} {taken : ℕ} {callers : List Caller}
    {earlier : List Entry} {c : ℕ} {method : Method} {args : Args}
    (caller : Caller) → caller.method ≡ method → caller.args ≡ args → caller.commit ≡ 0
    → c < length callers → Keeps h earlier (entry c (Call method args))
    → HasQueued h waiting taken callers earlier → HasQueued h waiting taken (set callers c caller)
    (entry c (Call method args) ∷ earlier)
call_queued {h} {waiting} {taken} {callers} {earlier} {c} {method} {args} caller of_method of_args
    uncommitted low keeps q = record {
      called = λ d k low_d is. by_same c d
          (λ same. record {
            caller = caller;
            here = rw (← same)
                (slice_get-set_same callers c caller low);
            method = cc (own d k same is);
            args = cc (own d k same is);
          }) (λ other. let old = q.called d k low_d (sym (open_call-other d c (Call _ _) _ other)
          ∙ is) in record {
            caller = old.caller;
            here = slice_get-set_other _ c d _
                (apart_of c d other) ∙ old.here;
            method = old.method;
            args = old.args;
          });
      pending = λ d k x low_d is committed at. by_same c d
          (λ same. absurd (apart (cc (committed-own c (Call method args) earlier false refl))))
          (λ other. q.pending d k x low_d (sym (open_call-other d c (Call _ _) _ other) ∙ is)
          (sym (committed-other d c (Call method args) _ other) ∙ committed)
          (sym (slice_get-set_other _ c d _ (apart_of c d other)) ∙ at));
      uncommitted = λ d k x low_d is none at. by_same c d
          (λ same. cc (same_Some _ _ (sym (slice_get-set_same callers c caller low)
          ∙ ap (slice_get (set callers c caller)) same
          ∙ at))) (λ other. q.uncommitted d k x low_d (sym (open_call-other d c (Call _ _) _ other)
          ∙ is) (sym (committed-other d c (Call method args) _ other) ∙ none)
          (sym (slice_get-set_other _ c d _ (apart_of c d other)) ∙ at));
      unreturned = λ i commit k at event. let u = q.unreturned i commit k at event in
          by_same c commit.caller
          (λ same. absurd
          (none-some _ (sym (call_is_free h c method args earlier keeps.rules)
          ∙ ap (λ x. open_call x earlier) same
          ∙ u.opened)))
          (λ other. record {
            opened = open_call-other _ c (Call _ _) _ other ∙ u.opened;
            committed = committed-other _ c (Call method args) _ other ∙ u.committed;
            number = λ x is. u.number x (sym (slice_get-set_other _ c _ _ (apart_of c _ other))
                ∙ is);
          });
      count = omega (arith, q.count);
    }
  where
    own : (d : ℕ) (k : Called) → c ≡ d → open_call d (entry c (Call method args) ∷ earlier) ≡ Some k
        → record { method = method; args = args } ≡ k
    own d k same is = search (open_call-own, arith)

-- an entry that isn't a commit waits too
pushed : {h : Header} {waiting : List Waiting} {taken : ℕ} {callers : List Caller} {e : Entry}
    {earlier : List Entry} (x : Waiting)
    → ((k : Called) → x.event ≡ Commits k.method k.args None → ⊥) → taken + length waiting
    ≤ length earlier
    → HasQueued h waiting taken callers (e ∷ earlier)
    → HasQueued h (waiting ++ x ∷ []) taken callers (e ∷ earlier)
pushed {h} {waiting} {taken} {callers} {e} {earlier} x isnt few q = record {
  called = q.called;
  pending = λ d k caller low is committed at. let p = q.pending d k caller low is committed at in
      record {
        commit = p.commit;
        since = p.since;
        here = slice_get-front waiting x (caller.commit - 1 - taken)
            (slice_get_within waiting (caller.commit - 1 - taken) p.commit p.here) ∙ p.here;
        caller_is = p.caller_is;
        event = p.event;
      };
  uncommitted = q.uncommitted;
  unreturned = λ i commit k at event. by_place waiting x i commit at
      (λ before. q.unreturned i commit k before event)
      (λ last same. absurd (isnt k (ap (λ w. w.event) same ∙ event)));
  count = omega (arith, few, length-append waiting (x ∷ []));
}

pub call_up : {h : Header} {old new : List Waiting} {taken taken' : ℕ}
    {callers callers' : List Caller} {earlier : List Entry} (c position : ℕ) (method : Method)
    (args : Args) → c < length callers → position ≡ length earlier
    → Keeps h earlier (entry c (Call method args)) → HasQueued h old taken callers earlier
    → callers' ≡ set callers c (record { method = method; args = args; commit = 0 })
    → new ≡ old ++ cons_option
    (then_some (not (must_commit method))
    (record { caller = c; position = position; event = Begins method args })) []
    → taken' ≡ taken
    → HasTakenUp h old new taken' callers' (entry c (Call method args)) earlier
call_up {h} {old} {new} {taken} {taken'} {callers} {callers'} {earlier} c position method args low
    at keeps q callers_are new_is same =
    by_method (must_commit method) refl
  where
    x : Waiting
    x = record { caller = c; position = position; event = Begins method args }

    caller : Caller
    caller = record { method = method; args = args; commit = 0 }

    e : Entry
    e = entry c (Call method args)

    queued : HasQueued h old taken (set callers c caller) (e ∷ earlier)
    queued = call_queued caller refl refl refl low keeps q

    as_named : {xs : List Waiting} → new ≡ xs → HasQueued h xs taken (set callers c caller)
        (e ∷ earlier) → HasQueued h new taken' callers' (e ∷ earlier)
    as_named {xs} is has = grind arith

    waiting_is : new ≡ map (replied e) old
        ++ cons_option
        (option_map (waiting_of (place_of e earlier []))
        (then_some (not (must_commit method)) (Begins method args))) []
    waiting_is = search (unreplied, arith)

    by_method : (b : Bool) → must_commit method ≡ b → HasTakenUp h old new taken' callers' e earlier
    by_method false free = record {
      queued = as_named (cc)
          (pushed x (λ k event. absurd (begins_isnt event)) q.count queued);
      waiting = waiting_is;
    }
      where
        begins_isnt : {m : Method} {a : Args} → Begins method args ≡ Commits m a None → ⊥
        begins_isnt p = cc
    by_method true owes = record {
      queued = as_named (cc (append-nil old)) queued;
      waiting = waiting_is;
    }

-- a return: its caller is in no execution then
return_queued : {h : Header} {waiting : List Waiting} {taken : ℕ} {callers : List Caller}
    {earlier : List Entry} (c reply : ℕ)
    → ((i : ℕ) (commit : Waiting) (k : Called) → slice_get waiting i ≡ Some commit → commit.event
    ≡ Commits k.method k.args None → commit.caller ≢ c)
    → ((d : ℕ) (k : Called) (caller : Caller) → d < h.callers → (c == d) ≡ false
    → open_call d earlier ≡ Some k → has_committed d earlier ≡ true
    → slice_get callers d ≡ Some caller → IsPending waiting taken d k caller)
    → ((d : ℕ) (k : Called) (caller : Caller) → d < h.callers → open_call d earlier ≡ Some k
    → has_committed d earlier ≡ false
    → slice_get callers d ≡ Some caller → caller.commit ≡ 0)
    → ((i : ℕ) (commit : Waiting) (k : Called) → slice_get waiting i ≡ Some commit → commit.event
    ≡ Commits k.method k.args None
    → IsUnreturned callers taken earlier i commit k)
    → ((d : ℕ) (k : Called) → d < h.callers → open_call d earlier ≡ Some k → IsCaller callers d k)
    → taken + length waiting ≤ length earlier + 1
    → HasQueued h waiting taken callers (entry c (Return reply) ∷ earlier)
return_queued {h} {waiting} {taken} {callers} {earlier} c reply none pending uncommitted unreturned
    called few = search (by_same, open_call-own, open_call-other, committed-other, arith)

-- a return without a commit
pub uncommitted_up : {h : Header} {old new : List Waiting} {taken taken' : ℕ}
    {callers callers' : List Caller} {earlier : List Entry} (c position reply : ℕ)
    → has_committed c earlier ≡ false → position ≡ length earlier
    → HasQueued h old taken callers earlier → callers' ≡ callers → new ≡ old
    ++ record { caller = c; position = position; event = Returns reply } ∷ []
    → taken' ≡ taken → HasTakenUp h old new taken' callers' (entry c (Return reply)) earlier
uncommitted_up {h} {old} {new} {taken} {taken'} {callers} {callers'} {earlier} c position reply none
    at q same_callers new_is same = record {
      queued = rw new_is
          (rw same
          (rw same_callers
          (pushed x (λ k event. returns_isnt event) q.count
          (return_queued c reply no_own
          (λ d k caller low other is committed here. q.pending d k caller low is committed here)
          q.uncommitted q.unreturned q.called
          (omega (arith, q.count))))));
      waiting = cc (all_same old (λ i w here. reply_other c reply w (λ m a event. no_own i w (record
          { method = m; args = a }) here event)));
    }
  where
    e : Entry
    e = entry c (Return reply)

    x : Waiting
    x = record { caller = c; position = position; event = Returns reply }

    returns_isnt : {m : Method} {a : Args} → Returns reply ≡ Commits m a None → ⊥
    returns_isnt p = cc

    no_own : (i : ℕ) (commit : Waiting) (k : Called) → slice_get old i ≡ Some commit → commit.event
        ≡ Commits k.method k.args None → commit.caller ≢ c
    no_own i commit k here event same = search (here, apart, arith)

    all_same : (xs : List Waiting)
        → ((i : ℕ) (w : Waiting) → slice_get xs i ≡ Some w → replied e w ≡ w) → map (replied e) xs
        ≡ xs
    all_same [] so = refl
    all_same (w ∷ ws) so = cc (so 0 w refl, all_same ws (λ i y here. so (suc i) y here))

-- the return of an execution whose commit waits
pub found_commit : {h : Header} {waiting : List Waiting} {taken : ℕ} {callers : List Caller}
    {earlier : List Entry} {c reply : ℕ} {called : Called}
    (caller : Caller) → slice_get callers c ≡ Some caller → open_call c earlier ≡ Some called
    → has_committed c earlier ≡ true
    → Keeps h earlier (entry c (Return reply)) → HasQueued h waiting taken callers earlier
    → IsPending waiting taken c called caller
found_commit {h} {earlier = earlier} {c} {reply} {called} caller here opened committed keeps q =
    search (caller_kept, opened, here, arith)

pub committed_up : {h : Header} {old new : List Waiting} {taken taken' : ℕ}
    {callers callers' : List Caller} {earlier : List Entry} (c reply : ℕ)
    (called : Called) (caller : Caller) → slice_get callers c ≡ Some caller
    → has_committed c earlier ≡ true
    → HasQueued h old taken callers earlier → caller.method ≡ called.method → caller.args
    ≡ called.args
    → (p : IsPending old taken c called caller)
    → callers' ≡ callers → new ≡ set old (caller.commit - 1 - taken)
    (record {
      caller = p.commit.caller;
      position = p.commit.position;
      event = Commits caller.method caller.args (Some reply);
    })
    → taken' ≡ taken → HasTakenUp h old new taken' callers' (entry c (Return reply)) earlier
committed_up {h} {old} {new} {taken} {taken'} {callers} {callers'} {earlier} c reply called caller
    here committed q of_method of_args p same_callers new_is same = record {
      queued = rw new_is
          (rw same
          (rw same_callers
          (return_queued c reply others_own others_pending q.uncommitted others_unreturned q.called
          (omega (arith, q.count, length-set old i x)))));
      waiting = cc (
        map_one (replied e) old i x low (λ w at. let it : p.commit ≡ w = same_Some _ _
            (sym p.here ∙ at) in ap (replied e) (sym it) ∙ replied_here) (λ j w far at. reply_other c
            reply w (λ m a event own. far (only j w (record { method = m; args = a }) at event own))),
        append-nil (map (replied e) old),
      );
    }
  where
    e : Entry
    e = entry c (Return reply)

    i : ℕ
    i = caller.commit - 1 - taken

    x : Waiting
    x = record p.commit { event = Commits caller.method caller.args (Some reply) }

    low : i < length old
    low = slice_get_within old i p.commit p.here

    replied_here : replied e p.commit ≡ x
    replied_here = cc (p.event, is_same c p.commit.caller (sym p.caller_is))

    -- the caller's unreturned commit is there alone
    only : (j : ℕ) (w : Waiting) (k : Called) → slice_get old j ≡ Some w → w.event
        ≡ Commits k.method k.args None → w.caller ≡ c → j ≡ i
    only j w k at event own = grind (arith, taken, here)

    by_index : {P : Type 0} (j : ℕ) (w : Waiting) → slice_get (set old i x) j ≡ Some w
        → (slice_get old j ≡ Some w → j ≢ i → P) → (x ≡ w → P) → P
    by_index j w at other own = by_same i j
        (λ same_index. own
        (same_Some _ _ (sym (slice_get-set_same old i x low)
        ∙ ap (slice_get (set old i x)) same_index ∙ at)))
        (λ apart_index. other (sym (slice_get-set_other old i j x (apart_of i j apart_index)) ∙ at)
        (λ same_index. apart_of i j apart_index (sym same_index)))

    replied_isnt : {m : Method} {a : Args} (w : Waiting) → x ≡ w → w.event ≡ Commits m a None → ⊥
    replied_isnt w is event = grind arith

    others_own : (j : ℕ) (w : Waiting) (k : Called) → slice_get (set old i x) j ≡ Some w
        → w.event ≡ Commits k.method k.args None → w.caller ≢ c
    others_own j w k at event own = by_index j w at (λ was far. far (only j w k was event own))
        (λ is. replied_isnt w is event)

    others_pending : (d : ℕ) (k : Called) (x' : Caller) → d < h.callers → (c == d) ≡ false
        → open_call d earlier ≡ Some k → has_committed d earlier ≡ true
        → slice_get callers d ≡ Some x' → IsPending (set old i x) taken d k x'
    others_pending d k x' low_d other is committed at =
        let r = q.pending d k x' low_d is committed at in record {
          commit = r.commit;
          since = r.since;
          here = slice_get-set_other old i (x'.commit - 1 - taken) x
              (λ same_index. apart_of c d other
              (sym p.caller_is
              ∙ ap (λ w. w.caller)
              (same_Some _ _ (sym p.here ∙ ap (slice_get old) same_index ∙ r.here)) ∙ r.caller_is))
              ∙ r.here;
          caller_is = r.caller_is;
          event = r.event;
        }

    others_unreturned : (j : ℕ) (w : Waiting) (k : Called) → slice_get (set old i x) j ≡ Some w
        → w.event ≡ Commits k.method k.args None
        → IsUnreturned callers taken earlier j w k
    others_unreturned j w k at event = by_index j w at (λ was far. q.unreturned j w k was event)
        (λ is. absurd (replied_isnt w is event))

-- a commit waits
pub commit_up : {h : Header} {old new : List Waiting} {taken taken' : ℕ}
    {callers callers' : List Caller} {earlier : List Entry} (c position : ℕ) (kind : Kind)
    (called : Called) (caller : Caller) → Committing kind → slice_get callers c ≡ Some caller
    → open_call c earlier ≡ Some called
    → caller.method ≡ called.method → caller.args ≡ called.args → position ≡ length earlier
    → Keeps h earlier (entry c kind) → HasQueued h old taken callers earlier
    → callers' ≡ set callers c (record caller { commit = taken + length old + 1 })
    → new ≡ old ++ record {
      caller = c;
      position = position;
      event = Commits caller.method caller.args None;
    } ∷ []
    → taken' ≡ taken → HasTakenUp h old new taken' callers' (entry c kind) earlier
commit_up {h} {old} {new} {taken} {taken'} {callers} {callers'} {earlier} c position kind called
    caller commits here opened of_method of_args at keeps q callers_are new_is same = record {
      queued = rw new_is
          (rw same
          (rw callers_are queued));
      waiting = cc (unreplied e (commits_unreturned kind commits) old, waits_here kind commits);
    }
  where
    e : Entry
    e = entry c kind

    x : Waiting
    x = record { caller = c; position = position; event = Commits caller.method caller.args None }

    y : Caller
    y = record caller { commit = taken + length old + 1 }

    low : c < length callers
    low = slice_get_within callers c caller here

    waits_here : (k : Kind) → Committing k → waiting_at (place_of (entry c k) earlier [])
        ≡ Some (record {
          caller = c;
          position = length earlier;
          event = Commits called.method called.args None;
        })
    waits_here _ alone = cc
    waits_here _ with_block = cc

    inside : (d : ℕ) → open_call d (e ∷ earlier) ≡ open_call d earlier
    inside d = open_call-quiet d c kind earlier (commits_inside kind commits)

    queued : HasQueued h (old ++ x ∷ []) taken (set callers c y) (e ∷ earlier)
    queued = record {
      called = λ d k low_d is. let was = q.called d k low_d (sym (inside d) ∙ is) in by_same c d
          (λ same_caller. let it : caller ≡ was.caller = same_Some _ _
          (sym here ∙ ap (slice_get callers) same_caller ∙ was.here) in record {
            caller = y;
            here = rw (← same_caller)
                (slice_get-set_same callers c y low);
            method = cc (was.method);
            args = cc (was.args);
          })
          (λ other. record {
            caller = was.caller;
            here = slice_get-set_other callers c d y (apart_of c d other) ∙ was.here;
            method = was.method;
            args = was.args;
          });
      pending = λ d k z low_d is committed z_at. by_same c d
          (λ same_caller.
          let it : y ≡ z = same_Some _ _ (sym (slice_get-set_same callers c y low)
          ∙ ap (slice_get (set callers c y)) same_caller ∙ z_at) in
          let number : taken + length old + 1 ≡ z.commit = cc in
          let place : z.commit - 1 - taken ≡ length old = omega (arith, number) in
          let mine : called ≡ k = same_Some _ _
          (cc (inside d)) in
          record {
            commit = x;
            since = omega (arith, number);
            here = ap (slice_get (old ++ x ∷ [])) place ∙ slice_get-last old x;
            caller_is = same_caller;
            event = cc;
          })
          (λ other. let r = q.pending d k z low_d (sym (inside d) ∙ is)
          (sym (committed-other d c kind earlier other) ∙ committed)
          (sym (slice_get-set_other callers c d y (apart_of c d other)) ∙ z_at) in record {
            commit = r.commit;
            since = r.since;
            here = slice_get-front old x (z.commit - 1 - taken)
                (slice_get_within old (z.commit - 1 - taken) r.commit r.here) ∙ r.here;
            caller_is = r.caller_is;
            event = r.event;
          });
      uncommitted = λ d k z low_d is none z_at. by_same c d
          (λ same_caller. absurd
          (apart (cc (committed-own c kind earlier true (commits_called kind commits)))))
          (λ other. q.uncommitted d k z low_d (sym (inside d) ∙ is)
          (sym (committed-other d c kind earlier other) ∙ none)
          (sym (slice_get-set_other callers c d y (apart_of c d other)) ∙ z_at));
      unreturned = λ j w k w_at event. by_place old x j w w_at
          (λ before. let u = q.unreturned j w k before event in by_same c w.caller
          (λ same_caller. absurd
          (apart (cc (commit_is_first kind commits keeps, u.committed))))
          (λ other. record {
            opened = inside w.caller ∙ u.opened;
            committed = committed-other w.caller c kind earlier other ∙ u.committed;
            number = λ z z_at. u.number z
                (sym (slice_get-set_other callers c w.caller y (apart_of c w.caller other)) ∙ z_at);
          }))
          (λ last is. let own : c ≡ w.caller = cc in record {
            opened = cc (
              inside c,
              same_call (sym of_method) (sym of_args) (ap (λ v. v.event) is ∙
                  event),
            );
            committed = cc (committed-own c kind earlier true (commits_called kind commits));
            number = λ z z_at.
                let it : y ≡ z = same_Some _ _ (sym (slice_get-set_same callers c y low)
                ∙ ap (slice_get (set callers c y)) own ∙ z_at) in
                cc;
          });
      count = omega (arith, q.count, length-append old (x ∷ []));
    }
      where
        same_method : {m n : Method} {a b : Args} → Commits m a None ≡ Commits n b None → m ≡ n
        same_method r = cc

        same_args : {m n : Method} {a b : Args} → Commits m a None ≡ Commits n b None → a ≡ b
        same_args r = cc

        same_call : {k k' : Called} {m : Method} {a : Args} → k.method ≡ m → k.args ≡ a
            → Commits m a None ≡ Commits k'.method k'.args None → k ≡ k'
        same_call {k} {k'} {m} {a} is_m is_a r = grind (arith, same_method r, same_args r)

-- the first entry leaves
pub queue_left : {h : Header} {waiting : List Waiting} {taken : ℕ} {callers : List Caller}
    {earlier : List Entry} (x : Waiting) (xs : List Waiting)
    → waiting ≡ x ∷ xs → CanLeave x → HasQueued h waiting taken callers earlier
    → HasQueued h xs (taken + 1) callers earlier
queue_left {h} {waiting} {taken} {callers} {earlier} x xs is can q = record {
  called = q.called;
  pending = λ d k caller low opened committed at. let p = q.pending d k caller low opened committed
      at in
      step k caller p (caller.commit - 1 - taken) refl;
  uncommitted = q.uncommitted;
  unreturned = λ i commit k at event. let u = q.unreturned (suc i) commit k
      (ap (λ ws. slice_get ws (suc i)) is ∙ at) event in record {
        opened = u.opened;
        committed = u.committed;
        number = λ caller here. let number : caller.commit ≡ taken + suc i
            + 1 = u.number caller here in
            omega (arith, number);
      };
  count = omega (arith, q.count, ap length is);
}
  where
    step : {d : ℕ} (k : Called) (caller : Caller) (p : IsPending waiting taken d k caller) (n : ℕ)
        → caller.commit - 1 - taken ≡ n → IsPending xs (taken + 1) d k caller
    step k caller = search arith
