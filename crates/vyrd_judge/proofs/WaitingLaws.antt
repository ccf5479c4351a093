-- What waits as the log grows by one entry, and what an entry that waits is.
use Rattle.vyrd_judge.proofs.Prelude
use Prelude.{◌≡◌, ℕ, Bool, true, false, List, [], ◌∷◌, ◌++◌, map, length, Option, Some, None, refl}
use Prelude.{ap, subst, ◌∙◌, sym, not, option_map, filter_map, option_or, then_some, cons_option}
use Prelude.{Method, Args, Kind, Call, Return, Write, Commit, BlockOpen, BlockClose, BlockCommit}
use Prelude.{Entry, Place, places_after, newest_first_onto, Called, open_call, has_committed}
use Prelude.{by_caller, Header, broken_rule, is_observer, must_commit, is_commit, returned}
use Prelude.{next_reply, entry, commit_kept, block_commit_runs, or_none, Event, Begins, Commits}
use Prelude.{Returns, Waiting, place_of, commit_of, waiting_of, waiting_at, waiting_after, replied}
use Rattle.vyrd_base.proofs.PlaceLaws.{with_later, places_after-append, first_answer-append}
use Rattle.vyrd_judge.specs.Waiting.{event_of}
use Rattle.vyrd_base.proofs.CommitLaws.{alone, with_block, Commits as Committing}

-- a list and what comes after it
filter_map-append : {A B : Type 0} (f : A → Option B) (xs ys : List A) → filter_map f (xs ++ ys)
    ≡ filter_map f xs ++ filter_map f ys
filter_map-append f [] ys = refl
filter_map-append f (x ∷ xs) ys = ap (cons_option (f x)) (filter_map-append f xs ys)
    ∙ joined (f x) (filter_map f xs) (filter_map f ys)
  where
    joined : {B : Type 0} (o : Option B) (bs cs : List B) → cons_option o (bs ++ cs)
        ≡ cons_option o bs ++ cs
    joined None bs cs = refl
    joined (Some b) bs cs = refl

filter_map-map : {A B : Type 0} (f : A → Option B) (g : A → A) (k : B → B)
    → ((x : A) → f (g x) ≡ option_map k (f x))
    → (xs : List A) → filter_map f (map g xs) ≡ map k (filter_map f xs)
filter_map-map f g k so [] = refl
filter_map-map f g k so (x ∷ xs) =
    cc (so x, filter_map-map f g k so xs, mapped k (f x) (filter_map f xs))
  where
    mapped : {B : Type 0} (j : B → B) (o : Option B) (bs : List B) → cons_option (option_map j o)
        (map j bs) ≡ map j (cons_option o bs)
    mapped j None bs = refl
    mapped j (Some b) bs = refl

reply_more : (c : ℕ) (later : List Entry) (e : Entry) → next_reply c (later ++ e ∷ [])
    ≡ option_or (next_reply c later) (by_caller c returned e)
reply_more c later e = simp (first_answer-append, returned, or_none)

commit_replied : (e : Entry) (place : Place Entry) (kind : Kind) → Committing kind
    → option_map (waiting_of (with_later (e ∷ []) place))
    (event_of (with_later (e ∷ []) place) kind)
    ≡ option_map (replied e) (option_map (waiting_of place) (event_of place kind))
commit_replied e place _ alone = by_call (open_call place.here.caller place.earlier)
  where
    by_call : (o : Option Called) → option_map (waiting_of (with_later (e ∷ []) place))
        (option_map (commit_of (next_reply place.here.caller (place.later ++ e ∷ []))) o)
        ≡ option_map (replied e)
        (option_map (waiting_of place)
        (option_map (commit_of (next_reply place.here.caller place.later)) o))
    by_call None = refl
    by_call (Some called) = cc (reply_more place.here.caller place.later e)
commit_replied e place _ with_block = by_call (open_call place.here.caller place.earlier)
  where
    by_call : (o : Option Called) → option_map (waiting_of (with_later (e ∷ []) place))
        (option_map (commit_of (next_reply place.here.caller (place.later ++ e ∷ []))) o)
        ≡ option_map (replied e)
        (option_map (waiting_of place)
        (option_map (commit_of (next_reply place.here.caller place.later)) o))
    by_call None = refl
    by_call (Some called) = cc (reply_more place.here.caller place.later e)

kind_replied : (e : Entry) (place : Place Entry) (kind : Kind)
    → option_map (waiting_of (with_later (e ∷ []) place))
    (event_of (with_later (e ∷ []) place) kind)
    ≡ option_map (replied e) (option_map (waiting_of place) (event_of place kind))
kind_replied e place Commit = commit_replied e place Commit alone
kind_replied e place BlockCommit = commit_replied e place BlockCommit with_block
kind_replied e place (Call method args) =
    elim (not _) as (λ b. option_map (waiting_of (with_later (e ∷ []) place))
    (then_some b (Begins method args)) ≡ option_map (replied e)
    (option_map (waiting_of place) (then_some b (Begins method args)))) [
      | true ↦ refl
      | false ↦ refl
    ]
kind_replied e place (Return reply) =
    elim (not _) as (λ b. option_map (waiting_of (with_later (e ∷ []) place))
    (then_some b (Returns reply)) ≡ option_map (replied e)
    (option_map (waiting_of place) (then_some b (Returns reply)))) [ true ↦ refl | false ↦ refl ]
kind_replied e place (Write word value) = refl
kind_replied e place BlockOpen = refl
kind_replied e place BlockClose = refl

-- the list that an option holds
abbrev pub listed : {A : Type 0} → Option A → List A
listed o = cons_option o []

-- what waits with one more entry
pub waiting_more : (earlier later : List Entry) (e : Entry)
    → waiting_after earlier (later ++ e ∷ [])
    ≡ map (replied e) (waiting_after earlier later)
    ++ listed (waiting_at (place_of e (newest_first_onto earlier later) []))
waiting_more earlier later e =
    ap (filter_map waiting_at) (places_after-append earlier later (e ∷ []))
    ∙ filter_map-append waiting_at (map (with_later (e ∷ [])) (places_after earlier later))
    (places_after (newest_first_onto earlier later) (e ∷ []))
    ∙ ap (λ xs. xs ++ listed (waiting_at (place_of e (newest_first_onto earlier later) [])))
    (filter_map-map waiting_at (with_later (e ∷ [])) (replied e)
    (λ place. kind_replied e place place.here.kind) (places_after earlier later))

-- What an entry that waits is.
pub record IsBegin (e : Entry) (earlier : List Entry) (x : Waiting) (method : Method)
    (args : Args) : Type 0 where
  pub kind : e.kind ≡ Call method args
  pub free : must_commit method ≡ false
  pub caller : x.caller ≡ e.caller
  pub position : x.position ≡ length earlier

pub record IsReturn (e : Entry) (earlier : List Entry) (x : Waiting) (reply : ℕ) : Type 0 where
  pub kind : e.kind ≡ Return reply
  pub none : has_committed e.caller earlier ≡ false
  pub caller : x.caller ≡ e.caller
  pub position : x.position ≡ length earlier

pub record IsCommit (e : Entry) (earlier later : List Entry) (x : Waiting) (method : Method)
    (args : Args) (o : Option ℕ) : Type 0 where
  pub commits : Committing e.kind
  pub opened : open_call e.caller earlier ≡ Some (record { method = method; args = args })
  pub replies : next_reply e.caller later ≡ o
  pub caller : x.caller ≡ e.caller
  pub position : x.position ≡ length earlier

-- the entry, whichever it is
pub data Waits (e : Entry) (earlier later : List Entry) (x : Waiting) : Type 0 where
  begins : (method : Method) (args : Args) → x.event ≡ Begins method args
      → IsBegin e earlier x method args → Waits e earlier later x
  commits : (method : Method) (args : Args) (o : Option ℕ) → x.event ≡ Commits method args o
      → IsCommit e earlier later x method args o → Waits e earlier later x
  returns : (reply : ℕ) → x.event ≡ Returns reply → IsReturn e earlier x reply
      → Waits e earlier later x

pub waits : (e : Entry) (earlier later : List Entry) (x : Waiting)
    → waiting_at (place_of e earlier later) ≡ Some x → Waits e earlier later x
waits e earlier later x is = by_kind e.kind refl is
  where
    place : Place Entry
    place = place_of e earlier later

    the_event : {event : Event} → Some (waiting_of place event) ≡ Some x → x.event ≡ event
    the_event p = cc

    the_caller : {event : Event} → Some (waiting_of place event) ≡ Some x → x.caller ≡ e.caller
    the_caller p = cc

    the_position : {event : Event} → Some (waiting_of place event) ≡ Some x → x.position
        ≡ length earlier
    the_position p = cc

    none : {A : Type 0} → None ≡ Some x → A
    none p = cc

    at_call : (method : Method) (args : Args) (b : Bool) → e.kind ≡ Call method args
        → must_commit method ≡ b
        → option_map (waiting_of place) (then_some (not b) (Begins method args)) ≡ Some x
        → Waits e earlier later x
    at_call method args true named free p = none p
    at_call method args false named free p = begins method args (the_event p)
        (record { kind = named; free = free; caller = the_caller p; position = the_position p })

    at_return : (reply : ℕ) (b : Bool) → e.kind ≡ Return reply → has_committed e.caller earlier ≡ b
        → option_map (waiting_of place) (then_some (not b) (Returns reply)) ≡ Some x
        → Waits e earlier later x
    at_return reply true named uncommitted p = none p
    at_return reply false named uncommitted p = returns reply (the_event p)
        (record {
          kind = named;
          none = uncommitted;
          caller = the_caller p;
          position = the_position p;
        })

    at_commit : (o : Option Called) → Committing e.kind → open_call e.caller earlier ≡ o
        → option_map (waiting_of place) (option_map (commit_of (next_reply e.caller later)) o)
        ≡ Some x → Waits e earlier later x
    at_commit None committing opened p = none p
    at_commit (Some called) committing opened p = commits called.method called.args
        (next_reply e.caller later) (the_event p)
        (record {
          commits = committing;
          opened = opened;
          replies = refl;
          caller = the_caller p;
          position = the_position p;
        })

    committing_as : {kind : Kind} → e.kind ≡ kind → Committing kind → Committing e.kind
    committing_as named c = subst Committing (sym named) c

    by_kind : (kind : Kind) → e.kind ≡ kind → option_map (waiting_of place) (event_of place kind)
        ≡ Some x → Waits e earlier later x
    by_kind (Call method args) named p = at_call method args (must_commit method) named refl p
    by_kind (Return reply) named p = at_return reply (has_committed e.caller earlier) named refl p
    by_kind Commit named p = at_commit (open_call e.caller earlier) (committing_as named alone) refl
        p
    by_kind BlockCommit named p = at_commit (open_call e.caller earlier)
        (committing_as named with_block) refl p
    by_kind (Write word value) named p = none p
    by_kind BlockOpen named p = none p
    by_kind BlockClose named p = none p

-- an entry that isn't judged isn't a commit
pub uncommitted : (h : Header) (e : Entry) (earlier later : List Entry) → broken_rule h earlier e
    ≡ None → waiting_at (place_of e earlier later) ≡ None
    → is_commit e.kind ≡ false
uncommitted h e earlier later keeps quiet = by_kind e.kind keeps quiet
  where
    c : ℕ
    c = e.caller

    at_commit : {A : Type 0} (kind : Kind) (o : Option Called) (reply : Option ℕ)
        → (called : Called) × (o ≡ Some called) × (is_observer called.method ≡ false)
        → option_map (waiting_of (place_of (entry c kind) earlier later))
        (option_map (commit_of reply) o) ≡ None → A
    at_commit kind None reply runs none = absurd (apart runs.1)
      where
        apart : None ≡ Some runs.0 → ⊥
        apart p = cc
    at_commit kind (Some called) reply runs none = absurd (apart none)
      where
        apart : Some (waiting_of (place_of (entry c kind) earlier later) (commit_of reply called))
            ≡ None → ⊥
        apart p = cc

    by_kind : (kind : Kind) → broken_rule h earlier (entry c kind) ≡ None
        → waiting_at (place_of (entry c kind) earlier later) ≡ None
        → is_commit kind ≡ false
    by_kind Commit keeps' none = at_commit Commit (open_call c _) _ (commit_kept h c _ keeps') none
    by_kind BlockCommit keeps' none = at_commit BlockCommit (open_call c _) _
        (block_commit_runs h c _ keeps') none
    by_kind (Call method args) keeps' none = refl
    by_kind (Return reply) keeps' none = refl
    by_kind (Write word value) keeps' none = refl
    by_kind BlockOpen keeps' none = refl
    by_kind BlockClose keeps' none = refl
