-- Workers that haven't begun: those of a workload's callers.
use Rattle.vyrd_live.proofs.Prelude
use Prelude.{◌≡◌, ℕ, suc, ◌+◌, ◌<◌, ◌≤◌, List, [], ◌∷◌, map, length, refl, ap, ◌∙◌, sym, arith}
use Prelude.{slice_index, slice_index_or, Option, None, Result, IfOk, IfSome, All, get_or-map}
use Prelude.{length-map, All-map, Header, Stamped, numbers_from, numbers_below, Script, is_between}
use Prelude.{bounds_of, element_below, TracedView, HandView, AreNew, AreAll, Workload, KeepsLimits}
use Prelude.{ops_of, work_script, work_scripts, IsCorrectWithFewEvents, most_few_events, few_events}
use Prelude.{Worker, HavePlayed, IsFresh, IsWorkerOf, AreMadeFor, work_bounds, IsMemoryOf}
use Rattle.vyrd_memory.specs.Laws.Player.{operations-between}
use Rattle.vyrd_live.proofs.WorkerLists.{first_hands}

-- each worker has the machine of its hand's caller
abbrev pub AreWorkersOf : {M : Type 0} → (M → Header) → (M → Script) → (M → ℕ) → Workload
    → List (Worker M) → Type 0
AreWorkersOf {M} header_of script ahead w workers =
    All (λ (x : Worker M). IsWorkerOf header_of script ahead w x.machine x.hand) workers

-- the hand at a place, by the list of the hands
hand_at : {M : Type 0} (workers : List (Worker M)) (hands : List HandView) (i : ℕ) (d : Worker M)
    → first_hands workers ≡ hands → i < length workers
    → slice_index_or hands i d.hand ≡ (slice_index_or workers i d).hand
hand_at workers hands i d same low = ap (λ (hands : List HandView). slice_index_or hands i d.hand)
    (sym same)
    ∙ get_or-map (λ (x : _). x.hand) workers i d d.hand low

how_many : {M : Type 0} (workers : List (Worker M)) (hands : List HandView) → first_hands workers
    ≡ hands → length workers ≡ length hands
how_many workers hands same = search (length-map, arith)

-- none of them has begun
pub all_fresh : {M : Type 0} (header_of : M → Header) (script : M → Script) (ahead : M
    → ℕ) (traced : TracedView) (w : Workload) (workers : List (Worker M))
    (hands : List HandView)
    → AreNew traced 0 hands → first_hands workers ≡ hands
    → AreWorkersOf header_of script ahead w workers → IsMemoryOf w.header traced.plan
    → All (λ (x : Worker M). IsFresh header_of script traced x.machine x.hand) workers
all_fresh header_of script ahead traced w workers hands new same made memory = λ i d low.
    let x = slice_index_or workers i d in
    let is = made i d low in
    let fresh = new i _ (omega (arith, low, how_many workers hands same)) in
    let hand = hand_at _ _ i d same low in
    record {
      hand_of = rw (← hand) fresh.0;
      empty = cc fresh.3;
      kept = cc fresh.4;
      between = ap is_between is.script_is ∙ operations-between _ _;
      memory = rw is.header memory;
    }

-- they have all hands, in the order of their callers
pub all_callers : {M : Type 0} (traced : TracedView) (workers : List (Worker M))
    (hands : List HandView) → AreNew traced 0 hands
    → length hands ≡ traced.plan.callers
    → first_hands workers ≡ hands
    → AreAll traced (first_hands workers)
all_callers traced workers hands new count same = grind arith

-- the caller of the worker at a place
caller_at : {M : Type 0} (traced : TracedView) (workers : List (Worker M)) (hands : List HandView)
    → AreNew traced 0 hands
    → first_hands workers ≡ hands
    → (i : ℕ) (d : Worker M) → i < length workers → (slice_index_or workers i d).hand.caller ≡ i
caller_at traced workers hands new same i d low =
    let fresh = new i d.hand (omega (arith, low, how_many workers hands same)) in
    let e : 0 + i ≡ i = omega arith in
    ap (λ (v : HandView). v.caller) (sym (hand_at workers hands i d same low)) ∙ fresh.1 ∙ e

all_from : {M B : Type 0} (of : M → B) (f : ℕ → B) (k : ℕ) (workers : List (Worker M))
    → ((i : ℕ) (d : Worker M) → i < length workers → of (slice_index_or workers i d).machine
    ≡ f (k + i))
    → map (λ (x : Worker M). of x.machine) workers ≡ map f (numbers_from k (length workers))
all_from of f k [] each = refl
all_from of f k (x ∷ workers) each =
    let first : k + 0 ≡ k = omega arith in
    ap (λ y. y ∷ map (λ (x : _). of x.machine) workers) (each 0 x (omega arith) ∙ ap f first)
    ∙ ap (λ rest. f k ∷ rest)
    (all_from of f (k + 1) workers (λ i d low. let e : k + suc i ≡ k + 1 + i = omega arith in
    each _ d (omega (arith, low)) ∙ ap f e))

-- their scripts are those of the workload
pub scripts_are : {M : Type 0} (header_of : M → Header) (script : M → Script) (ahead : M
    → ℕ) (traced : TracedView) (w : Workload) (workers : List (Worker M))
    (hands : List HandView)
    → AreNew traced 0 hands → first_hands workers ≡ hands
    → AreWorkersOf header_of script ahead w workers → length hands ≡ w.header.callers
    → map (λ (x : Worker M). script x.machine) workers ≡ work_scripts w
scripts_are header_of script ahead traced w workers hands new same made count =
    all_from script (work_script w) 0 workers (λ i d low.
    let e : i ≡ 0 + i = omega arith in (made i d low).script_is
    ∙ ap (work_script w) (caller_at traced workers hands new same i d low ∙ e))
    ∙ ap (λ n. map (work_script w) (numbers_below n)) (how_many workers hands same ∙ count)

-- their machines were made for the workload's header
pub all_made : {M : Type 0} (header_of : M → Header) (script : M → Script) (ahead : M
    → ℕ) (w : Workload) (workers : List (Worker M)) (hands : List HandView)
    → first_hands workers ≡ hands → AreWorkersOf header_of script ahead w workers → length hands
    ≡ w.header.callers
    → AreMadeFor w.header (map (λ (x : Worker M). header_of x.machine) workers)
all_made header_of script ahead w workers hands same made count = record {
  count = length-map workers (λ (x : _). header_of x.machine) ∙ how_many workers hands same ∙ count;
  each = All-map (λ (header : Header). header ≡ w.header) (λ (x : _). header_of x.machine) workers
      (λ i d low. (made i d low).header);
}

-- the bounds of their machines are those of the callers' operations
pub bounds_are : {M : Type 0} (header_of : M → Header) (script : M → Script) (ahead : M
    → ℕ) (traced : TracedView) (w : Workload) (workers : List (Worker M))
    (hands : List HandView)
    → AreNew traced 0 hands → first_hands workers ≡ hands
    → AreWorkersOf header_of script ahead w workers → length hands ≡ w.header.callers
    → map (λ (x : Worker M). ahead x.machine) workers ≡ work_bounds w
bounds_are header_of script ahead traced w workers hands new same made count =
    let bound : ℕ → ℕ = λ c. bounds_of w.header (ops_of c w.ops) in
    all_from ahead bound 0 workers (λ i d low.
    let e : i ≡ 0 + i = omega arith in (made i d low).bound
    ∙ ap bound (caller_at traced workers hands new same i d low ∙ e))
    ∙ ap (λ n. map bound (numbers_below n)) (how_many workers hands same ∙ count)

-- so the limit is below that of a caller whose machine had no room
pub too_low_at : (w : Workload) (aheads : List ℕ) (limit own : ℕ) (first : Option ℕ) → own ≡ limit
    → aheads ≡ work_bounds w
    → IfSome first (λ caller. own < slice_index aheads caller)
    → IfSome first (λ caller. caller < w.header.callers)
    → IfSome first (λ caller. limit < bounds_of w.header (ops_of caller w.ops))
too_low_at w aheads limit own first same are long low = search (element_below, arith)

-- the caller that ended a run is one of the header's
pub in_range : (h : Header) (limit : ℕ) (scripts : List Script) (history : List Stamped)
    (first : Option ℕ) → HavePlayed h limit scripts history first
    → IfSome first (λ caller. caller < h.callers)
in_range h limit scripts history first is = search arith

pub both_ok : {A E : Type 0} {P Q R : A → Type 0} (r : Result A E) → IfOk r P → IfOk r Q
    → ((x : A) → P x → Q x → R x) → IfOk r R
both_ok r first second step = search arith

-- where operations have few events no caller is spent
pub is_unspent : (w : Workload) (limit : ℕ) (spent : Option ℕ) → KeepsLimits w
    → IsCorrectWithFewEvents w → most_few_events ≤ limit
    → IfSome spent (λ caller. limit < bounds_of w.header (ops_of caller w.ops)) → spent ≡ None
is_unspent w limit spent limits is enough long = search (few_events, arith)
