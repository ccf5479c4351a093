-- What all workers together leave.
use Rattle.vyrd_live.proofs.Prelude
use Prelude.{◌≡◌, ℕ, ◌<◌, List, [], ◌∷◌, map, length, true, Option, Some, None, ap, ◌∙◌, sym, subst}
use Prelude.{arith, slice_index, slice_index_or, IfSome, All, get_or-map, length-map, get_or_past}
use Prelude.{Header, Did, Stamped, is_legal, Script, stop, script_of, part, cells_in, TracedView}
use Prelude.{HandView, IsOf, AreAll, Ending, Finished, Worker, Stopped, HasEnded, IsFirstSpent}
use Prelude.{dids_of, HasWorked, AreMadeFor, done_by, HavePlayed}
use Rattle.vyrd_live.proofs.Parts.{done_by-part, nothing_done}
use Rattle.vyrd_live.proofs.EndingLaws.{played}

-- an element of a list that has one at a place
pub element_of : {A : Type 0} (xs : List A) (i : ℕ) → i < length xs → A
element_of [] i low = absurd (omega (arith, low))
element_of (x ∷ xs) i low = x

-- the hands, the endings, and what the workers were
abbrev pub hands : List Stopped → List HandView
hands stopped = map (λ (s : Stopped). s.hand) stopped

abbrev pub endings : List Stopped → List Ending
endings stopped = map (λ (s : Stopped). s.ending) stopped

abbrev pub first_hands : {M : Type 0} → List (Worker M) → List HandView
first_hands workers = map (λ w. w.hand) workers

-- each worker has worked, and left what stands at its place
abbrev pub HaveWorked : {M : Type 0} → (M → Header) → (M → Script) → (M → ℕ) → TracedView
    → List (Worker M) → List Stopped → Type 0
HaveWorked {M} header_of script ahead traced workers stopped = (i : ℕ) (w : Worker M) (s : Stopped)
    → i < length workers
    → HasWorked header_of script ahead traced (slice_index_or workers i w).machine
    (slice_index_or workers i w).hand (slice_index_or stopped i s).hand
    (slice_index_or stopped i s).ending

-- what is left of each worker's hand
hand_left : {M : Type 0} (header_of : M → Header) (script : M → Script) (ahead : M
    → ℕ) (traced : TracedView) (workers : List (Worker M)) (stopped : List Stopped)
    → HaveWorked header_of script ahead traced workers stopped → length stopped ≡ length workers
    → AreAll traced (first_hands workers)
    → (i : ℕ) (d : HandView) → i < length workers
    → IsOf traced (slice_index_or (hands stopped) i d)
    × ((slice_index_or (hands stopped) i d).caller ≡ i)
hand_left header_of script ahead traced workers stopped worked count all i d low =
    let w = element_of workers i low in
    let s : Stopped = record { hand = d; ending = Finished } in
    let here = worked i w s low in
    let now : slice_index_or (hands stopped) i d ≡ (slice_index_or stopped i s).hand =
    get_or-map _ _ i s d (omega (arith, low, count)) in
    let before : slice_index_or (first_hands workers) i d ≡ (slice_index_or workers i w).hand =
    get_or-map _ _ i w d low in
    let was = (all.1 i d (omega (arith, low, length-map workers (λ (w : _). w.hand)))).1 in
    rw now (here.hand_of, cc here.caller)

-- the hands come back in the order of their callers
pub all_hands : {M : Type 0} (header_of : M → Header) (script : M → Script) (ahead : M
    → ℕ) (traced : TracedView) (workers : List (Worker M)) (stopped : List Stopped)
    → HaveWorked header_of script ahead traced workers stopped → length stopped ≡ length workers
    → AreAll traced (first_hands workers) → AreAll traced (hands stopped)
all_hands header_of script ahead traced workers stopped worked count all =
    let a = length-map stopped (λ (s : Stopped). s.hand) in
    let b = length-map workers (λ (w : _). w.hand) in (
      a ∙ count ∙ sym b ∙ all.0,
      λ i d low. hand_left header_of script ahead traced workers stopped worked count all i d
          (omega (arith, low, a, count)),
    )

-- how the worker of a caller ended, by what the history has of the caller
ended_at : {M : Type 0} (header_of : M → Header) (script : M → Script) (ahead : M → ℕ)
    (traced : TracedView) (h : Header) (workers : List (Worker M))
    (stopped : List Stopped) (history : List Stamped)
    → HaveWorked header_of script ahead traced workers stopped → length stopped ≡ length workers
    → AreAll traced (first_hands workers)
    → All (λ (hand : HandView). part hand.caller history ≡ hand.lane) (hands stopped)
    → AreMadeFor h (map (λ w. header_of w.machine) workers)
    → (c : ℕ) → c < length workers
    → HasEnded h traced.plan.limit (script_of (map (λ w. script w.machine) workers) c)
    (slice_index_or (endings stopped) c Finished) (done_by c history)
ended_at header_of script ahead traced h workers stopped history worked count all parts made c low =
    let w = element_of _ c low in
    let d = (element_of workers c low).hand in
    let s : Stopped = record { hand = d; ending = Finished } in
    let here = worked c w s low in
    let now : slice_index_or (hands stopped) c d ≡ (slice_index_or stopped c s).hand =
    get_or-map _ _ c s d (omega (arith, low, count)) in
    let ending : slice_index_or (endings stopped) c Finished ≡ (slice_index_or stopped c s).ending =
    get_or-map (λ (s : Stopped). s.ending) stopped c s Finished (omega (arith, low, count)) in
    let own : script_of (map (λ w. script w.machine) workers) c
    ≡ script (slice_index_or workers c w).machine = get_or-map (λ (w : _). script _) workers c w
    stop low in
    let header : header_of (slice_index_or workers c w).machine ≡ h = sym (get_or-map _ _ c w h low)
    ∙ made.each c h (omega (arith, low, length-map workers (λ (w : _). header_of w.machine))) in
    let caller =
    (hand_left header_of script ahead traced workers stopped worked count all c d low).1 in
    let part_is = parts c d
    (omega (arith, low, count, length-map stopped (λ (s : Stopped). s.hand))) in
    let lane : part c history ≡ (slice_index_or stopped c s).hand.lane = cc in
    let done : done_by c history ≡ dids_of (slice_index_or stopped c s).hand.lane = done_by-part c _
    ∙ ap dids_of lane in
    subst (λ (x : Header × Script × Ending × List Did). HasEnded x.0 traced.plan.limit x.1 x.2 x.3)
    (λ i. (header i, sym own i, sym ending i, sym done i)) here.ended

-- how all workers played
pub all_played : {M : Type 0} (header_of : M → Header) (script : M → Script) (ahead : M
    → ℕ) (traced : TracedView) (h : Header) (workers : List (Worker M))
    (stopped : List Stopped) (history : List Stamped) (first : Option ℕ)
    → HaveWorked header_of script ahead traced workers stopped → length stopped ≡ length workers
    → AreAll traced (first_hands workers)
    → is_legal (cells_in traced.plan) history ≡ true
    → All (λ (hand : HandView). part hand.caller history ≡ hand.lane) (hands stopped)
    → AreMadeFor h (map (λ w. header_of w.machine) workers)
    → IsFirstSpent (endings stopped) (length stopped) first
    → HavePlayed h traced.plan.limit (map (λ w. script w.machine) workers) history first
all_played header_of script ahead traced h workers stopped history first worked count all legal
    parts made is =
    let scripts = map (λ w. script w.machine) workers in
    let callers : length workers ≡ h.callers = sym (length-map _ _) ∙ made.count in
    let plan : traced.plan.callers ≡ length workers = sym all.0 ∙ length-map _ _ in
    played h traced.plan.limit _ history (endings stopped) _
    (record {
      each = λ c low. ended_at header_of script ahead traced h workers stopped history
          worked count all parts made c (omega (arith, low, callers));
      others = λ c out. (
        get_or_past _ c _
            (omega (arith, out, callers, length-map workers (λ (w : _). script w.machine))),
        nothing_done (cells_in traced.plan) c history legal (omega (arith, out, callers, plan)),
      );
    }) (rw (← count ∙ callers) is)

-- the machine of the first that was spent had more events before it than the limit allows
pub first_is_long : {M : Type 0} (header_of : M → Header) (script : M → Script) (ahead : M → ℕ)
    (traced : TracedView) (workers : List (Worker M))
    (stopped : List Stopped) (first : Option ℕ)
    → HaveWorked header_of script ahead traced workers stopped → length stopped ≡ length workers
    → IsFirstSpent (endings stopped) (length stopped) first
    → IfSome first
    (λ caller. traced.plan.limit < slice_index (map (λ (w : Worker M). ahead w.machine) workers)
    caller)
first_is_long header_of script ahead traced workers stopped None worked count is = tt
first_is_long header_of script ahead traced workers stopped (Some first) worked count is =
    let here : first < length workers = let low = is.0 in omega (arith, low, count) in
    let w = element_of workers first here in
    let s : Stopped = record { hand = w.hand; ending = Finished } in
    rw (get_or-map (λ (w : _). ahead w.machine) workers first w 0 here)
    ((worked first w s here).long
    (sym (get_or-map (λ (s : Stopped). s.ending) stopped first s Finished is.0) ∙ is.1))
