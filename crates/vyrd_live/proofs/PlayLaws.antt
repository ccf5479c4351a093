-- All workers with their senders, and what came of each.
use Rattle.vyrd_live.proofs.Prelude
use Prelude.{◌≡◌, ℕ, ◌+◌, ◌<◌, List, ◌∷◌, length, map, sym, ap, ◌∙◌, subst, arith, slice_index_or}
use Prelude.{All, get_or-map, length-map, Header, Stamped, Script, part, TracedView, HandView}
use Prelude.{AreAll, RelayView, SenderView, HasAll, Worker, Stopped, Outbox, HasWorked, lanes_made}
use Rattle.std.proofs.lemmas.List.{ext_get_or}
use Rattle.vyrd_relay.specs.Ends.{AreNew}
use Rattle.vyrd_live.proofs.WorkerLists.{HaveWorked, element_of, hands}

abbrev pub Done : Type 0
Done = Stopped × Outbox

-- a fact of all images is one of all
pub of_images : {A B : Type 0} (f : A → B) (P : B → Type 0) (xs : List A) → All P (map f xs)
    → All (λ (x : A). P (f x)) xs
of_images f P xs all k d l = subst P (get_or-map f xs k d (f d) l)
    (all k (f d) (omega (arith, length-map xs f)))

-- two lists that are equal begin with the same, and go on with the same
pub same_first : (a b : ℕ) (xs ys : List ℕ) → a ∷ xs ≡ b ∷ ys → (a ≡ b) × (xs ≡ ys)
same_first a b xs ys e = (cc, cc)

-- the senders are those of the workers, one by one
pub same_callers : {M : Type 0} (traced : TracedView) (relay : RelayView) (n : ℕ)
    (workers : List (Worker M)) (ends : List SenderView)
    → AreAll traced (map (λ (w : Worker M). w.hand) workers) → length workers ≡ length ends
    → AreNew relay.queue n 0 ends
    → map (λ (w : Worker M). w.hand.caller) workers ≡ map (λ (s : SenderView). s.caller) ends
same_callers {M} traced relay n workers ends all count new =
    let a = length-map workers (λ (w : Worker M). w.hand.caller) in
    let b = length-map ends (λ (s : SenderView). s.caller) in
    let l = length-map workers (λ (w : Worker M). w.hand) in
    ext_get_or 0 _ _ (a ∙ count ∙ sym b) (λ i low.
    let here : i < length workers = omega (arith, low, a) in
    let there : i < length ends = omega (arith, here, count) in
    let w = element_of workers i here in
    let s = element_of ends i there in
    let first : 0 + i ≡ i = omega arith in
    get_or-map _ _ i w 0 here
    ∙ sym (ap (λ (v : HandView). v.caller)
    (get_or-map (λ (w : Worker M). w.hand) workers i w w.hand here))
    ∙ (all.1 i w.hand (omega (arith, here, l))).1 ∙ sym (cc (new i s there))
    ∙ sym (get_or-map _ _ i s 0 there))

-- each worker has worked, by what stands at its place
worked_each : {M : Type 0} (header_of : M → Header) (script : M → Script) (ahead : M → ℕ)
    (traced : TracedView)
    (jobs : List (Worker M × Outbox)) (done : List Done) → length done ≡ length jobs
    → ((i : ℕ) (j : Worker M × Outbox) (d : Done) → i < length jobs
    → HasWorked header_of script ahead traced
    (slice_index_or jobs i j).0.machine (slice_index_or jobs i j).0.hand
    (slice_index_or done i d).0.hand (slice_index_or done i d).0.ending)
    → HaveWorked header_of script ahead traced (map (λ (j : Worker M × Outbox). j.0) jobs)
    (map (λ (d : Done). d.0) done)
worked_each {M} header_of script ahead traced jobs done count each i w s low =
    let l : i < length jobs = omega (arith, length-map jobs (λ (j : Worker M × Outbox). j.0)) in
    let j = element_of _ i l in
    let d = element_of done i (omega (arith, l, count)) in
    let a = get_or-map (λ (j : Worker M × Outbox). j.0) _ i j w l in
    let b = get_or-map (λ (d : Done). d.0) done i d s (omega (arith, l, count)) in
    subst (λ (x : Worker M × Stopped). HasWorked header_of script ahead traced x.0.machine x.0.hand
    x.1.hand x.1.ending) (λ k. (sym a k, sym b k)) (each i j d l)

-- each worker has worked, by what its job left
pub worked_all : {M : Type 0} (header_of : M → Header) (script : M → Script) (ahead : M → ℕ)
    (traced : TracedView) (workers : List (Worker M))
    (jobs : List (Worker M × Outbox)) (done : List Done) (stopped : List Stopped)
    → map (λ (j : Worker M × Outbox). j.0) jobs ≡ workers
    → stopped ≡ map (λ (d : Done). d.0) done → length done ≡ length jobs
    → ((i : ℕ) (j : Worker M × Outbox) (d : Done) → i < length jobs
    → HasWorked header_of script ahead traced
    (slice_index_or jobs i j).0.machine (slice_index_or jobs i j).0.hand
    (slice_index_or done i d).0.hand (slice_index_or done i d).0.ending)
    → HaveWorked header_of script ahead traced workers stopped × (length stopped ≡ length workers)
worked_all {M} header_of script ahead traced workers jobs done stopped are left count each = (
  subst (λ (x : List (Worker M) × List Stopped). HaveWorked header_of script ahead traced x.0
      x.1) (λ i. (are i, sym left i)) (worked_each _ _ _ _ jobs done count each),
  ap (λ (xs : List Stopped). length xs) left ∙ length-map _ (λ (d : Done). d.0) ∙ count
      ∙ sym (length-map _ (λ (j : Worker M × Outbox). j.0))
      ∙ ap (λ (xs : List (Worker M)). length xs) are,
)

-- of each caller the events came that are its part of the history
pub same_parts : (traced : TracedView) (stopped : List Stopped) (had history : List Stamped)
    → AreAll traced (hands stopped)
    → All (HasAll had) (lanes_made stopped)
    → All (λ (hand : HandView). part hand.caller history ≡ hand.lane) (hands stopped)
    → (c : ℕ) → c < traced.plan.callers → part c had ≡ part c history
same_parts traced stopped had history all sent parts c low =
    let count = length-map stopped (λ (s : Stopped). s.hand) in
    let many = all.0 in
    let here : c < length stopped = omega (arith, low, many, count) in
    let s = element_of stopped c here in
    let own = subst (λ (v : HandView). v.caller ≡ c)
    (get_or-map (λ (s : Stopped). s.hand) stopped c s s.hand here)
    (all.1 c s.hand (omega (arith, here, count))).1 in
    let came = of_images (λ (s : Stopped). record { caller = s.hand.caller; items = s.hand.lane })
    (HasAll had) stopped sent c s here in
    let stands = of_images (λ (s : Stopped). s.hand) (λ (hand : HandView). part hand.caller history
    ≡ hand.lane) stopped parts c s here in
    subst (λ n. part n had ≡ part n history) own (came ∙ sym stands)
