-- A table whose records are one at rest has one history, of which the hands' lanes are the parts.
use Rattle.vyrd_trace.proofs.Prelude
use Prelude.{◌≡◌, ℕ, zero, suc, ◌+◌, ◌*◌, ◌/◌, ◌<◌, ◌≤◌, List, [], ◌∷◌, ◌++◌, map, length, get_or}
use Prelude.{true, Option, Some, None, refl, sym, ap, ◌∙◌, subst, arith, take, drop, slice_get}
use Prelude.{slice_index, slice_index_or, All, sum_by, length-map, take_all, drop_all, append-nil}
use Prelude.{sum_by_more, State, Final, Seen, Stamped, numbers_from, part, last_value, last_values}
use Prelude.{cells_in, Record, Plan, Lane, Rest, Ghost, FitsCell, HasLane, Knows, TraceKept}
use Prelude.{own_lane, HandView, lanes_of, own_lane_of, own_lanes, IsMerge, AreTwice, HasHistory}
use mathlib.Core.Logic.{dite}
use mathlib.Core.Option.{some}
use native.Mathlib.Decide.{dec_lt}
use lib.ListN.{get_elem?}
use Rattle.vyrd_trace.proofs.Parts.{below, below_more, below_none, below_all}
use Rattle.vyrd_trace.proofs.HistoryGrows.{numbered}

-- each hand's lane is its caller's part
abbrev pub AreParts : List Stamped → List HandView → Type 0
AreParts h hs = All (λ (hand : HandView). part hand.caller h ≡ hand.lane) hs

abbrev St : Type 0
St = State (Unit {0}) Record

-- the hand at place c, with its lane
lane_at : (hs : List HandView) (c : ℕ) → c < length hs
    → (h : HandView) × (slice_get (own_lanes hs) c ≡ Some (own_lane_of h))
    × (slice_index_or (lanes_of hs) c [] ≡ h.lane)
    × ((d : HandView) → slice_index_or hs c d ≡ h)
lane_at [] c l = absurd (omega arith)
lane_at (h ∷ hs) zero l = (h, refl, refl, λ d. refl)
lane_at (h ∷ hs) (suc c) l = lane_at hs c (omega arith)

-- a seat at rest has its own lane and those that it gathered
has_any : (n : ℕ) (g : Ghost) (id : ℕ) (v : Record) → v.stage ≡ Rest → Knows n g id v
    → (i : ℕ) (l : Lane)
    → slice_get (own_lane v ∷ v.gathered) i ≡ Some l → HasLane g id l
has_any n g id v rest k zero l e = grind arith
has_any n g id v rest k (suc i) l e = k.others i l e

module _ (p : Plan) (s : St) (r : TraceKept p s) (id : ℕ) (v : Record) (hs : List HandView)
    (at : get_elem? s.views id
    ≡ some v) (live : v.live ≡ true) (rest : v.stage ≡ Rest)
    (all : own_lane v ∷ v.gathered ≡ own_lanes hs) (count : length hs ≡ p.callers)
    (order : (i : ℕ) (d : HandView) → i < length hs
    → (slice_index_or hs i d).caller ≡ i) where
  abbrev G : Ghost
  G = r.ghost_state

  -- the one seat has the lane of every hand
  has : (c : ℕ) → c < length hs → (h : HandView) × (HasLane G id (own_lane_of h)) × (h.caller ≡ c)
      × (slice_index_or (lanes_of hs) c [] ≡ h.lane) × ((d : HandView) → slice_index_or hs c d ≡ h)
  has c l = let f = lane_at _ c l in (
    f.0,
    has_any p.callers G _ v rest (r.seats _ v at live) c _
        (cc f.1),
    cc (f.3 f.0, order c f.0 l),
    f.2,
    f.3,
  )

  -- no caller has an action in hand
  rests : (c : ℕ) → G.stage c ≡ Rest
  rests c = dite (dec_lt c _) (λ l. let f = has c l in ap G.stage (sym f.2) ∙ f.1.rests)
      (λ no. (r.idle c (r.outside c (omega arith))).1)

  pub are_parts : AreParts G.history hs
  are_parts k d l = let f = has k l in rw (f.4 d) f.1.whole

  pub are_twice : AreTwice p G.history s.words
  are_twice k l = by_claimer (G.claimer k) (r.cells k l)
    where
      by_claimer : (o : Option ℕ) → FitsCell p.plain G.stage k (slice_index s.words (k + 1))
          (last_value G.history k) o
          → slice_index s.words (k + 1) ≡ 2 * last_value G.history k
      by_claimer None fits = fits
      by_claimer (Some c) fits = search (rests, arith)

abbrev pub size : HandView → ℕ
size h = length h.lane

-- the events of the first n callers are as many as their lanes have
sums : (hs : List HandView) (h : List Stamped)
    → ((c : ℕ) → c < length (lanes_of hs) → part c h ≡ slice_index_or (lanes_of hs) c []) → (n : ℕ)
    → n ≤ length hs
    → below n h ≡ sum_by size (take n hs)
sums hs h parts zero l = below_none h
sums hs h parts (suc n) l =
    let at = lane_at hs n (omega arith) in
    let m = length-map hs (λ (v : HandView). v.lane) in
    let one : length (part n h) ≡ size at.0 = ap length (parts n (omega arith) ∙ at.2) in
    let item : get_or hs n at.0 ≡ at.0 = at.3 at.0 in
    let more = sum_by_more size hs n at.0 (omega arith) in
    let so_far = sums hs h parts n (omega arith) in
    let b = below_more n h in
    let up : suc n ≡ n + 1 = omega arith in
    let same : size (get_or hs n at.0) ≡ size at.0 = ap size item in
    let goal : below (suc n) h ≡ sum_by size (take (n + 1) hs) = omega arith in cc

-- the history is as long as the lanes together
pub total_length : (hs : List HandView) (h : List Stamped) → IsMerge h (lanes_of hs) → length h
    ≡ sum_by size hs
total_length hs h m =
    let all = below_all (length hs) h
    (λ i e at. let x = (m.placed i e at).1 in let n = length-map hs (λ (v : HandView). v.lane) in
    omega arith) in
    sym all ∙ sums hs h m.parts (length hs) (omega arith)
    ∙ ap (sum_by size) (take_all (length hs) hs (omega arith))

-- a list whose element at each place is a function of the place
from_places : (f : ℕ → ℕ) (k : ℕ) (ws : List ℕ)
    → ((j : ℕ) → j < length ws → slice_index ws j ≡ f (k + j))
    → ws ≡ map f (numbers_from k (length ws))
from_places f k [] each = refl
from_places f k (x ∷ xs) each =
    let first : k + 0 ≡ k = omega arith in
    let head : x ≡ f k = each 0 (omega arith) ∙ ap f first in
    let tail = from_places f (k + 1) xs (λ j l. let next : k + suc j ≡ (k + 1) + j = omega arith in
    each (suc j) (omega arith) ∙ ap f next) in
    λ i. head i ∷ tail i

-- the halves of the words are the last values
pub halved : (p : Plan) (h : List Stamped) (words halves : List ℕ) → AreTwice p h words
    → length halves ≡ p.plain + p.locks
    → ((k : ℕ) → k < p.plain + p.locks → slice_index halves k ≡ slice_index words (k + 1) / 2)
    → halves ≡ last_values p h
halved p h words halves twice long half = grind (arith, halves, twice, long, from_places)

-- A closed table has a history: a legal one, of which each hand's lane is its caller's part, and
-- each word is twice the
-- last value.
pub has_history : (p : Plan) (words halves : List ℕ) (slots : List (Unit {0})) (id : ℕ) (v : Record)
    (hs : List HandView)
    → Final (Seen (TraceKept p) id v) words slots → v.live ≡ true → v.stage ≡ Rest
    → own_lane v ∷ v.gathered ≡ own_lanes hs
    → length hs ≡ p.callers
    → ((i : ℕ) (d : HandView) → i < length hs → (slice_index_or hs i d).caller ≡ i)
    → length halves ≡ p.plain + p.locks
    → ((k : ℕ) → k < p.plain + p.locks → slice_index halves k ≡ slice_index words (k + 1) / 2)
    → HasHistory p hs halves
has_history p words halves slots id v hs f live rest all count order long half =
    let s = f.0 in
    let r = f.1.0 in
    let at = f.1.1 in
    let h = r.ghost_state.history in
    let twice = subst (AreTwice p h) f.2 (are_twice p s r id v hs at live rest all count order) in
    record {
      history = h;
      legal = r.legal;
      parts = are_parts p s r id v hs at live rest all count order;
      words_are = halved p h words halves twice long half;
    }

-- The lanes of all hands are merged in it, and it is as long as they are together.
pub is_merge : (p : Plan) (words : List ℕ) (hs : List HandView) → length hs ≡ p.callers
    → ((i : ℕ) (d : HandView) → i < length hs → (slice_index_or hs i d).caller ≡ i)
    → (one : HasHistory p hs words)
    → IsMerge one.history (lanes_of hs) × (length one.history ≡ sum_by size hs)
is_merge p words hs count order one = (merge, total_length hs one.history merge)
  where
    many : length (lanes_of hs) ≡ length hs
    many = length-map hs (λ (h : HandView). h.lane)

    merge : IsMerge one.history (lanes_of hs)
    merge = record {
      placed = λ i e q. let n = numbered (cells_in p) one.history one.legal i e q in
          let x = n.1 in
          let m = many in (n.0, omega arith);
      parts = λ c l.
          let m = many in
          let inside : c < length hs = omega arith in
          let at = lane_at hs c inside in
          cc (order c at.0 inside, one.parts c at.0 inside, at.3 at.0, at.2);
    }

-- what a slice of a `Vec` that was lent whole writes back
pub back : (len : ℕ) (new old : List Stamped) → length new ≡ length old → len ≡ length old
    → take len (new ++ drop (length new) old) ≡ new
back len new old same is =
    cc (drop_all (length new) old (omega arith), append-nil new, take_all len new (omega arith))
