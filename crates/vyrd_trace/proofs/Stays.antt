-- A step of one seat changes what that seat's caller knows, and leaves what the others know.
use Rattle.vyrd_trace.proofs.Prelude.{◌≡◌, ◌≢◌, ℕ, ◌+◌, ◌<◌, ◌≤◌, List, length, set, true, Option}
use Rattle.vyrd_trace.proofs.Prelude.{Some, refl, sym, ap, ◌∙◌, subst, ⊎_elim, arith, slice_index}
use Rattle.vyrd_trace.proofs.Prelude.{State, keeps, stepped, at_set, Stamped, is_legal, Plan, Look}
use Rattle.vyrd_trace.proofs.Prelude.{Record, Lane, Stage, part, AreBelow, last_value, cells_in}
use Rattle.vyrd_trace.proofs.Prelude.{Ghost, IsAt, FitsCell, HasLane, Knows, TraceKept}
use mathlib.Core.Logic.{dite}
use mathlib.Core.Option.{some}
use native.Mathlib.Decide.{ℕ_discrete}
use lib.ListN.{get_elem?}
use Rattle.vyrd_trace.proofs.Parts.{part_below}

abbrev pub St : Type 0
St = State (Unit {0}) Record

-- two ghost states that differ at one caller alone
pub record Same (g h : Ghost) (by : ℕ) : Type 0 where
  pub owners : (c : ℕ) → h.owner c ≡ g.owner c
  pub parts : (c : ℕ) → c ≢ by → part c h.history ≡ part c g.history
  pub stages : (c : ℕ) → c ≢ by → h.stage c ≡ g.stage c

-- another caller's lane stays where it is
lane_stays : (g h : Ghost) (by seat : ℕ) (l : Lane) → Same g h by → l.caller ≢ by → HasLane g seat l
    → HasLane h seat l
lane_stays g h by seat l same apart has = search arith

-- what is owned by another seat is another caller's
pub apart_from : (g : Ghost) (by c id j : ℕ) → g.owner by ≡ Some id → g.owner c ≡ Some j → j ≢ id
    → c ≢ by
apart_from g by c id j a b differ e = let f : g.owner c ≡ g.owner by = ap g.owner e in differ (cc)

-- what the record of another seat knows stays true
knows_stays : (n : ℕ) (g h : Ghost) (by id j : ℕ) (u : Record) → Same g h by → g.owner by ≡ Some id
    → j ≢ id → Knows n g j u → Knows n h j u
knows_stays n g h by id j u same mine differ k = let no = apart_from g by u.caller id j mine k.owned
    differ in record {
      owned = same.owners u.caller ∙ k.owned;
      whole = same.parts u.caller no ∙ k.whole;
      at_stage = same.stages u.caller no ∙ k.at_stage;
      in_range = k.in_range;
      others = λ i l e. lane_stays g h by j l same
          (apart_from g by l.caller id j mine (k.others i l e).owned differ) (k.others i l e);
      apart = k.apart;
      unmade = λ z c le. same.owners c ∙ k.unmade z c le;
    }

-- a record with another lane, action in hand and looks
abbrev pub changed : Record → List Stamped → Stage → Look → Record
changed v lane st look = record {
  live = v.live;
  caller = v.caller;
  next = v.next;
  lane = lane;
  gathered = v.gathered;
  stage = st;
  look = look;
}

-- the record of the seat that steps knows its new lane and action
knows_changed : (n : ℕ) (g h : Ghost) (id : ℕ) (v : Record) (lane : List Stamped) (st : Stage)
    (look : Look) → Same g h v.caller
    → part v.caller h.history ≡ lane → h.stage v.caller ≡ st → Knows n g id v
    → Knows n h id (changed v lane st look)
knows_changed n g h id v lane st look same whole at_stage k = record {
  owned = same.owners v.caller ∙ k.owned;
  whole = whole;
  at_stage = at_stage;
  in_range = k.in_range;
  others = λ i l e. lane_stays g h v.caller id l same (k.apart i l e) (k.others i l e);
  apart = k.apart;
  unmade = λ z c le. same.owners c ∙ k.unmade z c le;
}

-- the new ghost state, and what it owes besides what the records know
pub record Turn (p : Plan) (words : List ℕ) (g h : Ghost) (v : Record) (lane : List Stamped)
    (st : Stage) : Type 0 where
  pub same : Same g h v.caller
  pub whole : part v.caller h.history ≡ lane
  pub at_stage : h.stage v.caller ≡ st
  pub wide : length words ≡ 1 + (p.plain + p.locks)
  pub counted : slice_index words 0 ≡ length h.history
  pub legal : is_legal (cells_in p) h.history ≡ true
  pub short : length lane ≤ p.limit
  pub claims : (by k : ℕ) → IsAt (h.stage by) k → h.claimer k ≡ Some by
  pub cells : (k : ℕ) → k < p.plain + p.locks → FitsCell p.plain h.stage k
      (slice_index words (k + 1)) (last_value h.history k) (h.claimer k)

-- A step of one seat keeps the rule where the new ghost state owes nothing. Every step of a single
-- seat goes through this.
pub turned : (p : Plan) (s : St) (r : TraceKept p s) (i n id : ℕ) (c : List (ℕ × Unit {0}))
    (v : Record)
    (lane : List Stamped)
    (st : Stage) (look : Look) (h : Ghost)
    → get_elem? s.views id ≡ some v → v.live ≡ true
    → Turn p (set s.words i n) r.ghost_state h v lane st
    → TraceKept p (stepped s i n id c (changed v lane st look) keeps)
turned p s r i n id c v lane st look h at live t =
    let g = r.ghost_state in
    let mine = r.seats id v at live in record {
      ghost_state = h;
      wide = t.wide;
      counted = t.counted;
      legal = t.legal;
      short = λ by. dite (ℕ_discrete by v.caller)
          (λ e. let a : length (part by h.history) ≡ length lane =
          cc t.whole in let b = t.short in omega arith)
          (λ e. let a : length (part by h.history) ≡ length (part by g.history) = ap length
          (t.same.parts by e) in let b = r.short by in omega arith);
      claims = t.claims;
      cells = t.cells;
      idle = λ by none_owns. let was = sym (t.same.owners by) ∙ none_owns in let old =
          r.idle by was in
          let no : by ≢ v.caller = λ e. let f : g.owner by ≡ g.owner v.caller = ap g.owner e in
          let m = mine.owned in absurd (cc) in
          (t.same.parts by no ∙ old.0, t.same.stages by no ∙ old.1);
      outside = λ by le. t.same.owners by ∙ r.outside by le;
      seats = λ j u e alive. ⊎_elim
          (λ (x : (j ≡ id) × (changed v lane st look ≡ u)). subst
          (λ (y : ℕ × Record). Knows p.callers h y.0 y.1)
          (λ q. (sym x.0 q, x.1 q))
          (knows_changed p.callers g h id v lane st look t.same t.whole t.at_stage mine))
          (λ (x : (j ≢ id) × (get_elem? s.views j ≡ some u)). knows_stays p.callers g h v.caller id
          j u t.same mine.owned x.0 (r.seats j u x.1 alive))
          (at_set s.views id j (changed v lane st look) u e);
    }

-- a cell with an equal word and an equal value
pub refit : (plain : ℕ) (stage : ℕ → Stage) (k w w' n n' : ℕ) (o : Option ℕ) → w' ≡ w → n' ≡ n
    → FitsCell plain stage k w n o
    → FitsCell plain stage k w' n' o
refit plain stage k w w' n n' o a b f = grind arith

-- a ghost state that stays
pub same_refl : (g : Ghost) (by : ℕ) → Same g g by
same_refl g by = record { owners = λ c. refl; parts = λ c _. refl; stages = λ c _. refl }

-- the numbers that a lane has are below the next one
pub below : (p : Plan) (s : St) (r : TraceKept p s) (v : Record)
    → part v.caller r.ghost_state.history
    ≡ v.lane → (n : ℕ)
    → n ≡ length r.ghost_state.history → AreBelow n v.lane
below p s r v whole n is = grind (arith, whole, part_below)
