-- A new table, a record for the next caller, and two records that become one.
use Rattle.vyrd_trace.proofs.Prelude
use Prelude.{◌≡◌, ◌≢◌, ℕ, zero, suc, ◌+◌, ◌<◌, ◌≤◌, List, [], ◌∷◌, ◌++◌, length, set, Bool, true}
use Prelude.{cond, eqb, Option, Some, None, refl, sym, ap, ◌∙◌, subst, ⊎_elim, arith, eq-eqb}
use Prelude.{ne_eqb, slice_get, at_set, Cells, is_legal, part, upd, upd_here, upd_else, cells_in}
use Prelude.{Record, Plan, Lane, Rest, first_record, own_lane, Ghost, HasLane, Knows, TraceKept}
use Rattle.std.proofs.Common.{◌⊎◌, replicate, inl, inr, true≢false}
use Rattle.std.proofs.lemmas.List.{get_or-replicate, length-replicate}
use mathlib.Core.Option.{some, some-injective, some-ne-none}
use lib.ListN.{get_elem?}
use Rattle.atomic_table.specs.Table.{Splits, Joins, opening}
use Rattle.vyrd_trace.specs.Records.{dealer, dealt, gathering, spent}
use Rattle.vyrd_trace.proofs.Stays.{apart_from}

no_lane : (i : ℕ) (l : Lane) → slice_get [] i ≡ Some l → ⊥
no_lane i l e = search arith

none_is_legal : (z : Cells) → is_legal z [] ≡ true
unfolding is_legal
none_is_legal z = refl

-- the rule holds of a new table
pub opens : (p : Plan) → 1 ≤ p.callers
    → TraceKept p (opening (replicate (1 + (p.plain + p.locks)) 0) [] first_record)
opens p some_caller = record {
  ghost_state = record {
    history = [];
    owner = upd (λ _. None) 0 (Some 0);
    stage = λ _. Rest;
    claimer = λ _. None;
  };
  wide = length-replicate (1 + (p.plain + p.locks)) 0;
  counted = get_or-replicate (1 + (p.plain + p.locks)) 0 0 0 (omega arith);
  legal = none_is_legal (cells_in p);
  short = λ c. omega arith;
  claims = λ c k h. absurd h;
  cells = λ k l. get_or-replicate (1 + (p.plain + p.locks)) (k + 1) 0 0 (omega arith) ∙ omega arith;
  idle = λ c e. (refl, refl);
  outside = λ c le. upd_else (λ _. None) 0 (Some 0) c (λ z. omega arith);
  seats = one;
}
  where
    one : (j : ℕ) (v : Record) → get_elem? (first_record ∷ []) j ≡ some v → v.live ≡ true
        → Knows p.callers
        (record {
          history = [];
          owner = upd (λ _. None) 0 (Some 0);
          stage = λ _. Rest;
          claimer = λ _. None;
        }) j v
    one zero v e live = search (upd_here, no_lane, upd_else, arith)
    one (suc j) v e live = absurd (some-ne-none v (sym e))

at_end : {A : Type 0} (l : List A) (a b : A) (j : ℕ) → get_elem? (l ++ a ∷ []) j ≡ some b
    → (get_elem? l j ≡ some b) ⊎ ((j ≡ length l) × (a ≡ b))
at_end [] a b zero e = inr (refl, some-injective a b e)
at_end [] a b (suc j) e = absurd (some-ne-none b (sym e))
at_end (x ∷ xs) a b zero e = inl e
at_end (x ∷ xs) a b (suc j) e = ⊎_elim (λ t. inl t) (λ t. inr (ap suc t.0, t.1)) (at_end xs a b j e)

-- the lanes of a seat where new owners are added
lane_kept : (g h : Ghost) (seat : ℕ) (l : Lane) → h.history ≡ g.history
    → ((c : ℕ) → h.stage c ≡ g.stage c)
    → (g.owner l.caller ≡ Some seat → h.owner l.caller ≡ Some seat) → HasLane g seat l
    → HasLane h seat l
lane_kept g h seat l same stages owns has = search arith

-- the record of a seat where new owners are added
knows_kept : (n : ℕ) (g h : Ghost) (j : ℕ) (u : Record) → h.history ≡ g.history
    → ((c : ℕ) → h.stage c ≡ g.stage c)
    → ((c : ℕ) → g.owner c ≡ Some j → h.owner c ≡ Some j)
    → (u.caller ≡ 0 → (c : ℕ) → u.next ≤ c → h.owner c ≡ None) → Knows n g j u → Knows n h j u
knows_kept n g h j u same stages owns unmade k = record {
  owned = owns u.caller k.owned;
  whole = ap (part u.caller) same ∙ k.whole;
  at_stage = stages u.caller ∙ k.at_stage;
  in_range = k.in_range;
  others = λ i l e. lane_kept g h j l same stages (owns l.caller) (k.others i l e);
  apart = k.apart;
  unmade = unmade;
}

-- the record of caller 0 makes one for the next caller
pub splits : (p : Plan) (id : ℕ) (v : Record) → v.live ≡ true → v.caller ≡ 0 → v.next < p.callers
    → Splits (TraceKept p) id v (dealer v) (dealt v)
splits p id v live zeroth room s r at =
    let g = r.ghost_state in
    let mine = r.seats id v at live in
    let views : List Record = set s.views id (dealer v) in
    let new : ℕ = length views in
    let free : g.owner v.next ≡ None = mine.unmade zeroth v.next (omega arith) in
    let idle = r.idle v.next free in
    let h : Ghost = record g { owner = upd g.owner v.next (Some new) } in
    let others = λ (c j : ℕ) (o : g.owner c ≡ Some j). let no : c ≢ v.next = λ e. let f : g.owner c
    ≡ g.owner v.next = ap g.owner e in absurd (cc) in upd_else g.owner v.next (Some new) c no ∙ o in
    let positive : v.next ≢ 0 = λ e. let f : g.owner v.next ≡ g.owner v.caller = ap g.owner
    (e ∙ sym zeroth) in
    let m = mine.owned in absurd (cc) in
    record {
      ghost_state = h;
      wide = r.wide;
      counted = r.counted;
      legal = r.legal;
      short = r.short;
      claims = r.claims;
      cells = r.cells;
      idle = λ c none_owns. let no : c ≢ v.next = λ e. let f : upd g.owner v.next (Some new) c
          ≡ Some new = upd_here g.owner v.next (Some new) c e in absurd (cc) in
          r.idle c (sym (upd_else g.owner v.next (Some new) c no) ∙ none_owns);
      outside = λ c le. upd_else g.owner v.next (Some new) c (λ e. omega arith) ∙ r.outside c le;
      seats = λ j u e alive. ⊎_elim
          (λ (x : get_elem? views j ≡ some u). ⊎_elim
          (λ (y : (j ≡ id) × (dealer v ≡ u)). subst (λ (z : ℕ × Record). Knows p.callers h z.0 z.1)
          (λ q. (sym y.0 q, y.1 q)) record {
            owned = others v.caller id mine.owned;
            whole = mine.whole;
            at_stage = mine.at_stage;
            in_range = mine.in_range;
            others = λ i l q. lane_kept g h id l refl (λ _. refl) (others l.caller id)
                (mine.others i l q);
            apart = mine.apart;
            unmade = λ z c le. upd_else g.owner v.next (Some new) c (λ q. omega arith)
                ∙ mine.unmade z c (omega arith);
          }) (λ (y : (j ≢ id) × (get_elem? s.views j ≡ some u)). let k = r.seats j u y.1 alive in
          knows_kept p.callers g h j u refl (λ _. refl) (λ c. others c j)
          (λ z. let f : g.owner u.caller ≡ g.owner v.caller = ap g.owner (z ∙ sym zeroth) in let a =
          k.owned in
          let b = mine.owned in absurd (y.0 (cc))) k) (at_set s.views id j (dealer v) u x))
          (λ (x : (j ≡ new) × (dealt v ≡ u)). subst (λ (z : ℕ × Record). Knows p.callers h z.0 z.1)
          (λ q. (sym x.0 q, x.1 q)) record {
            owned = upd_here g.owner v.next (Some new) v.next refl;
            whole = idle.0;
            at_stage = idle.1;
            in_range = room;
            others = λ i l q. absurd (no_lane i l q);
            apart = λ i l q. absurd (no_lane i l q);
            unmade = λ z. absurd (positive z);
          }) (at_end views (dealt v) u j e);
    }

slice_get_append : (xs ys : List Lane) (i : ℕ) (l : Lane) → slice_get (xs ++ ys) i ≡ Some l
    → (slice_get xs i ≡ Some l) ⊎ ((j : ℕ) × (slice_get ys j ≡ Some l))
slice_get_append [] ys i l e = inr (i, e)
slice_get_append (x ∷ xs) ys zero l e = inl e
slice_get_append (x ∷ xs) ys (suc i) l e = slice_get_append xs ys i l e

-- one seat gets what another owned
abbrev given : ℕ → ℕ → Option ℕ → Option ℕ
given other id None = None
given other id (Some j) = cond (eqb j other) (Some id) (Some j)

given_none : (other id : ℕ) (o : Option ℕ) → given other id o ≡ None → o ≡ None
given_none other id o e = grind arith

given_other : (other id : ℕ) → given other id (Some other) ≡ Some id
given_other other id = ap (λ (b : Bool). cond b (Some id) (Some other)) (eq-eqb other other refl)

given_else : (other id j : ℕ) → j ≢ other → given other id (Some j) ≡ Some j
given_else other id j apart = ap (λ (b : Bool). cond b (Some id) (Some j)) (ne_eqb j other apart)

-- a record takes in another's lanes, where that one is at rest
pub joins : (p : Plan) (id : ℕ) (v : Record) (other : ℕ) (w : Record) → v.live ≡ true
    → w.live ≡ true → w.stage ≡ Rest
    → Joins (TraceKept p) id v other w (gathering v w) spent
joins p id v other w live alive rest s r at differ there =
    let g = r.ghost_state in
    let mine = r.seats id v at live in
    let was : get_elem? s.views other ≡ some w = ⊎_elim
    (λ (t : (other ≡ id) × (gathering v w ≡ w)). absurd (differ t.0))
    (λ (t : (other ≢ id) × (get_elem? s.views other ≡ some w)). t.1) (at_set _ _ _ _ w there) in
    let theirs = r.seats other w was alive in
    let h : Ghost = record g { owner = λ c. given other id (g.owner c) } in
    let keeps = λ (c j : ℕ) (apart : j ≢ other) (o : g.owner c ≡ Some j). ap (given other id) o
    ∙ given_else _ _ j apart in
    let moves = λ (c : ℕ) (o : g.owner c ≡ Some other). ap (given _ id) o ∙ given_other _ _ in
    let joined : Knows p.callers h id (gathering v w) =
    record {
      owned = keeps v.caller _ (λ e. differ (sym e)) mine.owned;
      whole = mine.whole;
      at_stage = mine.at_stage;
      in_range = mine.in_range;
      others = λ i l e. ⊎_elim (λ (x : slice_get v.gathered i ≡ Some l). lane_kept g h _ l refl
          (λ _. refl) (keeps _ _ (λ q. differ (sym q))) (mine.others i l x))
          (λ (x : (j : ℕ) × (slice_get (own_lane w ∷ w.gathered) j ≡ Some l)). taken l x.0 x.1
          theirs moves) (slice_get_append _ _ i l e);
      apart = λ i l e. ⊎_elim (λ (x : slice_get v.gathered i ≡ Some l). mine.apart i l x)
          (λ (x : (j : ℕ) × (slice_get (own_lane w ∷ w.gathered) j ≡ Some l)). apart_from g _ _ id
          other mine.owned (their l x.0 x.1 theirs) differ) (slice_get_append _ _ i l e);
      unmade = λ z c le. ap (given other id) (mine.unmade z c le);
    } in record {
      ghost_state = h;
      wide = r.wide;
      counted = r.counted;
      legal = r.legal;
      short = r.short;
      claims = r.claims;
      cells = r.cells;
      idle = λ c e. r.idle c (given_none _ _ _ e);
      outside = λ c le. ap (given other id) (r.outside c le);
      seats = λ j u e here. ⊎_elim
          (λ (x : (j ≡ other) × (spent ≡ u)). absurd (true≢false (sym here ∙ sym (cc x.1))))
          (λ (x : (j ≢ other) × (get_elem? (set s.views id (gathering v w)) j ≡ some u)). ⊎_elim
          (λ (y : (j ≡ id) × (gathering v w ≡ u)). subst
          (λ (z : ℕ × Record). Knows p.callers h z.0 z.1) (λ q. (sym y.0 q, y.1 q)) joined)
          (λ (y : (j ≢ id) × (get_elem? s.views j ≡ some u)). let k = r.seats j u y.1 here in
          knows_kept _ g h j u refl (λ _. refl) (λ c. keeps c j x.0)
          (λ z c le. ap (given other id) (k.unmade z c le)) k) (at_set _ _ j _ u x.1))
          (at_set _ _ j _ u e);
    }
  where
    their : {g : Ghost} (l : Lane) (j : ℕ) → slice_get (own_lane w ∷ w.gathered) j ≡ Some l
        → Knows p.callers g other w
        → g.owner l.caller ≡ Some other
    their {g} l zero e k = cc (k.owned)
    their {g} l (suc j) e k = (k.others j l e).owned

    taken : {g : Ghost} (l : Lane) (j : ℕ) → slice_get (own_lane w ∷ w.gathered) j ≡ Some l
        → Knows p.callers g other w
        → ((c : ℕ) → g.owner c ≡ Some other → given other id (g.owner c) ≡ Some id)
        → HasLane (record {
          history = g.history;
          owner = λ c. given other id (g.owner c);
          stage = g.stage;
          claimer = g.claimer;
        }) id l
    taken {g} l zero e k moves = grind arith
    taken {g} l (suc j) e k moves = let x = k.others j l e in
        record { owned = moves _ x.owned; whole = x.whole; rests = x.rests }
