-- A publish keeps the rule: the word is twice the value again.
use Rattle.vyrd_trace.proofs.Prelude
use Prelude.{◌≡◌, ◌≢◌, ℕ, ◌+◌, ◌*◌, ◌<◌, List, length, true, Some, None, refl, sym, ap, ◌∙◌, subst}
use Prelude.{arith, length-set, get_or-set_same, slice_index, get_or-set_other, step, keeps}
use Prelude.{stepped, Allows, same_Some, upd, upd_here, Plan, Record, Stage, Rest, Claimed, Drawn}
use Prelude.{Giving, last_value, acting, Ghost, InHand, TraceKept, Sitting, published, Ends}
use mathlib.Core.Option.{some, none}
use lib.ListN.{get_elem?}
use Rattle.vyrd_trace.proofs.Stays.{St, turned}
use Rattle.vyrd_trace.proofs.CellMoves.{in_hand, moved, claims_moved, same_moved, nowhere_drawn}
use Rattle.vyrd_trace.proofs.CellMoves.{nowhere_giving}

module _ (p : Plan) where
  -- an action at k0 ends
  ends : (s : St) (r : TraceKept p s) (id : ℕ) (c : List (ℕ × Unit {0})) (v : Record) (k0 x : ℕ)
      (at : get_elem? s.views id
      ≡ some v) (live : v.live ≡ true) → k0 < p.plain + p.locks → r.ghost_state.claimer k0
      ≡ Some v.caller
      → x ≡ 2 * last_value r.ghost_state.history k0
      → ((k w n : ℕ) → k ≢ k0 → InHand p.plain v.caller k w n v.stage → ⊥)
      → TraceKept p (stepped s (k0 + 1) x id c (acting v Rest v.look) keeps)
  ends s r id c v k0 x at live inside mine_is twice elsewhere =
      let by : ℕ = v.caller in
      let g = r.ghost_state in
      let mine = r.seats id v at live in
      let wide = r.wide in
      let h : Ghost =
      record g { stage = upd g.stage by Rest; claimer = upd g.claimer k0 None } in
      turned p s r _ x _ c v _ _ _ h at live record {
        same = same_moved p s r id v at live _ inside _ _ _ (λ c _. refl);
        whole = mine.whole;
        at_stage = upd_here g.stage by Rest by refl;
        wide = length-set _ _ x ∙ wide;
        counted = get_or-set_other s.words (k0 + 1) 0 x 0 (λ z. omega arith) ∙ r.counted;
        legal = r.legal;
        short = let a = r.short by in let b = ap length mine.whole in omega arith;
        claims = claims_moved p s r id v at live _ inside _ _ (λ k z. absurd z)
            (λ c no is. no (same_Some c by (sym is ∙ mine_is)));
        cells = moved p s r id v at live _ inside Rest x _ _ g.history
            (λ k no. get_or-set_other s.words (k0 + 1) (k + 1) x 0 (λ z. no (omega arith)))
            (get_or-set_same s.words (k0 + 1) x 0 (omega arith)) (λ k _. refl) elsewhere twice;
      }

  -- the publish: the action in hand ends
  pub publishes : (slots id : ℕ) (me : Sitting) (k0 b m x : ℕ) → me.0.live ≡ true → k0 < p.plain
      + p.locks → me.0.stage ≡ Drawn k0 b m → x ≡ 2 * m
      → Allows (TraceKept p) slots id me (k0 + 1) (λ _. x)
      (λ _. published (step slots (k0 + 1) x 0 none) me x)
  publishes slots id me k0 b m x live inside drawn_is twice s r _ at _ =
      let v : Record = me.0 in
      let by : ℕ = v.caller in
      let g = r.ghost_state in
      let mine = r.seats id v at live in
      let mine_is : g.claimer k0 ≡ Some by = r.claims by k0 (rw (mine.at_stage ∙ drawn_is) refl) in
      let cell : InHand p.plain by k0 (slice_index s.words (k0 + 1)) (last_value g.history k0)
      (Drawn k0 b m) = subst (InHand _ by k0 _ _) (mine.at_stage ∙ drawn_is)
      (in_hand _ _ _ _ _ by (g.claimer _) mine_is (r.cells _ inside)) in (
        acting v _ _,
        keeps,
        tt,
        ends s r _ me.1 v _ x at live inside mine_is (cc cell.2)
            (nowhere_drawn _ by k0 b m _ drawn_is),
        refl,
      )

  pub publishes_give : (slots id : ℕ) (me : Sitting) (k0 x : ℕ) → me.0.live ≡ true → k0 < p.plain
      + p.locks → me.0.stage ≡ Giving k0 → x ≡ 0
      → Allows (TraceKept p) slots id me (k0 + 1) (λ _. x)
      (λ _. published (step slots (k0 + 1) x 0 none) me x)
  publishes_give slots id me k0 x live inside drawn_is twice s r _ at _ =
      let v : Record = me.0 in
      let by : ℕ = v.caller in
      let g = r.ghost_state in
      let mine = r.seats id v at live in
      let mine_is : g.claimer k0 ≡ Some by = r.claims by k0 (rw (mine.at_stage ∙ drawn_is) refl) in
      let cell : InHand p.plain by k0 (slice_index s.words (k0 + 1)) (last_value g.history k0)
      (Giving k0) = subst (InHand _ by k0 _ _) (mine.at_stage ∙ drawn_is)
      (in_hand _ _ _ _ _ by (g.claimer _) mine_is (r.cells _ inside)) in (
        acting v _ _,
        keeps,
        tt,
        ends s r _ me.1 v _ x at live inside mine_is (cc cell.3)
            (nowhere_giving _ by k0 _ drawn_is),
        refl,
      )

  pub stores : (slots id : ℕ) (me : Sitting) (k0 x : ℕ) → me.0.live ≡ true → k0 < p.plain + p.locks
      → Ends me.0.stage k0 x
      → Allows (TraceKept p) slots id me (k0 + 1) (λ _. x)
      (λ _. published (step slots (k0 + 1) x 0 none) me x)
  stores slots id me k0 x live inside e = by_stage me.0.stage refl e
    where
      by_stage : (st : Stage) → me.0.stage ≡ st → Ends st k0 x
          → Allows (TraceKept p) slots id me (k0 + 1) (λ _. x)
          (λ _. published (step slots (k0 + 1) x 0 none) me x)
      by_stage Rest is h = absurd h
      by_stage (Claimed c b) is h = absurd h
      by_stage (Drawn c b m) is h = publishes slots id me k0 b m x live inside (cc h.0) h.1
      by_stage (Giving c) is h = publishes_give slots id me k0 x live inside (is ∙ ap Giving h.0)
          h.1
