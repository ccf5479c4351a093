-- A draw keeps the rule: the event may come next in the history.
use Rattle.vyrd_trace.proofs.Prelude
use Prelude.{◌≡◌, ◌≢◌, ℕ, ◌+◌, ◌*◌, ◌%◌, ◌^◌, ◌<◌, ◌≤◌, List, [], ◌∷◌, ◌++◌, length, true, false}
use Prelude.{Option, Some, refl, sym, ap, ◌∙◌, subst, arith, length-append, length-set}
use Prelude.{get_or-set_same, eq-eqb, ne_eqb, mul-le-mul, slice_index, get_or-set_other, step}
use Prelude.{keeps, stepped, Allows, same_Some, Kind, Did, Read, Wrote, Took, Gave, Marked, Stamped}
use Prelude.{newest_first, is_write, may_do, upd, upd_here, upd_else, Plan, Record, Stage, Rest}
use Prelude.{Claimed, Drawn, Giving, stamp, last_value, HoldsBy, cells_in, before_of, drawn}
use Prelude.{with_event, Ghost, IsAt, InHand, FitsCell, TraceKept, Sitting, drew, MayDraw}
use Prelude.{most_events}
use mathlib.Core.Option.{some, none}
use lib.ListN.{get_elem?}
use Rattle.vyrd_trace.proofs.HistoryGrows.{value_after, legal-snoc, may_read, may_write, may_take}
use Rattle.vyrd_trace.proofs.HistoryGrows.{may_give, may_mark}
use Rattle.vyrd_trace.proofs.Parts.{value-snoc, part-mine, part-other, legal_bounded, held_value}
use Rattle.vyrd_trace.proofs.Stays.{St, turned, refit, below, changed}
use Rattle.vyrd_trace.proofs.CellMoves.{in_hand, moved, claims_moved, held_cell, nowhere}
use Rattle.vyrd_trace.proofs.CellMoves.{nowhere_rest}

module _ (p : Plan) (few : p.callers ≤ 64) (short : p.limit ≤ most_events) where
  -- the next number is far below 2 ^ 64
  bounded : (s : St) (r : TraceKept p s) → slice_index s.words 0 + 1 < 2 ^ 64
  bounded s r =
      let a = legal_bounded (cells_in p) p.limit r.ghost_state.history r.legal r.short in
      let b = r.counted in
      let c : p.callers * p.limit ≤ 64 * most_events = mul-le-mul few short in omega arith

  -- A draw of any event that may come next. What is left to say is which action each caller has in
  -- hand afterwards, which
  -- caller has each cell, and that the cells' words, which stay, fit their values in the longer
  -- history.
  drew_keeps : (s : St) (r : TraceKept p s) (id : ℕ) (c : List (ℕ × Unit {0})) (v : Record)
      (did : Did)
      (stage : ℕ
      → Stage) (claimer : ℕ → Option ℕ) (st : Stage)
      → get_elem? s.views id ≡ some v → v.live ≡ true → length v.lane < p.limit
      → may_do (cells_in p) (newest_first r.ghost_state.history) v.caller did ≡ true
      → stage v.caller ≡ st → ((by : ℕ) → by ≢ v.caller → stage by ≡ r.ghost_state.stage by)
      → ((by k : ℕ) → IsAt (stage by) k → claimer k ≡ Some by)
      → ((k : ℕ) → k < p.plain + p.locks
      → FitsCell p.plain stage k (slice_index s.words (k + 1))
      (last_value (r.ghost_state.history ++ stamp (slice_index s.words 0) v.caller did ∷ []) k)
      (claimer k))
      → TraceKept p (stepped s 0 ((slice_index s.words 0 + 1) % 2 ^ 64) id c
      (changed v (v.lane ++ stamp (slice_index s.words 0) v.caller did ∷ []) st v.look) keeps)
  drew_keeps s r id c v did stage claimer st at live room may in_hand_now others claims cells =
      let n : ℕ = slice_index s.words 0 in
      let g = r.ghost_state in
      let e : Stamped = stamp n v.caller did in
      let h : Ghost = record {
        history = g.history ++ e ∷ [];
        owner = g.owner;
        stage = stage;
        claimer = claimer;
      } in
      let mine = r.seats id v at live in
      let bound = bounded s r in
      let up : (n + 1) % 18446744073709551616 ≡ n + 1 = omega arith in
      let wide = r.wide in
      let counted = r.counted in
      turned p s r 0 ((n + 1) % 2 ^ 64) id c v (v.lane ++ e ∷ []) st v.look h at live record {
        same = record {
          owners = λ by. refl;
          parts = λ by no. part-other by g.history e (λ x. no (sym x));
          stages = others;
        };
        whole = part-mine v.caller g.history e refl ∙ ap (λ l. l ++ e ∷ []) mine.whole;
        at_stage = in_hand_now;
        wide = length-set s.words 0 ((n + 1) % 2 ^ 64) ∙ wide;
        counted = get_or-set_same s.words 0 ((n + 1) % 2 ^ 64) 0 (omega arith) ∙ up
            ∙ omega (arith, length-append g.history (e ∷ []));
        legal = legal-snoc (cells_in p) g.history e r.legal counted mine.in_range may;
        short = omega (arith, length-append v.lane (e ∷ []));
        claims = claims;
        cells = λ k l. refit p.plain stage k _ _ _ _ (claimer k)
            (get_or-set_other s.words 0 (k + 1) ((n + 1) % 2 ^ 64) 0 (λ z. omega arith)) refl
            (cells k l);
      }

  -- a mark changes no action and no cell
  marks : (slots id : ℕ) (me : Sitting) (kind : Kind) → me.0.live ≡ true
      → length me.0.lane < p.limit → is_write kind ≡ false
      → Allows (TraceKept p) slots id me 0 (λ n. (n + 1) % 2 ^ 64)
      (drew (Marked kind) (step slots 0 1 0 none) me)
  marks slots id me kind live room mark s r _ at _ =
      let n : ℕ = slice_index s.words 0 in
      let v : Record = me.0 in
      let g = r.ghost_state in
      let e : Stamped = stamp n v.caller (Marked kind) in
      let mine = r.seats id v at live in (
        with_event v n (Marked kind),
        keeps,
        tt,
        drew_keeps s r id me.1 v (Marked kind) g.stage g.claimer v.stage at live room
            (may_mark (cells_in p) (newest_first g.history) v.caller kind mark) mine.at_stage
            (λ _ _. refl) r.claims
            (λ k l. refit p.plain g.stage k _ _ _ _ (g.claimer k) refl (value-snoc g.history e k)
            (r.cells k l)),
        (refl, below p s r v mine.whole n r.counted),
      )

  -- an event at a cell that this caller has claimed: the cell's value is then m
  acts : (slots id : ℕ) (me : Sitting) (did : Did) (k0 b m : ℕ) → me.0.live ≡ true
      → length me.0.lane < p.limit
      → k0 < p.plain + p.locks → me.0.stage ≡ Claimed k0 b → drawn me.0.stage me.0.caller did
      ≡ Drawn k0 b m
      → ((k w : ℕ) → k ≢ k0 → value_after k w me.0.caller did ≡ w)
      → value_after k0 b me.0.caller did ≡ m → (p.plain ≤ k0 → m ≡ me.0.caller + 1)
      → ((h : List Stamped) → last_value h k0 ≡ b → (p.plain ≤ k0 → b ≡ 0)
      → may_do (cells_in p) (newest_first h) me.0.caller did ≡ true)
      → Allows (TraceKept p) slots id me 0 (λ n. (n + 1) % 2 ^ 64)
      (drew did (step slots 0 1 0 none) me)
  acts slots id me did k0 b m live room inside claimed next away here lock follows s r _ at _ =
      let n : ℕ = slice_index s.words 0 in
      let v : Record = me.0 in
      let by : ℕ = v.caller in
      let g = r.ghost_state in
      let mine = r.seats id v at live in
      let e : Stamped = stamp n by did in
      let hist : List Stamped = g.history ++ e ∷ [] in
      let st : Stage = drawn v.stage by did in
      let o : Option ℕ = Some by in
      let mine_is : g.claimer k0 ≡ Some by = r.claims by k0 (rw (mine.at_stage ∙ claimed) refl) in
      let fits = in_hand _ _ _ _ _ by (g.claimer _) mine_is (r.cells _ inside) in
      let cell : InHand p.plain by k0 (slice_index s.words (k0 + 1)) (last_value g.history k0)
      (Claimed k0 b) = subst (InHand _ by k0 _ _) (mine.at_stage ∙ claimed) fits in
      let now : last_value hist k0 ≡ m = cc (value-snoc g.history e k0, cell.2) in (
        with_event v n _,
        keeps,
        tt,
        drew_keeps s r _ me.1 v did (upd _ by st) (upd _ k0 o) st at live room
            (follows g.history cell.2 cell.3) (upd_here g.stage by st by refl)
            (λ c no. upd_else g.stage by st c no)
            (claims_moved p s r id v at live _ inside _ o
            (λ k x. let y : k0 ≡ k = subst (λ (q : Stage). IsAt q k) next x in
            (sym y, refl)) (λ c no is. no (sym (same_Some by c (sym mine_is ∙ is)))))
            (moved p s r id v at live _ inside st (slice_index s.words (k0 + 1)) o _ hist
            (λ k _. refl) refl (λ k no. value-snoc g.history e k ∙ away k _ no)
            (nowhere _ by k0 b _ claimed)
            (subst (InHand _ by k0 _ _) (sym (upd_here g.stage by st by refl ∙ next))
            (refl, cell.1, now, lock))),
        (refl, below p s r v mine.whole n r.counted),
      )

  -- the give of a lock that this caller holds
  gives : (slots id : ℕ) (me : Sitting) (k0 : ℕ) → me.0.live ≡ true → length me.0.lane < p.limit
      → p.plain ≤ k0
      → k0 < p.plain + p.locks → me.0.stage ≡ Rest → HoldsBy me.0.lane me.0.caller k0
      → Allows (TraceKept p) slots id me 0 (λ n. (n + 1) % 2 ^ 64)
      (drew (Gave k0) (step slots 0 1 0 none) me)
  gives slots id me k0 live room lock inside rest held s r _ at _ =
      let n : ℕ = slice_index s.words 0 in
      let v : Record = me.0 in
      let by : ℕ = v.caller in
      let g = r.ghost_state in
      let mine = r.seats id v at live in
      let e : Stamped = stamp n by (Gave k0) in
      let hist : List Stamped = g.history ++ e ∷ [] in
      let st : Stage = Giving k0 in
      let o : Option ℕ = Some by in
      let was : last_value g.history k0 ≡ by + 1 = held_value (cells_in p) k0 by g.history lock
      r.legal (cc mine.whole) in
      let free = held_cell p.plain g.stage k0 (slice_index s.words (k0 + 1))
      (last_value g.history k0) by (g.claimer k0) lock was (mine.at_stage ∙ rest)
      (r.cells k0 inside) in
      let now : last_value hist k0 ≡ 0 = value-snoc g.history e k0 ∙ rw (eq-eqb k0 k0 refl) refl in
      let word : slice_index s.words (k0 + 1) ≡ 2 * (by + 1) = cc free.1 in (
        with_event v n (Gave k0),
        keeps,
        tt,
        drew_keeps s r id me.1 v (Gave k0) (upd g.stage by st)
            (upd g.claimer k0 o) st at live room
            (may_give (cells_in p) (newest_first g.history) by k0 lock inside was)
            (upd_here g.stage by st by refl) (λ c no. upd_else g.stage by st c no)
            (claims_moved p s r id v at live k0 inside st o (λ k x. (sym x, refl))
            (λ c no is. let f = free.0 in absurd (cc)))
            (moved p s r id v at live k0 inside st (slice_index s.words (k0 + 1)) o s.words hist
            (λ k _. refl) refl (λ k no. value-snoc g.history e k
            ∙ rw (ne_eqb k0 k (λ x. no (sym x))) refl) (nowhere_rest p.plain by k0 v.stage rest)
            (subst (InHand p.plain by k0 (slice_index s.words (k0 + 1)) (last_value hist k0))
            (sym (upd_here g.stage by st by refl)) (refl, lock, word, now))),
        (refl, below p s r v mine.whole n r.counted),
      )

  -- any event that may come next
  pub draws : (slots id : ℕ) (me : Sitting) (did : Did) → me.0.live ≡ true
      → length me.0.lane < p.limit → MayDraw p me.0 did
      → Allows (TraceKept p) slots id me 0 (λ n. (n + 1) % 2 ^ 64)
      (drew did (step slots 0 1 0 none) me)
  draws slots id me (Marked kind) live room may = marks _ _ _ _ live room may
  draws slots id me (Gave k) live room may = gives _ _ _ k live room may.0 may.1 may.2 may.3
  draws slots id me (Read k x) live room may = let a = may.0 in
      acts _ _ _ _ k x x live room (omega arith) may.1 refl (λ _ _ _. refl) refl
      (λ z. absurd (omega arith))
      (λ h is _. may_read (cells_in p) (newest_first h) me.0.caller k x a (sym is))
  draws slots id me (Wrote k x) live room may = let a = may.0 in let b : ℕ = before_of me.0.stage in
      acts _ _ _ _ k b x live room (omega arith) may.2 refl
      (λ j w no. rw (ne_eqb k j (λ e. no (sym e))) refl) (rw (eq-eqb k k refl) refl)
      (λ z. absurd (omega arith))
      (λ h _ _. may_write (cells_in p) (newest_first h) me.0.caller k x a may.1)
  draws slots id me (Took k) live room may = acts _ _ _ _ k 0 (me.0.caller + 1) live room may.1
      may.2 refl (λ j w no. rw (ne_eqb k j (λ e. no (sym e))) refl) (rw (eq-eqb k k refl) refl)
      (λ _. refl) (λ h is _. may_take (cells_in p) (newest_first h) me.0.caller k may.0 may.1 is)
