-- A look, and a claim that is won or lost, keep the rule.
use Rattle.vyrd_trace.proofs.Prelude
use Prelude.{◌≡◌, ℕ, ◌+◌, ◌-◌, ◌/◌, ◌%◌, ◌<◌, ◌≤◌, List, length, set, true, eqb, Option, Some, refl}
use Prelude.{sym, ap, ◌∙◌, subst, arith, length-set, get_or-set_same, eq-eqb, ne_eqb, slice_index}
use Prelude.{get_or-set_other, set-get_or, upd, upd_here, step, keeps, stepped, Allows, Plan, Look}
use Prelude.{Record, Stage, Rest, Claimed, last_value, look_first, acting, Ghost, IsAt, InHand}
use Prelude.{FitsCell, TraceKept, Sitting, looked, tried}
use mathlib.Core.Logic.{dite}
use mathlib.Core.Option.{some, none}
use native.Mathlib.Decide.{ℕ_discrete}
use lib.ListN.{get_elem?}
use prog.Atomic.{either}
use Rattle.vyrd_trace.proofs.Stays.{St, turned, refit, same_refl}
use Rattle.vyrd_trace.proofs.CellMoves.{moved, claims_moved, same_moved, free_cell, nowhere_rest}

module _ (p : Plan) where
  unmoved : (s : St) (r : TraceKept p s) (id : ℕ) (c : List (ℕ × Unit {0})) (v : Record) (l : Look)
      → get_elem? s.views id ≡ some v
      → v.live ≡ true → (i : ℕ)
      → TraceKept p (stepped s i (slice_index s.words i) id c (acting v v.stage l) keeps)
  unmoved s r id c v l at live i =
      let g = r.ghost_state in
      let mine = r.seats id v at live in
      let same : set s.words i (slice_index s.words i) ≡ s.words = set-get_or _ i 0 in
      turned p s r i _ _ c v _ _ l g at live record {
        same = same_refl g _;
        whole = mine.whole;
        at_stage = mine.at_stage;
        wide = ap length same ∙ r.wide;
        counted = cc r.counted;
        legal = r.legal;
        short = let a = r.short v.caller in let b = ap length mine.whole in omega arith;
        claims = r.claims;
        cells = λ k l. refit p.plain g.stage k _ _ _ _ (g.claimer k) (cc) refl (r.cells k l);
      }

  -- looks: nothing changes but the looks
  pub looks : (slots id : ℕ) (me : Sitting) (k : ℕ) → me.0.live ≡ true
      → Allows (TraceKept p) slots id me (k + 1) (λ n. n) (looked (step slots (k + 1) 0 0 none) me)
  looks slots id me k live s r _ at _ =
      let v : Record = me.0 in
      let n : ℕ = slice_index s.words (k + 1) in
      let l : Look = look_first v.look _ n in
      (acting v _ l, keeps, tt, unmoved s r _ me.1 v l at live _, refl)

  -- a claim that is won: the word is `old`, which is even, and for a lock 0
  won : (s : St) (r : TraceKept p s) (id : ℕ) (c : List (ℕ × Unit {0})) (v : Record)
      (k0 old new : ℕ)
      (st : Stage) (l : Look)
      → get_elem? s.views id ≡ some v → v.live ≡ true → k0 < p.plain + p.locks → v.stage ≡ Rest
      → old % 2 ≡ 0 → (p.plain ≤ k0 → old ≡ 0) → new ≡ old + 1 → slice_index s.words (k0 + 1) ≡ old
      → st ≡ Claimed k0 (old / 2)
      → TraceKept p (stepped s (k0 + 1) new id c (acting v st l) keeps)
  won s r id c v k0 old new st l at live inside rest even lock up hit is =
      let by : ℕ = v.caller in
      let g = r.ghost_state in
      let mine = r.seats id v at live in
      let o : Option ℕ = Some by in
      let wide = r.wide in
      let cell = subst (λ (x : ℕ). FitsCell p.plain g.stage k0 x (last_value g.history k0)
      (g.claimer k0)) hit (r.cells k0 inside) in
      let free = free_cell p.plain g.stage k0 old (last_value g.history k0) (g.claimer k0) even lock
      cell in
      let twice = free.1 in
      let h : Ghost = record g { stage = upd g.stage by st; claimer = upd g.claimer k0 o } in
      let words : List ℕ = set s.words (k0 + 1) new in
      turned p s r (k0 + 1) new id c v v.lane st l h at live
      record {
        same = same_moved p s r id v at live k0 inside g.history st o (λ c _. refl);
        whole = mine.whole;
        at_stage = upd_here g.stage by st by refl;
        wide = length-set s.words (k0 + 1) new ∙ wide;
        counted = get_or-set_other s.words (k0 + 1) 0 new 0 (λ z. omega arith) ∙ r.counted;
        legal = r.legal;
        short = let a = r.short by in let b = ap length mine.whole in omega arith;
        claims = claims_moved p s r id v at live k0 inside st o
            (λ k x. let y : k0 ≡ k = subst (λ (q : Stage). IsAt q k) is x in
            (sym y, refl)) (λ c no has. let f = free.0 in absurd (cc));
        cells =
            moved p s r id v at live k0 inside st new o words g.history
            (λ k no. get_or-set_other s.words (k0 + 1) (k + 1) new 0 (λ z. no (omega arith)))
            (get_or-set_same s.words (k0 + 1) new 0 (omega arith)) (λ k _. refl)
            (nowhere_rest p.plain by k0 v.stage rest)
            (subst (InHand p.plain by k0 new (last_value g.history k0))
            (sym (upd_here g.stage by st by refl ∙ is))
            (refl, omega arith, omega arith, (λ z. let q = lock z in omega arith)));
      }

  -- a try of a claim: won if the word is the expected one, and otherwise nothing changes but the
  -- looks
  pub claims_cell : (next : Look → ℕ → ℕ → Look) (slots id : ℕ) (me : Sitting) (k0 old new : ℕ)
      → me.0.live ≡ true
      → k0 < p.plain + p.locks → me.0.stage ≡ Rest → old % 2 ≡ 0 → (p.plain ≤ k0 → old ≡ 0)
      → new ≡ old + 1
      → Allows (TraceKept p) slots id me (k0 + 1) (λ n. either (eqb n old) new n)
      (tried next (step slots (k0 + 1) old new none) me)
  claims_cell next slots id me k0 old new live inside rest even lock up s r _ at _ =
      let n : ℕ = slice_index s.words (k0 + 1) in
      let l : Look = next me.0.look ((k0 + 1) - 1) n in
      let back : (k0 + 1) - 1 ≡ k0 = omega arith in
      let st : Stage = Claimed ((k0 + 1) - 1) (old / 2) in dite (ℕ_discrete n old)
      (λ hit. (
        acting me.0 _ l,
        keeps,
        tt,
        rw (eq-eqb n old hit)
            (won s r id me.1 me.0 k0 old new st l at live inside rest even lock up hit (cc)),
        ((λ _. refl), (λ no. absurd (no hit))),
      )) (λ miss. (
        acting me.0 _ l,
        keeps,
        tt,
        rw (ne_eqb n old miss)
            (unmoved s r id me.1 me.0 l at live (k0 + 1)),
        ((λ hit. absurd (miss hit)), (λ _. refl)),
      ))
