-- The cells and the claims after a step at one cell.
use Rattle.vyrd_trace.proofs.Prelude.{◌≡◌, ◌≢◌, ℕ, ◌+◌, ◌*◌, ◌%◌, ◌<◌, ◌≤◌, List, true, Option}
use Rattle.vyrd_trace.proofs.Prelude.{Some, None, refl, sym, ap, ◌∙◌, subst, arith, slice_index}
use Rattle.vyrd_trace.proofs.Prelude.{Stamped, Plan, Record, Stage, Rest, Claimed, Drawn, Giving}
use Rattle.vyrd_trace.proofs.Prelude.{part, upd, upd_here, upd_else, last_value, Ghost, IsAt}
use Rattle.vyrd_trace.proofs.Prelude.{InHand, FitsCell, Knows, TraceKept}
use mathlib.Core.Logic.{dite}
use mathlib.Core.Option.{some}
use native.Mathlib.Decide.{ℕ_discrete}
use lib.ListN.{get_elem?}
use Rattle.vyrd_trace.proofs.Stays.{St, Same, refit}

-- a cell that fits depends on its claimer's action alone
fits_other : (plain : ℕ) (f h : ℕ → Stage) (k w n : ℕ) (o : Option ℕ)
    → ((c : ℕ) → o ≡ Some c → h c ≡ f c)
    → FitsCell plain f k w n o → FitsCell plain h k w n o
fits_other plain f h k w n o same fits = grind (arith, plain, fits)

-- a cell in hand is that of its claimer's action
pub in_hand : (plain : ℕ) (f : ℕ → Stage) (k w n by : ℕ) (o : Option ℕ) → o ≡ Some by
    → FitsCell plain f k w n o → InHand plain by k w n (f by)
in_hand plain f k w n by o is fits = subst (FitsCell plain f k w n) is fits

module _ (p : Plan) (s : St) (r : TraceKept p s) (id : ℕ) (v : Record)
    (at : get_elem? s.views id ≡ some v) (live : v.live ≡ true) where
  abbrev pub G : Ghost
  G = r.ghost_state

  abbrev pub By : ℕ
  By = v.caller

  abbrev pub Mine : Knows p.callers G id v
  Mine = r.seats id v at live

  -- at another cell the claimer is another caller, if this caller's action is at k0 or at none
  others_claim : (k : ℕ) → k < p.plain + p.locks → ((w n : ℕ) → InHand p.plain By k w n v.stage → ⊥)
      → (c : ℕ) → G.claimer k ≡ Some c → c ≢ By
  others_claim k inside not_here c is same = not_here (slice_index s.words (k + 1))
      (last_value G.history k)
      (subst (InHand _ _ k _ _) Mine.at_stage
      (in_hand p.plain G.stage k _ _ By (G.claimer k) (is ∙ ap Some same) (r.cells k inside)))

  module _ (k0 : ℕ) (inside : k0 < p.plain + p.locks) where
    -- the cells after a step at k0 with a new action of this caller
    pub moved : (st : Stage) (w' : ℕ) (o : Option ℕ) (words : List ℕ) (h : List Stamped)
        → ((k : ℕ) → k ≢ k0 → slice_index words (k + 1) ≡ slice_index s.words (k + 1))
        → slice_index words (k0 + 1) ≡ w'
        → ((k : ℕ) → k ≢ k0 → last_value h k ≡ last_value G.history k)
        → ((k w n : ℕ) → k ≢ k0 → InHand p.plain By k w n v.stage → ⊥)
        → FitsCell p.plain (upd G.stage By st) k0 w' (last_value h k0) o
        → (k : ℕ) → k < p.plain + p.locks → FitsCell p.plain (upd G.stage By st) k
        (slice_index words (k + 1)) (last_value h k) (upd G.claimer k0 o k)
    moved st w' o words h elsewhere here same not_here fits k l = dite (ℕ_discrete k k0)
        (λ e. let is : upd G.claimer k0 o k ≡ o = upd_here G.claimer k0 o k e in
        subst (FitsCell p.plain (upd G.stage By st) k (slice_index words (k + 1)) (last_value h k))
        (sym is)
        (subst (λ (x : ℕ). FitsCell p.plain (upd G.stage By st) x (slice_index words (x + 1))
        (last_value h x) o) (sym e)
        (subst (λ (x : ℕ). FitsCell p.plain (upd G.stage By st) k0 x (last_value h k0) o)
        (sym here) fits)))
        (λ no. subst (FitsCell p.plain (upd G.stage By st) k (slice_index words (k + 1))
        (last_value h k)) (sym (upd_else G.claimer k0 o k no))
        (refit p.plain (upd G.stage By st) k _ _ _ _ (G.claimer k) (elsewhere k no) (same k no)
        (fits_other p.plain G.stage (upd G.stage By st) k _ _ (G.claimer k)
        (λ c is. upd_else G.stage By st c (others_claim k l (λ w n. not_here k w n no) c is))
        (r.cells k l))))

    -- the claims after it: the new action is at k0, if it is anywhere, and then the cell is claimed
    pub claims_moved : (st : Stage) (o : Option ℕ)
        → ((k : ℕ) → IsAt st k → (k ≡ k0) × (o ≡ Some By))
        → ((c : ℕ) → c ≢ By → G.claimer k0 ≡ Some c → ⊥)
        → (c k : ℕ) → IsAt (upd G.stage By st c) k → upd G.claimer k0 o k ≡ Some c
    claims_moved st o new free c k at' = dite (ℕ_discrete c By)
        (λ e. let n = new k (subst (λ (x : Stage). IsAt x k) (upd_here G.stage By st c e) at') in
        upd_here G.claimer k0 o k n.0
        ∙ n.1 ∙ ap Some (sym e))
        (λ no. let was = r.claims c k
        (subst (λ (x : Stage). IsAt x k) (upd_else G.stage By st c no) at') in
        let apart : k ≢ k0 = λ e. free c no (ap G.claimer (sym e) ∙ was) in
        upd_else G.claimer k0 o k apart ∙ was)

    -- the ghost state after it differs at this caller alone
    pub same_moved : (h : List Stamped) (st : Stage) (o : Option ℕ)
        → ((c : ℕ) → c ≢ By → part c h ≡ part c G.history)
        → Same G record {
          history = h;
          owner = G.owner;
          stage = upd G.stage By st;
          claimer = upd G.claimer k0 o;
        } By
    same_moved h st o parts =
        record { owners = λ c. refl; parts = parts; stages = λ c no. upd_else G.stage By st c no }

-- a free cell: its word is even, and it isn't a lock that is given
pub free_cell : (plain : ℕ) (f : ℕ → Stage) (k w n : ℕ) (o : Option ℕ) → w % 2 ≡ 0
    → (plain ≤ k → w ≡ 0)
    → FitsCell plain f k w n o → (o ≡ None) × (w ≡ 2 * n)
free_cell plain f k w n o even lock fits = grind (arith, plain, fits)

-- a held lock of a caller at rest: nobody has it in hand
pub held_cell : (plain : ℕ) (f : ℕ → Stage) (k w n by : ℕ) (o : Option ℕ) → plain ≤ k → n ≡ by + 1
    → f by ≡ Rest
    → FitsCell plain f k w n o → (o ≡ None) × (w ≡ 2 * n)
held_cell plain f k w n by o lock held rest fits = grind (arith, plain, held, fits)

-- an action at one cell has no other cell in hand
pub nowhere : (plain by k0 : ℕ) (b : ℕ) (st : Stage) → st ≡ Claimed k0 b → (k w n : ℕ) → k ≢ k0
    → InHand plain by k w n st → ⊥
nowhere plain by k0 b st is k w n apart h = search (plain, apart, arith)

pub nowhere_drawn : (plain by k0 : ℕ) (b m : ℕ) (st : Stage) → st ≡ Drawn k0 b m → (k w n : ℕ)
    → k ≢ k0 → InHand plain by k w n st → ⊥
nowhere_drawn plain by k0 b m st is k w n apart h = search (plain, apart, arith)

pub nowhere_giving : (plain by k0 : ℕ) (st : Stage) → st ≡ Giving k0 → (k w n : ℕ) → k ≢ k0
    → InHand plain by k w n st → ⊥
nowhere_giving plain by k0 st is k w n apart h = search (plain, apart, arith)

-- a caller at rest has none
pub nowhere_rest : (plain by k0 : ℕ) (st : Stage) → st ≡ Rest → (k w n : ℕ) → k ≢ k0
    → InHand plain by k w n st → ⊥
nowhere_rest plain by k0 st is k w n apart h = grind arith
