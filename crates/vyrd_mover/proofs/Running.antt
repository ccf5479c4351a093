-- Legal histories as runs over a memory, which is a function from cells to values.
use Rattle.vyrd_mover.proofs.Prelude
use Prelude.{◌≡◌, ℕ, suc, ◌+◌, ◌^◌, Bool, true, false, cond, not, ◌&&◌, List, [], ◌∷◌, length}
use Prelude.{Option, Some, None, refl, ap, ◌∙◌, sym, add-one, ◌==◌, nat_lt, unwrap_or, option_or}
use Prelude.{list_all, Did, Read, Wrote, Took, Gave, Marked, Stamped, places_after, first_answer}
use Prelude.{Cells, is_plain, is_lock, made_of, value_in, is_write, may_do, is_legal_at, is_legal}
use Prelude.{both_true, first_true, second_true, same_number, is_same, numbered_from}

-- the memory after an event
abbrev pub step : (ℕ → ℕ) → Stamped → ℕ → ℕ
step m e cell = unwrap_or (made_of cell e.caller e.did) (m cell)

-- whether a caller may do this in a memory
abbrev pub may : Cells → (ℕ → ℕ) → ℕ → Did → Bool
may cells m caller (Read cell value) = is_plain cells cell && value == m cell
may cells m caller (Wrote cell value) = is_plain cells cell && nat_lt value (2 ^ 63)
may cells m caller (Took cell) = is_lock cells cell && m cell == 0
may cells m caller (Gave cell) = is_lock cells cell && m cell == caller + 1
may cells m caller (Marked kind) = not (is_write kind)

-- each event may happen in its turn, numbers aside
abbrev pub Runs : Cells → (ℕ → ℕ) → List Stamped → Type 0
Runs cells m [] = Unit {0}
Runs cells m (e ∷ later) = (nat_lt e.caller cells.callers ≡ true)
    × (may cells m e.caller e.did ≡ true) × Runs cells (step m e) later

pub may_is : (cells : Cells) (earlier : List Stamped) (caller : ℕ) (did : Did)
    → may_do cells earlier caller did ≡ may cells (value_in earlier) caller did
may_is cells earlier caller (Read cell value) = refl
may_is cells earlier caller (Wrote cell value) = refl
may_is cells earlier caller (Took cell) = refl
may_is cells earlier caller (Gave cell) = refl
may_is cells earlier caller (Marked kind) = refl

-- the memory that events leave is one step further with one more
pub value_step : (e : Stamped) (earlier : List Stamped) → value_in (e ∷ earlier)
    ≡ step (value_in earlier) e
value_step e earlier = λ i cell. at cell (made_of cell e.caller e.did) i
  where
    at : (cell : ℕ) (o : Option ℕ)
        → unwrap_or (option_or o (first_answer (λ e. made_of cell e.caller e.did) earlier)) 0
        ≡ unwrap_or o (value_in earlier cell)
    at cell None = refl
    at cell (Some v) = refl

legal_runs_after : (cells : Cells) (earlier xs : List Stamped) → list_all (is_legal_at cells)
    (places_after earlier xs) ≡ true
    → Runs cells (value_in earlier) xs
legal_runs_after cells earlier [] e = tt
legal_runs_after cells earlier (x ∷ xs) e =
    let here : is_legal_at cells (record { earlier = earlier; here = x; later = xs })
    ≡ true = first_true _ _ e in (
      second_true (x.number == length earlier) _ (first_true _ _ here),
      sym
          (may_is cells earlier x.caller x.did) ∙ second_true (x.number == length _ && nat_lt _ _) _
          here,
      rw (← value_step x earlier) (legal_runs_after cells (x ∷ earlier) xs (second_true _ _ e)),
    )

-- a legal history runs from the memory of zeros
pub legal_runs : (cells : Cells) (history : List Stamped) → is_legal cells history ≡ true
    → Runs cells (value_in []) history
unfolding is_legal
legal_runs cells history e = legal_runs_after cells [] history e

pub runs_legal_after : (cells : Cells) (k : ℕ) (earlier xs : List Stamped) → k ≡ length earlier
    → Runs cells (value_in earlier) xs
    → list_all (is_legal_at cells) (places_after earlier (numbered_from k xs)) ≡ true
runs_legal_after cells k earlier [] e r = refl
runs_legal_after cells k earlier (x ∷ xs) e r =
    let x' : Stamped = record x { number = k } in
    both_true (is_legal_at cells
    (record { earlier = earlier; here = x'; later = numbered_from (k + 1) xs })) _
    (both_true (k == length _ && nat_lt _ _) _ (both_true (k == length _) _ (is_same k _ e) r.0)
    (may_is cells earlier x.caller x.did ∙ r.1))
    (runs_legal_after cells (k + 1) (x' ∷ earlier) xs (add-one k ∙ ap suc e)
    (rw (value_step x' earlier) r.2))

-- what runs from the memory of zeros is legal, renumbered
pub runs_legal : (cells : Cells) (xs : List Stamped) → Runs cells (value_in []) xs
    → is_legal cells (numbered_from 0 xs) ≡ true
unfolding is_legal
runs_legal cells xs r = runs_legal_after cells 0 [] xs refl r

-- a memory that is the same at the cells that an event touches allows it just as well
abbrev pub touches : ℕ → Did → Bool
touches cell (Read other value) = other == cell
touches cell (Wrote other value) = other == cell
touches cell (Took other) = other == cell
touches cell (Gave other) = other == cell
touches cell (Marked kind) = false

-- whether the event changes the cell
abbrev pub changes : ℕ → Did → Bool
changes cell (Read other value) = false
changes cell (Wrote other value) = other == cell
changes cell (Took other) = other == cell
changes cell (Gave other) = other == cell
changes cell (Marked kind) = false

pub may_same : (cells : Cells) (m n : ℕ → ℕ) (caller : ℕ) (did : Did)
    → ((cell : ℕ) → touches cell did ≡ true → m cell ≡ n cell)
    → may cells m caller did ≡ may cells n caller did
may_same cells m n caller (Read cell value) same = cc (same cell (same_number cell))
may_same cells m n caller (Wrote cell value) same = refl
may_same cells m n caller (Took cell) same = cc (same cell (same_number cell))
may_same cells m n caller (Gave cell) same = cc (same cell (same_number cell))
may_same cells m n caller (Marked kind) same = refl

-- an event makes nothing of a cell that it doesn't change
pub made_none : (cell caller : ℕ) (did : Did) → changes cell did ≡ false → made_of cell caller did
    ≡ None
made_none cell caller (Read other value) e = refl
made_none cell caller (Wrote other value) e = ap (λ b. cond b (Some value) None) e
made_none cell caller (Took other) e = ap (λ b. cond b (Some (caller + 1)) None) e
made_none cell caller (Gave other) e = ap (λ b. cond b (Some 0) None) e
made_none cell caller (Marked kind) e = refl

pub step_same : (m : ℕ → ℕ) (e : Stamped) (cell : ℕ) → changes cell e.did ≡ false → step m e cell
    ≡ m cell
step_same m e cell h = ap (λ o. unwrap_or o (m cell)) (made_none cell e.caller e.did h)
