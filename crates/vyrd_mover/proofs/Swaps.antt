-- Two neighbouring events exchanged: what follows runs as before, and each race-free cell stays
-- race-free.
use Rattle.vyrd_mover.proofs.Prelude.{◌≡◌, ◌≢◌, ℕ, ◌+◌, Bool, true, false, ◌⊎◌, List, [], ◌∷◌, ◌++◌}
use Rattle.vyrd_mover.proofs.Prelude.{sym, subst, arith, unwrap_or, Did, Stamped, Cells, is_lock}
use Rattle.vyrd_mover.proofs.Prelude.{made_of, is_movable}
use Rattle.vyrd_mover.proofs.TruthLaws.{true_or_false}
use Rattle.vyrd_mover.proofs.Running.{step, may, Runs, changes, may_same, step_same}
use Rattle.vyrd_mover.proofs.FreeCells.{Free, alone, unwritten, guarded, Only, Unwritten, Guards}
use Rattle.vyrd_mover.proofs.Meetings.{Apart, apart, changed_is_touched}

-- the memory is the same in both orders
order_of_steps : (m : ℕ → ℕ) (a b : Stamped) → Apart a.did b.did → step (step m a) b
    ≡ step (step m b) a
order_of_steps m a b far =
    grind (arith, true_or_false, changes, step, step_same, changed_is_touched)

-- the second may happen first
second_first : (cells : Cells) (m : ℕ → ℕ) (a b : Stamped) → Apart a.did b.did
    → may cells (step m a) b.caller b.did ≡ true
    → may cells m b.caller b.did ≡ true
second_first cells m a b far allowed =
    grind (arith, may_same, step, changes, step_same, true_or_false)

-- and the first after it
first_second : (cells : Cells) (m : ℕ → ℕ) (a b : Stamped) → Apart a.did b.did
    → may cells m a.caller a.did ≡ true
    → may cells (step m b) a.caller a.did ≡ true
first_second cells m a b far allowed =
    grind (arith, may_same, step, changes, step_same, true_or_false)

pub swap_runs : (cells : Cells) (m : ℕ → ℕ) (a b : Stamped) (es : List Stamped) → Apart a.did b.did
    → Runs cells m (a ∷ b ∷ es)
    → Runs cells m (b ∷ a ∷ es)
swap_runs cells m a b es far r = (
  r.2.0,
  second_first cells m a b far r.2.1,
  (
    r.0,
    first_second cells m a b far r.1,
    subst (λ n. Runs cells n es) (order_of_steps m a b far)
        r.2.2,
  ),
)

-- another caller's event leaves a held lock held
kept_value : (cells : Cells) (m : ℕ → ℕ) (k c d lock : ℕ) (did : Did) → c ≢ d → is_lock cells lock
    ≡ true → may cells m d did ≡ true
    → (m lock ≡ c + 1) ⊎ (unwrap_or (made_of lock d did) (m lock) ≡ c + 1) → changes lock did
    ≡ false
kept_value cells m k c d lock did other kind allowed held = grind arith

held_after : (cells : Cells) (m : ℕ → ℕ) (c lock : ℕ) (e : Stamped) → c ≢ e.caller
    → is_lock cells lock ≡ true → may cells m e.caller e.did ≡ true
    → m lock ≡ c + 1 → step m e lock ≡ c + 1
held_after cells m c lock e other kind allowed h = search (step_same, kept_value, arith)

held_before : (cells : Cells) (m : ℕ → ℕ) (c lock : ℕ) (e : Stamped) → c ≢ e.caller
    → is_lock cells lock ≡ true → may cells m e.caller e.did ≡ true
    → step m e lock ≡ c + 1 → m lock ≡ c + 1
held_before cells m c lock e other kind allowed h = grind (arith, step_same, kept_value)

swap_guards : (cells : Cells) (m : ℕ → ℕ) (a b : Stamped) (es : List Stamped) (cell lock : ℕ)
    → a.caller ≢ b.caller → Apart a.did b.did
    → may cells m a.caller a.did ≡ true → may cells m b.caller b.did ≡ true → is_lock cells lock
    ≡ true
    → Guards cell lock m (a ∷ b ∷ es) → Guards cell lock m (b ∷ a ∷ es)
swap_guards cells m a b es cell lock other far first second kind h = (
  λ access. held_before cells m b.caller lock a (λ e. other (sym e)) kind first (h.1.0 access),
  (
    λ access. held_after cells m a.caller lock b other kind second (h.0 access),
    subst (λ n. Guards cell lock n es) (order_of_steps m a b far) h.1.1,
  ),
)

-- more events before the two
free_later : (cells : Cells) (m : ℕ → ℕ) (e : Stamped) (es : List Stamped) (cell : ℕ)
    → Free cells m (e ∷ es) cell → Free cells (step m e) es cell
free_later cells m e es cell (alone c low h) = alone c low h.1
free_later cells m e es cell (unwritten h) = unwritten h.1
free_later cells m e es cell (guarded lock kind h) = guarded lock kind h.1

only_within : (cell c : ℕ) (before : List Stamped) (a b : Stamped) (es : List Stamped)
    → Only cell c (before ++ a ∷ b ∷ es) → Only cell c (before ++ b ∷ a ∷ es)
only_within cell c [] a b es h = (h.1.0, (h.0, h.1.1))
only_within cell c (x ∷ before) a b es h = (h.0, only_within cell c before a b es h.1)

unwritten_within : (cell : ℕ) (before : List Stamped) (a b : Stamped) (es : List Stamped)
    → Unwritten cell (before ++ a ∷ b ∷ es)
    → Unwritten cell (before ++ b ∷ a ∷ es)
unwritten_within cell [] a b es h = (h.1.0, (h.0, h.1.1))
unwritten_within cell (x ∷ before) a b es h = (h.0, unwritten_within cell before a b es h.1)

-- which cells are race-free, by a test
abbrev pub Frees : Cells → (ℕ → ℕ) → (ℕ → Bool) → List Stamped → Type 0
Frees cells m free es = (cell : ℕ) → free cell ≡ true → Free cells m es cell

-- two neighbouring events apart, wherever they stand, and the facts that say so
apart_within : (cells : Cells) (m : ℕ → ℕ) (free : ℕ → Bool) (before : List Stamped) (a b : Stamped)
    (es : List Stamped) → a.caller ≢ b.caller
    → is_movable free a b ≡ true → Frees cells m free (before ++ a ∷ b ∷ es)
    → Runs cells m (before ++ a ∷ b ∷ es) → Apart a.did b.did
apart_within cells m free [] a b es other move frees r = apart cells m free a b es other r.1 r.2.1
    move frees
apart_within cells m free (x ∷ before) a b es other move frees r = apart_within cells
    (step m x) free before a b es other move (λ cell e. free_later _ m x _ _ (frees _ e)) r.2

runs_within : (cells : Cells) (m : ℕ → ℕ) (before : List Stamped) (a b : Stamped)
    (es : List Stamped) → Apart a.did b.did
    → Runs cells m (before ++ a ∷ b ∷ es) → Runs cells m (before ++ b ∷ a ∷ es)
runs_within cells m [] a b es far r = swap_runs cells m a b es far r
runs_within cells m (x ∷ before) a b es far r =
    (r.0, r.1, runs_within cells (step m x) before a b es far r.2)

guards_within : (cells : Cells) (m : ℕ → ℕ) (before : List Stamped) (a b : Stamped)
    (es : List Stamped) (cell lock : ℕ) → a.caller ≢ b.caller
    → Apart a.did b.did → Runs cells m (before ++ a ∷ b ∷ es) → is_lock cells lock ≡ true
    → Guards cell lock m (before ++ a ∷ b ∷ es)
    → Guards cell lock m (before ++ b ∷ a ∷ es)
guards_within cells m [] a b es cell lock other far r kind h =
    swap_guards cells m a b es cell lock other far r.1 (second_first cells m a b far r.2.1) kind h
guards_within cells m (x ∷ before) a b es cell lock other far r kind h =
    (h.0, guards_within cells (step m x) before a b es cell lock other far r.2 kind h.1)

free_within : (cells : Cells) (m : ℕ → ℕ) (before : List Stamped) (a b : Stamped)
    (es : List Stamped) (cell : ℕ) → a.caller ≢ b.caller
    → Apart a.did b.did → Runs cells m (before ++ a ∷ b ∷ es)
    → Free cells m (before ++ a ∷ b ∷ es) cell → Free cells m (before ++ b ∷ a ∷ es) cell
free_within cells m before a b es cell other far r (alone c low h) = alone c low
    (only_within cell c before a b es h)
free_within cells m before a b es cell other far r (unwritten h) = unwritten
    (unwritten_within cell before a b es h)
free_within cells m before a b es cell other far r (guarded lock kind h) =
    guarded lock kind (guards_within cells m before a b es cell lock other far r kind h)

-- two neighbouring events exchanged
pub exchange_runs : (cells : Cells) (m : ℕ → ℕ) (free : ℕ → Bool) (before : List Stamped)
    (a b : Stamped) (es : List Stamped) → a.caller ≢ b.caller
    → is_movable free a b ≡ true → Frees cells m free (before ++ a ∷ b ∷ es)
    → Runs cells m (before ++ a ∷ b ∷ es) → Runs cells m (before ++ b ∷ a ∷ es)
exchange_runs cells m free before a b es other move frees r = runs_within cells m before a b es
    (apart_within cells m free before a b es other move frees r) r

pub exchange_frees : (cells : Cells) (m : ℕ → ℕ) (free : ℕ → Bool) (before : List Stamped)
    (a b : Stamped) (es : List Stamped) → a.caller ≢ b.caller
    → is_movable free a b ≡ true → Frees cells m free (before ++ a ∷ b ∷ es)
    → Runs cells m (before ++ a ∷ b ∷ es)
    → (cell : ℕ) → Free cells m (before ++ a ∷ b ∷ es) cell
    → Free cells m (before ++ b ∷ a ∷ es) cell
exchange_frees cells m free before a b es other move frees r cell h =
    search (free, free_within, apart_within, arith)
