-- Two neighbouring events that may be exchanged don't meet: where one changes a cell, the other
-- doesn't touch it.
use Rattle.vyrd_mover.proofs.Prelude.{◌≡◌, ◌≢◌, ℕ, Bool, true, false, ◌||◌, List, ◌∷◌, arith, ◌==◌}
use Rattle.vyrd_mover.proofs.Prelude.{or_left, or_right, Did, Took, Gave, Stamped, Cells, is_plain}
use Rattle.vyrd_mover.proofs.Prelude.{is_lock, first_true, same_of, is_access_of, is_write_to}
use Rattle.vyrd_mover.proofs.Prelude.{is_movable}
use Rattle.vyrd_base.proofs.CellLaws.{plain_isnt}
use Rattle.vyrd_mover.proofs.TruthLaws.{either_true}
use Rattle.vyrd_mover.proofs.Running.{step, may, touches, changes, step_same}
use Rattle.vyrd_mover.proofs.FreeCells.{Free, alone, unwritten}

-- an event at a plain cell leaves each lock as it is
pub access_keeps : (cells : Cells) (m : ℕ → ℕ) (caller cell lock : ℕ) (did : Did)
    → is_access_of cell did ≡ true → may cells m caller did ≡ true
    → is_lock cells lock ≡ true → changes lock did ≡ false
access_keeps cells m caller cell lock did access allowed kind = search
    (plain_isnt, first_true, changes, arith)

-- two callers don't both use a race-free cell one after the other, where one of them writes it
pub no_clash : (cells : Cells) (m : ℕ → ℕ) (a b : Stamped) (es : List Stamped) (cell : ℕ)
    → Free cells m (a ∷ b ∷ es) cell → a.caller ≢ b.caller
    → may cells m a.caller a.did ≡ true → is_access_of cell a.did ≡ true → is_access_of cell b.did
    ≡ true
    → (is_write_to cell a.did || is_write_to cell b.did) ≡ true → ⊥
no_clash cells m a b es cell e6 other allowed first second write = search
    (alone, unwritten, step, step_same, access_keeps, arith)

-- an event of this caller
abbrev event_by : ℕ → ℕ → Did → Stamped
event_by k c did = record { number = k; caller = c; did = did }

-- two callers don't both use a race-free cell, where one of them writes it
abbrev NoClash : (ℕ → Bool) → Did → Did → Type 0
NoClash free da db = (cell : ℕ) → free cell ≡ true → is_access_of cell da ≡ true
    → is_access_of cell db ≡ true
    → (is_write_to cell da || is_write_to cell db) ≡ true → ⊥

free_cell : (free : ℕ → Bool) (x y cell : ℕ) → (x == cell) ≡ true → (y == cell) ≡ true
    → (free x || free y) ≡ true → free cell ≡ true
free_cell free x y cell ex ey e = grind (arith, free, either_true, same_of)

plain_or_lock : (cells : Cells) (x l cell : ℕ) → is_plain cells x ≡ true → is_lock cells l ≡ true
    → (x == cell) ≡ true → (l == cell) ≡ true → ⊥
plain_or_lock cells x l cell plain kind ex el = grind arith

took_took : (cells : Cells) (m : ℕ → ℕ) (k c d x y cell : ℕ) → (x == cell) ≡ true → (y == cell)
    ≡ true
    → may cells (step m (event_by k c (Took x))) d (Took y) ≡ true → ⊥
took_took cells m k c d x y cell ex ey allowed = grind arith

took_gave : (cells : Cells) (m : ℕ → ℕ) (k c d x y cell : ℕ) → c ≢ d → (x == cell) ≡ true
    → (y == cell) ≡ true
    → may cells (step m (event_by k c (Took x))) d (Gave y) ≡ true → ⊥
took_gave cells m k c d x y cell other ex ey allowed = grind arith

gave_gave : (cells : Cells) (m : ℕ → ℕ) (k c d x y cell : ℕ) → (x == cell) ≡ true → (y == cell)
    ≡ true
    → may cells (step m (event_by k c (Gave x))) d (Gave y) ≡ true → ⊥
gave_gave cells m k c d x y cell ex ey allowed = grind arith

pub never : false ≡ true → ⊥
never e = cc

-- whether two events may be exchanged, by what they do
abbrev movable : (ℕ → Bool) → Did → Did → Bool
movable free da db = is_movable free (event_by 0 0 da) (event_by 0 0 db)

meet : (cells : Cells) (m : ℕ → ℕ) (free : ℕ → Bool) (k c d cell : ℕ) (da db : Did) → c ≢ d
    → may cells m c da ≡ true
    → may cells (step m (event_by k c da)) d db ≡ true → movable free da db ≡ true
    → NoClash free da db
    → touches cell da ≡ true → touches cell db ≡ true → (changes cell da || changes cell db) ≡ true
    → ⊥
meet cells m free k c d cell da db other first second move clash ta tb ch =
    search (never, free_cell, plain_or_lock, first_true, took_took, took_gave, gave_gave, arith)

-- if one of the two changes a cell, the other doesn't touch it
pub record Apart (a b : Did) : Type 0 where
  pub changed_first : (cell : ℕ) → changes cell a ≡ true → touches cell b ≡ true → ⊥
  pub changed_second : (cell : ℕ) → touches cell a ≡ true → changes cell b ≡ true → ⊥

pub changed_is_touched : (cell : ℕ) (did : Did) → changes cell did ≡ true → touches cell did ≡ true
changed_is_touched cell did e = grind (arith, never)

pub apart : (cells : Cells) (m : ℕ → ℕ) (free : ℕ → Bool) (a b : Stamped) (es : List Stamped)
    → a.caller ≢ b.caller
    → may cells m a.caller a.did ≡ true → may cells (step m a) b.caller b.did ≡ true
    → is_movable free a b ≡ true
    → ((cell : ℕ) → free cell ≡ true → Free cells m (a ∷ b ∷ es) cell) → Apart a.did b.did
apart cells m free a b es other first second move frees =
    let clash : NoClash free a.did b.did = λ cell e ta tb w. no_clash cells m a b es cell
    (frees cell e) other first ta tb w in
    record {
      changed_first = λ cell ca tb. meet cells m free a.number a.caller b.caller cell a.did b.did
          other first second move clash
          (changed_is_touched cell a.did ca) tb (or_left (changes cell a.did) _ ca);
      changed_second = λ cell ta cb. meet cells m free a.number a.caller b.caller cell a.did b.did
          other first second move clash
          ta (changed_is_touched cell b.did cb) (or_right (changes cell a.did) _ cb);
    }
