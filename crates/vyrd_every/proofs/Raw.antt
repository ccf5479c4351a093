-- A plain word that no open block has written has the value that the log shows.
use Rattle.vyrd_every.proofs.Prelude.{◌≡◌, ℕ, ◌<◌, true, false, List, [], ◌∷◌, ◌∙◌, sym, arith}
use Rattle.vyrd_every.proofs.Prelude.{nat_tests, Stamped, holds_word, Cells, cells_of, is_lock}
use Rattle.vyrd_every.proofs.Prelude.{value_in, WellFormed, Legal, last_is_value, well_formed_sound}
use Rattle.vyrd_every.proofs.Prelude.{part_of, situation_after, KeepsTo, AreLegal, does, held_is}
use Rattle.vyrd_every.proofs.Prelude.{Structure, Fits, shown_by, Access, log_in}

pub legal_too : (cells : Cells) (earlier : List Stamped) → AreLegal cells earlier
    → Legal cells earlier
legal_too cells [] legal = tt
legal_too cells (e ∷ earlier) legal =
    (does cells earlier e legal.0, legal_too cells earlier legal.1)

pub raw_is_shown : (S : Structure) (earlier : List Stamped) (w : ℕ) → Fits S
    → AreLegal (cells_of S.header) earlier → WellFormed S.header (log_in earlier)
    → w < S.words → ((d : ℕ) → d < S.header.callers → holds_word d w (log_in earlier) ≡ false)
    → value_in earlier w ≡ shown_by (log_in earlier) w
raw_is_shown S earlier w is legal kept low free =
    sym ((well_formed_sound S.header w (log_in earlier) kept).free free
    ∙ last_is_value (cells_of S.header) w earlier (is.plain w low)
    (legal_too (cells_of S.header) earlier legal))

-- the guard of a word is a lock
pub its_lock : (S : Structure) (cell : ℕ) → Fits S → cell < S.words → is_lock (cells_of S.header)
    (S.guard cell) ≡ true
its_lock S cell is low = is.locks cell low

-- two callers don't both hold it
pub one_holder : (S : Structure) (c d : ℕ) (earlier : List Stamped) (cell : ℕ) → Fits S
    → AreLegal (cells_of S.header) earlier
    → KeepsTo S.header (part_of c earlier) → KeepsTo S.header (part_of d earlier)
    → Access S (situation_after (part_of c earlier)) cell
    → Access S (situation_after (part_of d earlier)) cell → c ≡ d
one_holder S c d earlier cell is legal keeps_c keeps_d access_c access_d =
    grind (arith, nat_tests, its_lock, held_is)
