-- No line of a history has more than 64 bytes.
use Rattle.vyrd_mover.proofs.Prelude
use Prelude.{◌≡◌, ℕ, ◌<◌, ◌≤◌, ◌^◌, true, not, List, [], ◌∷◌, ◌++◌, map, length, arith}
use Prelude.{length-append, codes, decimal, nat_lt, AllByRecursion, Header, Subject, Did, Read}
use Prelude.{Wrote, Took, Gave, Marked, Stamped, end_line, is_kind_of, is_write, size_in_32_bits}
use Prelude.{callers_in_32_bits, both_true, first_true, second_true, below_of, Recorded}
use Prelude.{history_header_line, did_line, event_line, history_lines, is_did_of, is_event_of}
use Prelude.{KeepsLimits}
use Rattle.vyrd_base.proofs.LongLines.{short_entry, short_number, short_value}
use Rattle.vyrd_base.proofs.StructureLaws.{short_subject}

short_pair : (caller cell value : ℕ) (word : List ℕ) → caller < 2 ^ 32 → cell < 2 ^ 32
    → value < 2 ^ 64 → length word ≤ 5
    → length (decimal caller ++ 32 ∷ (word ++ 32 ∷ (decimal cell ++ 32 ∷ decimal value))) ≤ 64
short_pair caller cell value word lc lx lv lw =
    grind (arith, short_number, short_value, length-append)

short_one : (caller lock : ℕ) (word : List ℕ) → caller < 2 ^ 32 → lock < 2 ^ 32 → length word ≤ 5
    → length (decimal caller ++ 32 ∷ (word ++ 32 ∷ decimal lock)) ≤ 64
short_one caller lock word lc lx lw = grind (arith, short_number, length-append)

short_did : (subject : Subject) (caller : ℕ) (did : Did) → nat_lt caller (2 ^ 32) ≡ true
    → is_did_of subject did ≡ true → length (did_line caller did) ≤ 64
short_did subject caller (Read cell value) low is = short_pair caller cell value (codes "read")
    (below_of _ _ low) (below_of cell (2 ^ 32) (first_true _ _ is))
    (below_of value (2 ^ 64) (second_true (nat_lt cell (2 ^ 32)) _ is)) (omega arith)
short_did subject caller (Wrote cell value) low is = short_pair caller cell value (codes "wrote")
    (below_of _ _ low) (below_of cell (2 ^ 32) (first_true _ _ is))
    (below_of value (2 ^ 64) (second_true (nat_lt cell (2 ^ 32)) _ is)) (omega arith)
short_did subject caller (Took lock) low is = search (short_one, below_of, arith)
short_did subject caller (Gave lock) low is = search (short_one, below_of, arith)
short_did subject caller (Marked kind) low is = short_entry subject
    (record { caller = caller; kind = kind })
    (both_true (nat_lt caller (2 ^ 32)) (is_kind_of subject kind) low
    (first_true (is_kind_of subject kind) (not (is_write kind)) is))

pub short_first : (h : Header) → length (history_header_line h.subject h.size h.callers) ≤ 64
short_first h =
    grind (arith, short_number, size_in_32_bits, callers_in_32_bits, short_subject, length-append)

pub short_event : (subject : Subject) (e : Stamped) → is_event_of subject e ≡ true
    → length (event_line e) ≤ 64
short_event subject e is = search (short_did, first_true, second_true, arith)

short_later : (subject : Subject) (es : List Stamped)
    → AllByRecursion (λ e. is_event_of subject e ≡ true) es
    → AllByRecursion (λ line. length line ≤ 64) (map event_line es ++ end_line ∷ [])
short_later subject [] all = (omega arith, tt)
short_later subject (e ∷ es) all =
    (short_event subject e all.0, short_later subject es all.1)

pub short_lines : (r : Recorded) → KeepsLimits r → AllByRecursion (λ line. length line ≤ 64)
    (history_lines r)
short_lines r keeps = (short_first r.header, short_later r.header.subject r.history keeps.spelled)
