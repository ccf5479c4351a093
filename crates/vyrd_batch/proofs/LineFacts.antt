-- What the line before a log says, and where its bytes stand.
use Rattle.vyrd_batch.proofs.Prelude
use Prelude.{◌≡◌, ℕ, ◌+◌, ◌-◌, ◌<◌, ◌≤◌, ◌^◌, true, cond, not, ◌&&◌, List, [], ◌∷◌, ◌++◌, length}
use Prelude.{drop, Option, Some, None, refl, arith, ◌==◌, nat_le, bytes_eq, not-true}
use Prelude.{drop-append-add, number_of_decimal, bytes_same, first_true, second_true, both_true}
use Prelude.{is_at_most, isnt_at_most, same_number, is_one_line, most_bytes, logs_end_within}
use Prelude.{log_word, first_line, size_in, span_of, log_at}

-- bytes without a line feed have no first line, and others have
pub no_line : (bytes : List ℕ) → is_one_line bytes ≡ true → first_line bytes ≡ None
no_line [] e = refl
no_line (b ∷ bytes) e =
    cc (not-true (b == 10) (first_true _ _ e), no_line bytes (second_true (not (b == 10)) _ e))

pub one_line : (line rest : List ℕ) → is_one_line line ≡ true → first_line (line ++ 10 ∷ rest)
    ≡ Some (record { line = line; rest = rest })
one_line [] rest e = cc (same_number 10)
one_line (b ∷ line) rest e =
    cc (not-true (b == 10) (first_true _ _ e), one_line line rest (second_true (not (b == 10)) _ e))

-- the number in the line before a log of that many bytes
size_of_word : (n : ℕ) → n < 2 ^ 64 → size_in (log_word n)
    ≡ cond (nat_le n most_bytes && bytes_eq (log_word n) (log_word n)) (Some n) None
size_of_word n small = grind (arith, small, number_of_decimal)

pub size_within : (n : ℕ) (line : List ℕ) → n < 2 ^ 32 → line ≡ log_word n → n ≤ most_bytes
    → Some n ≡ size_in line
size_within n line small is few = search (size_of_word, both_true, is_at_most, bytes_same, arith)

pub size_too_high : (n : ℕ) (line : List ℕ) → n < 2 ^ 32 → line ≡ log_word n → most_bytes < n
    → ◌≡◌ {A = Option ℕ} None (size_in line)
size_too_high n line small is high = grind (arith, small, size_of_word, isnt_at_most)

-- where no line ends
pub no_log : (place : ℕ) (bytes : List ℕ) → is_one_line bytes ≡ true → log_at place bytes ≡ None
no_log place bytes e = grind (arith, no_line)

-- a line, and what stands after it
behind_line : (place : ℕ) (bytes line rest : List ℕ) → is_one_line line ≡ true → bytes ≡ line
    ++ 10 ∷ rest
    → log_at place bytes ≡ span_of (place + length line + 1) rest (size_in line)
behind_line place bytes line rest e is = grind (arith, one_line)

pub no_size : (place : ℕ) (bytes line rest : List ℕ) → is_one_line line ≡ true → bytes ≡ line
    ++ 10 ∷ rest → None ≡ size_in line
    → log_at place bytes ≡ None
no_size place bytes line rest e is none = cc (behind_line place bytes line rest e is)

pub too_long : (place size : ℕ) (bytes line rest : List ℕ) → is_one_line line ≡ true → bytes ≡ line
    ++ 10 ∷ rest → Some size ≡ size_in line
    → length rest < size → log_at place bytes ≡ None
too_long place size bytes line rest e is some long = search (behind_line, isnt_at_most, arith)

pub too_far : (place size : ℕ) (bytes line rest : List ℕ) → is_one_line line ≡ true → bytes ≡ line
    ++ 10 ∷ rest → Some size ≡ size_in line
    → logs_end_within < place + length line + 1 + size → log_at place bytes ≡ None
too_far place size bytes line rest e is some far = search (behind_line, isnt_at_most, arith)

pub is_log : (place size : ℕ) (bytes line rest : List ℕ) → is_one_line line ≡ true → bytes ≡ line
    ++ 10 ∷ rest → Some size ≡ size_in line
    → size ≤ length rest → place + length line + 1 + size ≤ logs_end_within
    → log_at place bytes
    ≡ Some (record { first = place + length line + 1; past = place + length line + 1 + size })
is_log place size bytes line rest e is some fits near =
    search (behind_line, both_true, is_at_most, arith)

-- what stands after the log's bytes
pub behind_log : (place size : ℕ) (bytes line rest next : List ℕ) → bytes ≡ line ++ 10 ∷ rest
    → next ≡ drop size rest
    → next ≡ drop (place + length line + 1 + size - place) bytes
behind_log place size bytes line rest next is behind =
    grind (arith, drop-append-add line (10 ∷ rest) (1 + size))
