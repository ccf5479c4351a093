-- The logs of a batch, one after the other.
use Rattle.vyrd_batch.proofs.Prelude
use Prelude.{◌≡◌, ℕ, zero, suc, ◌+◌, ◌-◌, ◌<◌, ◌≤◌, Bool, true, false, List, [], ◌∷◌, ◌++◌, length}
use Prelude.{drop, Option, Some, None, Result, Ok, Err, refl, ap, ◌∙◌, sym, arith, append_assoc}
use Prelude.{append-nil, bytes_eq, AllByRecursion, bytes_eq-Decides, bytes_same, is_one_line, Span}
use Prelude.{most_logs, first_word, last_line, Cut, first_line, log_at, span_before, logs_from}
use Prelude.{logs_behind, batch_reading, LiesWithin}
use Rattle.vyrd_batch.proofs.LineFacts.{no_line, one_line}

-- the test of two lists that aren't the same
pub other_bytes : (xs ys : List ℕ) → (xs ≡ ys → ⊥) → bytes_eq xs ys ≡ false
other_bytes xs ys apart = by_test (bytes_eq xs ys) refl
  where
    by_test : (b : Bool) → bytes_eq xs ys ≡ b → bytes_eq xs ys ≡ false
    by_test true e = absurd (apart ((bytes_eq-Decides xs ys).0 e))
    by_test false e = e

same_bytes : (xs ys : List ℕ) → xs ≡ ys → bytes_eq xs ys ≡ true
same_bytes xs ys e = ap (λ zs. bytes_eq zs ys) e ∙ bytes_same ys

-- logs that were found before the others
abbrev pub spans_after : List Span → Result (List Span) ℕ → Result (List Span) ℕ
spans_after spans (Ok more) = Ok (spans ++ more)
spans_after spans (Err log) = Err log

none_before : (r : Result (List Span) ℕ) → spans_after [] r ≡ r
none_before r = search arith

one_before : (spans : List Span) (span : Span) (r : Result (List Span) ℕ)
    → spans_after spans (span_before span r) ≡ spans_after (spans ++ span ∷ []) r
one_before spans span r = search (append_assoc, arith)

-- at the last line
pub logs_end : (more log place : ℕ) (bytes : List ℕ) → bytes ≡ last_line
    → logs_from more log place bytes ≡ Ok []
unfolding logs_from
logs_end more log place bytes e = search (same_bytes, arith)

-- where no more logs may come
pub logs_full : (log place : ℕ) (bytes : List ℕ) → (bytes ≡ last_line → ⊥)
    → logs_from zero log place bytes ≡ Err log
unfolding logs_from
logs_full log place bytes apart = cc (other_bytes bytes last_line apart)

-- at a line that isn't the last
pub at_line : (more log place : ℕ) (bytes : List ℕ) (o : Option Span) → (bytes ≡ last_line → ⊥)
    → log_at place bytes ≡ o
    → logs_from (suc more) log place bytes ≡ elim o as (λ _. Result (List Span) ℕ) [
      | None ↦ Err log
      | Some span ↦ span_before span
          (logs_from more (log + 1) span.past (drop (span.past - place) bytes))
    ]
unfolding logs_from
at_line more log place bytes o apart is = search (other_bytes, arith)

-- What stands from a place on, after the spans that were found, is what all bytes say.
pub record HasFound (whole : Result (List Span) ℕ) (limit : ℕ) (spans : List Span) (place : ℕ)
    (rest : List ℕ) : Type 0 where
  pub few : length spans ≤ most_logs
  pub goes_on : whole ≡ spans_after spans
      (logs_from (most_logs - length spans) (length spans) place rest)
  pub within : AllByRecursion (LiesWithin limit) spans
  pub place_is : place + length rest ≡ limit

pub found_none : (place : ℕ) (bytes : List ℕ) (spans : List Span) → spans ≡ []
    → HasFound (logs_from most_logs 0 place bytes) (place + length bytes) spans place bytes
found_none place bytes spans none = grind (arith, none_before (logs_from most_logs 0 place bytes))

pub all_more : (P : Span → Type 0) (spans : List Span) (span : Span) → AllByRecursion P spans
    → P span → AllByRecursion P (spans ++ span ∷ [])
all_more P [] span all one = (one, tt)
all_more P (s ∷ spans) span all one = (all.0, all_more P spans span all.1 one)

one_more : (whole : Result (List Span) ℕ) (spans : List Span) (span : Span) (n place : ℕ)
    (rest next : List ℕ) → length spans ≡ n → n < most_logs
    → whole ≡ spans_after spans (logs_from (most_logs - n) n place rest)
    → (rest ≡ last_line → ⊥) → log_at place rest ≡ Some span → next ≡ drop (span.past - place) rest
    → whole ≡ spans_after (spans ++ span ∷ [])
    (logs_from (most_logs - (n + 1)) (n + 1) span.past next)
one_more whole spans span n place rest next len room so apart is behind =
    grind (
      arith,
      at_line (most_logs - (n + 1)) n place rest (Some span) apart is,
      one_before spans
          span (logs_from (most_logs - (n + 1)) (n + 1) span.past (drop (span.past - place) rest)),
    )

pub found_more : (whole : Result (List Span) ℕ) (limit : ℕ) (spans new : List Span) (span : Span)
    (place : ℕ) (rest next : List ℕ)
    → HasFound whole limit spans place rest → length spans < most_logs → (rest ≡ last_line → ⊥)
    → log_at place rest ≡ Some span
    → next ≡ drop (span.past - place) rest → span.first ≤ span.past → span.past + length next
    ≡ place + length rest
    → new ≡ spans ++ span ∷ [] → HasFound whole limit new span.past next
found_more whole limit spans new span place rest next found room apart is behind ordered place_next
    grown =
    rw grown (record {
      few = omega (arith, len, room);
      goes_on = one_more whole spans span
          (length spans) place rest next refl room found.goes_on apart is behind
          ∙ ap (λ n. spans_after (spans ++ span ∷ []) (logs_from (most_logs - n) n span.past next))
          (sym len);
      within = all_more _ _ _ found.within (ordered, omega (arith, place_next, found.place_is));
      place_is = place_next ∙ found.place_is;
    })
  where
    len : length (spans ++ span ∷ []) ≡ length spans + 1
    len = length_more spans
      where
        length_more : (xs : List Span) → length (xs ++ span ∷ []) ≡ length xs + 1
        length_more [] = refl
        length_more (x ∷ xs) = omega (arith, length_more xs)

pub found_all : (whole : Result (List Span) ℕ) (limit : ℕ) (spans : List Span) (place : ℕ)
    (rest : List ℕ)
    → HasFound whole limit spans place rest → rest ≡ last_line → whole ≡ Ok spans
found_all whole limit spans place rest found is =
    found.goes_on
    ∙ ap (spans_after spans) (logs_end (most_logs - length spans) (length spans) place rest is)
    ∙ ap Ok (append-nil spans)

pub found_too_many : (whole : Result (List Span) ℕ) (limit : ℕ) (spans : List Span) (place log : ℕ)
    (rest : List ℕ)
    → HasFound whole limit spans place rest → (rest ≡ last_line → ⊥) → length spans ≡ most_logs
    → length spans ≡ log → whole ≡ Err log
found_too_many whole limit spans place log rest found apart full is = search (logs_full, arith)

pub found_no_log : (whole : Result (List Span) ℕ) (limit : ℕ) (spans : List Span) (place log : ℕ)
    (rest : List ℕ)
    → HasFound whole limit spans place rest → (rest ≡ last_line → ⊥)
    → (length spans ≡ most_logs → ⊥) → log_at place rest ≡ None
    → length spans ≡ log → whole ≡ Err log
found_no_log whole limit spans place log rest found apart room none is =
    let low : length spans < most_logs = omega (arith, found.few, room) in
    let count : most_logs - length spans ≡ suc (most_logs - (length spans + 1)) = omega arith in
    found.goes_on ∙ ap (λ n. spans_after spans (logs_from n (length spans) place rest)) count
    ∙ ap (spans_after spans)
    (at_line (most_logs - (length spans + 1)) (length spans) place rest None apart none) ∙ ap Err is

-- the whole input
pub reading_at : (bytes : List ℕ) (o : Option Cut) → first_line bytes ≡ o → batch_reading bytes
    ≡ elim o as (λ _. Result (List Span) ℕ) [
      | None ↦ Err 0
      | Some cut ↦ logs_behind cut
    ]
unfolding batch_reading
reading_at bytes o is = search arith

pub no_first_line : (bytes : List ℕ) → is_one_line bytes ≡ true → batch_reading bytes ≡ Err 0
no_first_line bytes e = reading_at bytes None (no_line bytes e)

at_first : (bytes line rest : List ℕ) → is_one_line line ≡ true → bytes ≡ line ++ 10 ∷ rest
    → batch_reading bytes ≡ logs_behind (record { line = line; rest = rest })
at_first bytes line rest e is = search (reading_at, first_line, one_line, arith)

pub other_first_line : (bytes line rest : List ℕ) → is_one_line line ≡ true → bytes ≡ line
    ++ 10 ∷ rest → (line ≡ first_word → ⊥) → batch_reading bytes ≡ Err 0
other_first_line bytes line rest e is apart =
    cc (at_first bytes line rest e is, other_bytes line first_word apart)

pub behind_first_line : (bytes line rest : List ℕ) → is_one_line line ≡ true → bytes ≡ line
    ++ 10 ∷ rest → line ≡ first_word
    → batch_reading bytes ≡ logs_from most_logs 0 (length line + 1) rest
behind_first_line bytes line rest e is same =
    cc (at_first bytes line rest e is, same_bytes line first_word same)
