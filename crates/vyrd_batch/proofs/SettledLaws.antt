-- Long inputs are settled.
use Rattle.vyrd_batch.proofs.Prelude
use Prelude.{◌≡◌, ℕ, zero, suc, ◌+◌, ◌-◌, ◌<◌, ◌≤◌, Bool, true, false, cond, ◌&&◌, List, [], ◌∷◌}
use Prelude.{◌++◌, length, drop, Option, Some, None, Result, Ok, Err, refl, ap, ◌∙◌, sym, arith}
use Prelude.{length-append, length-drop, ◌==◌, nat_le, option_map, bytes_eq, bytes_eq-Decides}
use Prelude.{is_at_most, at_most_of, isnt_at_most, Span, most_logs, logs_end_within, first_word}
use Prelude.{last_line, Cut, longer, first_line, size_in, span_of, log_at, span_before, logs_from}
use Prelude.{logs_behind, batch_reading, batch_logs}
use Rattle.std.proofs.lemmas.List.{drop-append-le}
use Rattle.vyrd_batch.specs.LongBatches.{longest_batch_input}
use Rattle.vyrd_batch.proofs.LogFacts.{other_bytes}

-- What the first line of longer bytes is: the same, or one that is no shorter than these bytes.
pub record IsLonger (bytes more : List ℕ) (o all : Option Cut) : Type 0 where
  pub same : (cut : Cut) → o ≡ Some cut
      → all ≡ Some (record { line = cut.line; rest = cut.rest ++ more })
  pub other : o ≡ None → (cut : Cut) → all ≡ Some cut → length bytes ≤ length cut.line

next_byte : (b : ℕ) (bytes more : List ℕ) (o all : Option Cut) → IsLonger bytes more o all
    → IsLonger (b ∷ bytes) more (option_map (longer b) o) (option_map (longer b) all)
next_byte b bytes more o all is = search arith

pub first_longer : (bytes more : List ℕ) → IsLonger bytes more (first_line bytes)
    (first_line (bytes ++ more))
first_longer [] more = record { same = λ cut e. cc; other = λ e cut f. omega arith }
first_longer (b ∷ bytes) more = by_test (b == 10) (first_longer bytes more)
  where
    by_test : (t : Bool) → IsLonger bytes more (first_line bytes) (first_line (bytes ++ more))
        → IsLonger (b ∷ bytes) more
        (cond t (Some (record { line = []; rest = bytes }))
        (option_map (longer b) (first_line bytes)))
        (cond t (Some (record { line = []; rest = bytes ++ more }))
        (option_map (longer b) (first_line (bytes ++ more))))
    by_test t is = search (more, next_byte, first_line, arith)

-- how long bytes are that were cut
pub cut_len : (bytes : List ℕ) (cut : Cut) → first_line bytes ≡ Some cut → length bytes
    ≡ length cut.line + 1 + length cut.rest
cut_len [] cut e = cc
cut_len (b ∷ bytes) cut e = by_test (b == 10) (first_line bytes) (cut_len bytes) e
  where
    by_test : (t : Bool) (o : Option Cut)
        → ((inner : Cut) → o ≡ Some inner → length bytes ≡ length inner.line + 1
        + length inner.rest)
        → cond t (Some (record { line = []; rest = bytes })) (option_map (longer b) o) ≡ Some cut
        → length (b ∷ bytes) ≡ length cut.line + 1 + length cut.rest
    by_test t o inner e = search (longer, arith)

-- a span begins after the place, and ends within the limit and the bytes
pub record IsNear (place len : ℕ) (span : Span) : Type 0 where
  pub later : place ≤ span.past
  pub near : span.past ≤ logs_end_within
  pub within : span.past ≤ place + len

span_near : (place first : ℕ) (rest : List ℕ) (o : Option ℕ) (span : Span) → place ≤ first
    → span_of first rest o ≡ Some span
    → IsNear place (first - place + length rest) span
span_near place first rest o span low e = search arith

log_near : (place : ℕ) (bytes : List ℕ) (span : Span) → log_at place bytes ≡ Some span
    → IsNear place (length bytes) span
log_near place bytes span e = search (first_line, cut_len, span_near, arith)

-- where the bytes are long, more of them change no span
span_settled : (first : ℕ) (rest more : List ℕ) (o : Option ℕ) → logs_end_within ≤ first
    + length rest
    → span_of first (rest ++ more) o ≡ span_of first rest o
span_settled first rest more None long = refl
span_settled first rest more (Some size) long =
    cc (by_near (nat_le (first + size) logs_end_within) refl)
  where
    by_near : (t : Bool) → nat_le (first + size) logs_end_within ≡ t
        → (nat_le size (length (rest ++ more)) && t) ≡ (nat_le size (length rest) && t)
    by_near true e =
        let near : first + size ≤ logs_end_within = at_most_of (first + size) logs_end_within e in
        let here : nat_le size (length rest) ≡ true = is_at_most size (length rest) (omega arith) in
        let there : nat_le size (length (rest ++ more)) ≡ true = is_at_most size
        (length (rest ++ more)) (omega (arith, length-append rest more)) in
        ap (λ b. b && true) (there ∙ sym here)
    by_near false e = no_matter (nat_le size (length (rest ++ more))) (nat_le size (length rest))
      where
        no_matter : (a b : Bool) → (a && false) ≡ (b && false)
        no_matter a b = search arith

span_far : (first : ℕ) (rest : List ℕ) (o : Option ℕ) → logs_end_within < first
    → span_of first rest o ≡ None
span_far first rest o far = search (isnt_at_most, arith)

log_settled : (place : ℕ) (bytes more : List ℕ) → longest_batch_input ≤ place + length bytes
    → log_at place (bytes ++ more) ≡ log_at place bytes
log_settled place bytes more long = by_cut (first_line bytes) (first_line (bytes ++ more))
    (first_longer bytes more) (cut_len bytes)
  where
    at_cut : Option Cut → Option Span
    at_cut o = elim o as (λ _. Option Span) [
      | None ↦ None
      | Some cut ↦ span_of
          (place + length cut.line + 1) cut.rest (size_in cut.line)
    ]

    by_cut : (o all : Option Cut) → IsLonger bytes more o all
        → ((cut : Cut) → o ≡ Some cut → length bytes ≡ length cut.line + 1 + length cut.rest)
        → at_cut all ≡ at_cut o
    by_cut None None is len = refl
    by_cut None (Some cut) is len = search (span_far, arith)
    by_cut (Some cut) all is len =
        ap at_cut (is.same cut refl)
        ∙ span_settled (place + length cut.line + 1) cut.rest more (size_in cut.line)
        (omega (arith, len cut refl))

word_of : (line : List ℕ) → bytes_eq line first_word ≡ true → line ≡ first_word
word_of line e = (bytes_eq-Decides line first_word).0 e

-- bytes of another length than the last line's aren't that line
longer_isnt_last : (bytes : List ℕ) → 4 < length bytes → bytes_eq bytes last_line ≡ false
longer_isnt_last bytes long = search (other_bytes, arith)

logs_settled : (n log place : ℕ) (bytes more : List ℕ) → place ≤ logs_end_within
    → longest_batch_input ≤ place + length bytes
    → logs_from n log place (bytes ++ more) ≡ logs_from n log place bytes
unfolding logs_from
logs_settled zero log place bytes more near long =
    let more_long : 4 < length (bytes ++ more) = omega (arith, length-append bytes more) in
    ap (λ t. cond t (Ok []) (Err log)) (longer_isnt_last (bytes ++ more) more_long
    ∙ sym (longer_isnt_last bytes (omega arith)))
logs_settled (suc n) log place bytes more near long =
    ap (λ t. cond t (Ok []) (at_log (bytes ++ more) (log_at place (bytes ++ more))))
    (longer_isnt_last (bytes ++ more) more_long)
    ∙ ap (at_log (bytes ++ more)) (log_settled place bytes more long)
    ∙ by_log (λ rest place near long. logs_settled n (log + 1) place rest more near long)
    (log_at place bytes) refl
    ∙ sym (ap (λ t. cond t (Ok []) (at_log bytes (log_at place bytes)))
    (longer_isnt_last bytes (omega arith)))
  where
    more_long : 4 < length (bytes ++ more)
    more_long = omega (arith, length-append bytes more, near, long)

    at_log : List ℕ → Option Span → Result (List Span) ℕ
    at_log bytes o = elim o as (λ _. Result (List Span) ℕ) [
      | None ↦ Err log
      | Some span ↦ span_before span
          (logs_from n (log + 1) span.past (drop (span.past - place) bytes))
    ]

    by_log : ((rest : List ℕ) (p : ℕ) → p ≤ logs_end_within → longest_batch_input ≤ p + length rest
        → logs_from n (log + 1) p (rest ++ more) ≡ logs_from n (log + 1) p rest)
        → (o : Option Span) → log_at place bytes ≡ o → at_log (bytes ++ more) o ≡ at_log bytes o
    by_log settled None e = refl
    by_log settled (Some span) e =
        let is = log_near place bytes span e in
        let rest = drop (span.past - place) bytes in
        ap (λ bytes. span_before span (logs_from n (log + 1) span.past bytes))
        (drop-append-le (span.past - place) bytes more (omega (arith, is.later, is.within)))
        ∙ ap (span_before span) (settled rest span.past is.near
        (omega (arith, length-drop (span.past - place) bytes, is.later, is.within, long)))

pub batch_settled : (bytes more : List ℕ) → longest_batch_input ≤ length bytes
    → batch_reading (bytes ++ more) ≡ batch_reading bytes
unfolding batch_reading
batch_settled bytes more long = by_cut (first_line bytes) (first_line (bytes ++ more))
    (first_longer bytes more) (cut_len bytes)
  where
    at_cut : Option Cut → Result (List Span) ℕ
    at_cut o = elim o as (λ _. Result (List Span) ℕ) [ None ↦ Err 0 | Some cut ↦ logs_behind cut ]

    by_cut : (o all : Option Cut) → IsLonger bytes more o all
        → ((cut : Cut) → o ≡ Some cut → length bytes ≡ length cut.line + 1 + length cut.rest)
        → at_cut all ≡ at_cut o
    by_cut None None is len = refl
    by_cut None (Some cut) is len = search (other_bytes, arith)
    by_cut (Some cut) all is len =
        cc (is.same cut refl, by_word (bytes_eq cut.line first_word) (bytes_eq_word cut.line))
      where
        bytes_eq_word : (line : List ℕ) → bytes_eq line first_word ≡ true → length line ≡ 5
        bytes_eq_word line e = ap length (word_of line e)

        by_word : (t : Bool) → (t ≡ true → length cut.line ≡ 5)
            → cond t (logs_from most_logs 0 (length cut.line + 1) (cut.rest ++ more)) (Err 0)
            ≡ cond t (logs_from most_logs 0 (length cut.line + 1) cut.rest) (Err 0)
        by_word true five = search (logs_settled, arith)
        by_word false five = refl

-- long bytes are refused somewhere
logs_refused : (n log place : ℕ) (bytes : List ℕ) → place ≤ logs_end_within → longest_batch_input
    ≤ place + length bytes
    → (at : ℕ) × (logs_from n log place bytes ≡ Err at)
unfolding logs_from
logs_refused zero log place bytes near long = (log, cc (longer_isnt_last bytes (omega arith)))
logs_refused (suc n) log place bytes near long =
    let found = by_log (λ rest p near long. logs_refused n (log + 1) p rest near long)
    (log_at place bytes) refl in (found.0, cc (longer_isnt_last bytes (omega arith), found.1))
  where
    at_log : Option Span → Result (List Span) ℕ
    at_log o = elim o as (λ _. Result (List Span) ℕ) [
      | None ↦ Err log
      | Some span ↦ span_before
          span (logs_from n (log + 1) span.past (drop (span.past - place) bytes))
    ]

    by_log : ((rest : List ℕ) (p : ℕ) → p ≤ logs_end_within → longest_batch_input ≤ p + length rest
        → (at : ℕ) × (logs_from n (log + 1) p rest ≡ Err at))
        → (o : Option Span) → log_at place bytes ≡ o → (at : ℕ) × (at_log o ≡ Err at)
    by_log refused None e = (log, refl)
    by_log refused (Some span) e =
        let is = log_near place bytes span e in
        let found = refused (drop (span.past - place) bytes) span.past is.near
        (omega (arith, length-drop (span.past - place) bytes, is.later, is.within, long)) in
        (found.0, ap (span_before span) found.1)

pub batch_refused : (bytes : List ℕ) → longest_batch_input ≤ length bytes → (log : ℕ)
    × (batch_reading bytes ≡ Err log)
unfolding batch_reading
batch_refused bytes long = by_cut (first_line bytes) (cut_len _)
  where
    by_cut : (o : Option Cut)
        → ((cut : Cut) → o ≡ Some cut → length bytes ≡ length cut.line + 1 + length cut.rest)
        → (log : ℕ) × (elim o as (λ _. Result (List Span) ℕ) [
          | None ↦ Err 0
          | Some cut ↦ logs_behind
              cut
        ] ≡ Err log)
    by_cut None len = (0, refl)
    by_cut (Some cut) len = by_word (bytes_eq cut.line _) (λ e. ap length (word_of _ e))
      where
        by_word : (t : Bool) → (t ≡ true → length cut.line ≡ 5)
            → (log : ℕ) × (cond t (logs_from most_logs 0 (length cut.line + 1) cut.rest) (Err 0)
            ≡ Err log)
        by_word true five = search (logs_refused, arith)
        by_word false five = (0, refl)

-- what a long input says as logs
pub logs_are_settled : (bytes more : List ℕ) → longest_batch_input ≤ length bytes
    → batch_logs (bytes ++ more) ≡ batch_logs bytes
logs_are_settled bytes more long = cc (batch_settled bytes more long, (batch_refused bytes long).1)
