-- What is read as a batch is the text of one, and is read as its logs.
use Rattle.vyrd_batch.proofs.Prelude
use Prelude.{◌≡◌, ℕ, zero, suc, ◌+◌, ◌-◌, ◌≤◌, Bool, true, false, cond, ◌&&◌, List, [], ◌∷◌, ◌++◌}
use Prelude.{length, map, take, drop, Option, Some, None, Result, Ok, Err, refl, ap, ◌∙◌, sym}
use Prelude.{arith, append_assoc, length-append, length-take, same_Some, ◌==◌, nat_le, decimal}
use Prelude.{codes, option_map, flat_map, bytes_eq, AllByRecursion, take-append-drop}
use Prelude.{drop-append-add, drop-append_seam, take-append_seam, bytes_eq-Decides, number_of}
use Prelude.{ended_line, is_one_line, Span, most_logs, most_bytes, logs_end_within, first_word}
use Prelude.{log_word, last_line, Cut, longer, first_line, size_in, span_of, log_at, span_before}
use Prelude.{logs_from, logs_behind, batch_reading, bytes_of, logs_of, batch_logs, log_text}
use Rattle.vyrd_base.proofs.TestLaws.{same_of, at_most_of, first_true, second_true}
use Rattle.vyrd_base.proofs.SplitLaws.{lacks-append, decimal_lacks, no_line_feed}
use Rattle.vyrd_batch.specs.Batches.{batch_of, FitBatch}
use Rattle.vyrd_batch.proofs.LineFacts.{size_within, is_log}
use Rattle.vyrd_batch.proofs.LogFacts.{logs_end, at_line, behind_first_line}

-- bytes that were cut
pub cut_is : (bytes : List ℕ) (cut : Cut) → first_line bytes ≡ Some cut → bytes ≡ cut.line
    ++ 10 ∷ cut.rest
cut_is [] cut e = cc
cut_is (b ∷ bytes) cut e = by_test (b == 10) refl (first_line bytes) (cut_is bytes) e
  where
    by_test : (t : Bool) → (b == 10) ≡ t → (o : Option Cut)
        → ((inner : Cut) → o ≡ Some inner → bytes ≡ inner.line ++ 10 ∷ inner.rest)
        → cond t (Some (record { line = []; rest = bytes })) (option_map (longer b) o) ≡ Some cut
        → b ∷ bytes ≡ cut.line ++ 10 ∷ cut.rest
    by_test t is o inner e = search (same_of, longer, arith)

-- a line that says a size
pub record SaysSize (line : List ℕ) (size : ℕ) : Type 0 where
  pub is : line ≡ log_word size
  pub small : size ≤ most_bytes

size_is : (line : List ℕ) (size : ℕ) → size_in line ≡ Some size → SaysSize line size
size_is line size e = by_test (nat_le guess most_bytes && bytes_eq (log_word guess) line) refl e
  where
    guess : ℕ
    guess = number_of (drop 4 line)

    by_test : (t : Bool) → (nat_le guess most_bytes && bytes_eq (log_word guess) line) ≡ t
        → cond t (Some guess) None ≡ Some size → SaysSize line size
    by_test true is e =
        grind (
          arith,
          (bytes_eq-Decides (log_word guess) line).0 (second_true (nat_le guess
              most_bytes) _ is),
          same_Some guess size e,
          at_most_of guess most_bytes (first_true _ _ is),
        )
    by_test false is e = cc

-- A log stands at a place: its line and then its bytes, within the limits.
pub record StandsAt (place : ℕ) (bytes : List ℕ) (span : Span) : Type 0 where
  pub size : ℕ
  pub rest : List ℕ
  pub is : bytes ≡ log_word size ++ 10 ∷ rest
  pub fits : size ≤ length rest
  pub small : size ≤ most_bytes
  pub near : span.past ≤ logs_end_within
  pub first_is : span.first ≡ place + length (log_word size) + 1
  pub past_is : span.past ≡ span.first + size

pub stands_at : (place : ℕ) (bytes : List ℕ) (span : Span) → log_at place bytes ≡ Some span
    → StandsAt place bytes span
stands_at place bytes span e = by_cut (first_line bytes) (cut_is bytes) e
  where
    by_cut : (o : Option Cut) → ((cut : Cut) → o ≡ Some cut → bytes ≡ cut.line ++ 10 ∷ cut.rest)
        → elim o as (λ _. Option Span) [
          | None ↦ None
          | Some cut ↦ span_of
              (place + length cut.line + 1) cut.rest (size_in cut.line)
        ] ≡ Some span
        → StandsAt place bytes span
    by_cut None is e = cc
    by_cut (Some cut) is e = by_size (size_in cut.line) (size_is cut.line) e
      where
        first : ℕ
        first = place + length cut.line + 1

        by_size : (o : Option ℕ) → ((size : ℕ) → o ≡ Some size → SaysSize cut.line size)
            → span_of first cut.rest o ≡ Some span → StandsAt place bytes span
        by_size None says e = cc
        by_size (Some size) says e = by_test
            (nat_le size (length cut.rest) && nat_le (first + size) logs_end_within) refl e
          where
            by_test : (t : Bool)
                → (nat_le size (length cut.rest) && nat_le (first + size) logs_end_within) ≡ t
                → cond t (Some (record { first = first; past = first + size })) None ≡ Some span
                → StandsAt place bytes span
            by_test true t e =
                let said = says size refl in
                let at : record { first = first; past = first + size } ≡ span = same_Some
                (record { first = first; past = first + size }) span e in
                let begins : first ≡ span.first = ap (λ s. s.first) at in
                let ends : first + size ≡ span.past = ap (λ s. s.past) at in
                let len : length cut.line ≡ length (log_word size) = ap length said.is in
                let near : first + size ≤ logs_end_within = at_most_of
                (first + size) logs_end_within (second_true (nat_le size (length cut.rest)) _ t) in
                record {
                  size = size;
                  rest = cut.rest;
                  is = is cut refl ∙ ap (λ line. line ++ 10 ∷ cut.rest) said.is;
                  fits = at_most_of size (length cut.rest) (first_true _ _ t);
                  small = said.small;
                  near = omega (arith, ends, near);
                  first_is = omega (arith, begins, len);
                  past_is = omega (arith, begins, ends);
                }
            by_test false t e = cc

-- the bytes of such a log, and what stands after them
pub log_bytes : (front bytes : List ℕ) (place : ℕ) (span : Span) (s : StandsAt place bytes span)
    → length front ≡ place
    → bytes_of (front ++ bytes) span ≡ take s.size s.rest
log_bytes front bytes place span s len =
    let word = log_word s.size in
    let count : span.past - span.first ≡ s.size = omega (arith, s.past_is) in
    let first : span.first ≡ length front + (length word + 1) = omega (arith, s.first_is, len) in
    let here : drop (length word + 1) bytes ≡ s.rest = ap (drop (length word + 1)) s.is
    ∙ drop-append-add word (10 ∷ s.rest) 1 in
    cc (drop-append-add front bytes (length word + 1))

pub next_bytes : (bytes : List ℕ) (place : ℕ) (span : Span) (s : StandsAt place bytes span)
    → drop (span.past - place) bytes ≡ drop s.size s.rest
next_bytes bytes place span s =
    let word = log_word s.size in
    let count : span.past - place ≡ length word + suc s.size =
    omega (arith, s.first_is, s.past_is) in
    cc (s.is, drop-append-add word (10 ∷ s.rest) (suc s.size))

-- bytes that begin with such a log
split_at : (bytes : List ℕ) (place : ℕ) (span : Span) (s : StandsAt place bytes span)
    → bytes ≡ log_text (take s.size s.rest) ++ drop s.size s.rest
split_at bytes place span s =
    let log = take s.size s.rest in
    let len : length log ≡ s.size =
    (let short : length log ≡ s.size = omega (arith, length-take s.size s.rest, s.fits) in short) in
    s.is ∙ ap (λ rest. log_word s.size ++ 10 ∷ rest) (sym (take-append-drop s.size s.rest))
    ∙ sym (append_assoc (log_word s.size) (10 ∷ log) (drop s.size s.rest))
    ∙ ap (λ text. text ++ drop s.size s.rest) (sym (append_assoc (log_word s.size) (10 ∷ []) log))
    ∙ ap (λ n. (ended_line (log_word n) ++ log) ++ drop s.size s.rest) (sym len)

no_logs : (spans : List Span) → ◌≡◌ {A = Result (List Span) ℕ} (Ok []) (Ok spans) → [] ≡ spans
no_logs spans e = cc

some_logs : (span : Span) (more spans : List Span) → ◌≡◌ {A = Result (List Span) ℕ}
    (Ok (span ∷ more)) (Ok spans) → span ∷ more ≡ spans
some_logs span more spans e = cc

-- bytes in which logs were found are the text of these logs
logs_text : (n log place : ℕ) (front bytes : List ℕ) (spans : List Span) → length front ≡ place
    → logs_from n log place bytes ≡ Ok spans
    → bytes ≡ flat_map log_text (map (bytes_of (front ++ bytes)) spans) ++ last_line
unfolding logs_from
logs_text zero log place front bytes spans len e = by_test (bytes_eq bytes last_line) refl e
  where
    by_test : (t : Bool) → bytes_eq bytes last_line ≡ t → cond t (Ok []) (Err log) ≡ Ok spans
        → bytes ≡ flat_map log_text (map (bytes_of (front ++ bytes)) spans) ++ last_line
    by_test true is e = cc ((bytes_eq-Decides bytes last_line).0 is, no_logs spans e)
    by_test false is e = cc
logs_text (suc n) log place front bytes spans len e = by_test
    (λ place front bytes spans len e. logs_text n (log + 1) place front bytes spans len e)
    (bytes_eq bytes last_line) refl (log_at place bytes) refl e
  where
    text_of : List Span → List ℕ
    text_of spans = flat_map log_text (map (bytes_of (front ++ bytes)) spans) ++ last_line

    Read : Type 0
    Read = (p : ℕ) (f b : List ℕ) (s : List Span) → length f ≡ p → logs_from n (log + 1) p b ≡ Ok s
        → b ≡ flat_map log_text (map (bytes_of (f ++ b)) s) ++ last_line

    by_log : Read → (span : Span) → StandsAt place bytes span → (r : Result (List Span) ℕ)
        → logs_from n (log + 1) span.past (drop (span.past - place) bytes) ≡ r → span_before span r
        ≡ Ok spans → bytes ≡ text_of spans
    by_log read span s (Err at) is e = cc
    by_log read span s (Ok more) is e =
        let here = take s.size s.rest in
        let next = drop s.size s.rest in
        let whole = front ++ bytes in
        let split = split_at bytes place span s in
        let all : (front ++ log_text here) ++ next
        ≡ whole = cc (append_assoc front (log_text here) next) in
        let short : length here ≡ s.size = omega (arith, length-take s.size s.rest, s.fits) in
        let past : length (front ++ log_text here) ≡ span.past =
        omega (
          arith,
          length-append front (log_text here),
          length-append
              (ended_line (log_word (length here))) here,
          length-append (log_word (length here)) (10 ∷ []),
          ap (λ n. length (log_word n)) short,
          short,
          s.first_is,
          s.past_is,
          len,
        ) in
        let found : logs_from n (log + 1) span.past next ≡ Ok more =
        ap (logs_from n (log + 1) span.past) (sym (next_bytes bytes place span s)) ∙ is in
        let rest = read span.past (front ++ log_text here) next more past found in
        let rest_whole : next ≡ flat_map log_text (map (bytes_of whole) more) ++ last_line = cc in
        let log_is : here ≡ bytes_of whole span = sym (log_bytes front bytes place span s len) in
        cc (
          append_assoc (log_text here) (flat_map log_text (map (bytes_of whole) more))
              last_line,
          some_logs span more spans e,
        )

    at_log : Option Span → Result (List Span) ℕ
    at_log o = elim o as (λ _. Result (List Span) ℕ) [
      | None ↦ Err log
      | Some span ↦ span_before
          span (logs_from n (log + 1) span.past (drop (span.past - place) bytes))
    ]

    by_test : Read → (t : Bool) → bytes_eq bytes last_line ≡ t → (o : Option Span)
        → log_at place bytes ≡ o → cond t (Ok []) (at_log o) ≡ Ok spans
        → bytes ≡ text_of spans
    by_test read true is o at e = cc ((bytes_eq-Decides bytes last_line).0 is, no_logs spans e)
    by_test read false is None at e = cc
    by_test read false is (Some span) at e = by_log read span (stands_at place bytes span at)
        (logs_from n (log + 1) span.past (drop (span.past - place) bytes)) refl e

-- the whole input
found_logs : (bytes : List ℕ) (r : Result (List Span) ℕ) (logs : List (List ℕ))
    → batch_reading bytes ≡ r → logs_of bytes r ≡ Ok logs
    → (spans : List Span) × (batch_reading bytes ≡ Ok spans) × (map (bytes_of bytes) spans ≡ logs)
found_logs bytes r logs is e = grind arith

spans_text : (bytes : List ℕ) (spans : List Span) → batch_reading bytes ≡ Ok spans
    → bytes ≡ batch_of (map (bytes_of bytes) spans)
unfolding batch_reading
spans_text bytes spans e = by_cut (first_line bytes) (cut_is bytes) e
  where
    by_cut : (o : Option Cut) → ((cut : Cut) → o ≡ Some cut → bytes ≡ cut.line ++ 10 ∷ cut.rest)
        → elim o as (λ _. Result (List Span) ℕ) [ None ↦ Err 0 | Some cut ↦ logs_behind cut ]
        ≡ Ok spans
        → bytes ≡ batch_of (map (bytes_of bytes) spans)
    by_cut None is e = cc
    by_cut (Some cut) is e = by_word (bytes_eq cut.line first_word) refl e
      where
        by_word : (t : Bool) → bytes_eq cut.line first_word ≡ t
            → cond t (logs_from most_logs 0 (length cut.line + 1) cut.rest) (Err 0) ≡ Ok spans
            → bytes ≡ batch_of (map (bytes_of bytes) spans)
        by_word true t e =
            let word : cut.line ≡ first_word = (bytes_eq-Decides cut.line first_word).0 t in
            let front = ended_line cut.line in
            let whole : front ++ cut.rest ≡ bytes = append_assoc cut.line (10 ∷ []) cut.rest
            ∙ sym (is cut refl) in
            let read = logs_text most_logs 0 (length cut.line + 1) front cut.rest spans
            (length-append cut.line (10 ∷ [])) e in
            cc (append_assoc front (flat_map log_text (map (bytes_of (front ++ cut.rest)) spans))
            last_line)
        by_word false t e = cc

pub read_batch_is_text : (bytes : List ℕ) (logs : List (List ℕ)) → batch_logs bytes ≡ Ok logs
    → bytes ≡ batch_of logs
read_batch_is_text bytes logs e = search (found_logs, spans_text, arith)

-- the line before a log has no line feed
pub one_line_word : (n : ℕ) → n ≤ most_bytes → is_one_line (log_word n) ≡ true
one_line_word n small = lacks-append 10 (codes "log ") (decimal n) refl
    (decimal_lacks 10 n no_line_feed (omega (arith, small)))

pub log_isnt_end : (log more : List ℕ) → (log_text log ++ more ≡ last_line → ⊥)
log_isnt_end log more e = cc

-- a log's text and what stands after it
pub text_is : (log next : List ℕ) → log_text log ++ next ≡ log_word (length log)
    ++ 10 ∷ (log ++ next)
text_is log next = grind (arith, append_assoc)

abbrev pub span_at : ℕ → List ℕ → Span
span_at place log = record {
  first = place + length (log_word (length log)) + 1;
  past = place
      + length (log_word (length log)) + 1 + length log;
}

abbrev pub text_stands : (place : ℕ) (log next : List ℕ) → length log ≤ most_bytes
    → place + length (log_text log) ≤ logs_end_within
    → StandsAt place (log_text log ++ next) (span_at place log)
text_stands place log next small near = record {
  size = length log;
  rest = log ++ next;
  is = text_is log next;
  fits = omega (arith, length-append log next);
  small = small;
  near = omega (
    arith,
    near,
    length-append (ended_line (log_word (length log))) log,
    length-append
        (log_word (length log)) (10 ∷ []),
  );
  first_is = refl;
  past_is = refl;
}

pub text_found : (place : ℕ) (log next : List ℕ) → length log ≤ most_bytes
    → place + length (log_text log) ≤ logs_end_within
    → log_at place (log_text log ++ next) ≡ Some (span_at place log)
text_found place log next small near =
    let s = text_stands place log next small near in
    is_log _ (length _) (log_text _ ++ next) (log_word _) (log ++ next) (one_line_word _ small)
    (text_is _ _) (size_within _ (log_word _) (omega (arith, small)) refl small) s.fits s.near

-- the spans of logs in their text
pub record AreFound (n log place : ℕ) (front : List ℕ) (logs : List (List ℕ)) : Type 0 where
  pub spans : List Span
  pub found : logs_from n log place (flat_map log_text logs ++ last_line) ≡ Ok spans
  pub are : map (bytes_of (front ++ (flat_map log_text logs ++ last_line))) spans ≡ logs

text_logs : (n log place : ℕ) (front : List ℕ) (logs : List (List ℕ)) → length front ≡ place
    → length logs ≤ n
    → AllByRecursion (λ log. length log ≤ most_bytes) logs → place + length (flat_map log_text logs)
    ≤ logs_end_within → AreFound n log place front logs
text_logs n log place front [] len few short near = search (logs_end, arith)
text_logs zero log place front (x ∷ logs) len few short near = absurd (omega arith)
text_logs (suc n) log place front (x ∷ logs) len few short near = with_rest
    (text_logs n (log + 1) (span_at place x).past (front ++ log_text x) logs past
    (omega arith) short.1 near_rest)
  where
    next : List ℕ
    next = flat_map log_text logs ++ last_line

    size : length (log_text x) ≡ length (log_word (length x)) + 1 + length x
    size = search (length-append, arith)

    all : length (flat_map log_text (x ∷ logs)) ≡ length (log_text x)
        + length (flat_map log_text logs)
    all = length-append (log_text x) (flat_map log_text logs)

    past : length (front ++ log_text x) ≡ (span_at place x).past
    past = omega (arith, length-append front (log_text x), size, len)

    near_rest : (span_at place x).past + length (flat_map log_text logs) ≤ logs_end_within
    near_rest = omega (arith, near, all, size)

    near_here : place + length (log_text x) ≤ logs_end_within
    near_here = omega (arith, near, all)

    bytes_is : flat_map log_text (x ∷ logs) ++ last_line ≡ log_text x ++ next
    bytes_is = append_assoc (log_text x) (flat_map log_text logs) last_line

    with_rest : AreFound n (log + 1) (span_at place x).past (front ++ log_text x) logs
        → AreFound (suc n) log place front (x ∷ logs)
    with_rest rest =
        let span = span_at place x in
        let bytes = log_text x ++ next in
        let s = text_stands place x next short.0 near_here in
        let behind : drop (span.past - place) bytes ≡ next = next_bytes bytes place span s
        ∙ drop-append_seam x next in
        let here : bytes_of (front ++ bytes) span ≡ x = log_bytes front bytes place span s len
        ∙ take-append_seam x next in
        let whole : (front ++ log_text x) ++ next ≡ front ++ bytes = append_assoc front
        (log_text x) next in
        record {
          spans = span ∷ rest.spans;
          found = ap (logs_from (suc n) log place) bytes_is
              ∙ at_line n log place bytes (Some span) (log_isnt_end x next)
              (text_found place x next short.0 near_here)
              ∙ ap (λ bytes. span_before span (logs_from n (log + 1) span.past bytes)) behind
              ∙ ap (span_before span) rest.found;
          are = ap (λ bytes. map (bytes_of (front ++ bytes)) (span ∷ rest.spans)) bytes_is
              ∙ (λ i. here i ∷ map (bytes_of (sym whole i)) rest.spans)
              ∙ ap (λ logs. x ∷ logs) rest.are;
        }

pub text_is_batch : (logs : List (List ℕ)) → FitBatch logs → batch_logs (batch_of logs) ≡ Ok logs
text_is_batch logs fit =
    let front = ended_line first_word in
    let bytes = flat_map log_text logs ++ last_line in
    let near : 6 + length (flat_map log_text logs) ≤ logs_end_within =
    omega (arith, fit.near, length-append front (flat_map log_text logs)) in
    let read = text_logs most_logs 0 6 front logs refl fit.few fit.short near in
    let whole : batch_of logs ≡ first_word ++ 10 ∷ bytes = append_assoc front
    (flat_map log_text logs) last_line in
    let found : batch_reading (first_word ++ 10 ∷ bytes) ≡ Ok read.spans =
    behind_first_line (first_word ++ 10 ∷ bytes) first_word bytes refl refl refl ∙ read.found in
    ap batch_logs whole ∙ ap (logs_of (first_word ++ 10 ∷ bytes)) found ∙ ap Ok read.are
