-- A batch that is cut after some of its logs: it says these logs, and then what its rest says.
use Rattle.vyrd_batch.proofs.Prelude
use Prelude.{◌≡◌, ℕ, zero, suc, ◌+◌, ◌-◌, ◌<◌, ◌≤◌, Bool, true, false, cond, List, [], ◌∷◌, ◌++◌}
use Prelude.{length, map, take, drop, Option, Some, None, Result, Ok, Err, refl, ap, ◌∙◌, sym}
use Prelude.{arith, append_assoc, append-nil, length-append, length-take, inl, inr, ◌⊎◌, is_some}
use Prelude.{bytes_eq, take-append-drop, drop-drop, map-append, length-map, bytes_eq-Decides}
use Prelude.{Verdict, ended_line, log_verdict, Span, most_logs, most_bytes, logs_end_within}
use Prelude.{first_word, log_word, log_text, last_line, Cut, first_line, log_at, span_before}
use Prelude.{logs_from, batch_reading, bytes_of, logs_of, batch_logs, LiesWithin, verdicts_of}
use Prelude.{IsCut, IsNoLog, AreJudged, AreJudgedTo, IsNothingMore, IsNothingEver, IsSpentBy}
use Rattle.std.proofs.Math.Seq.{take-add, take-append-add, take-append_seam, drop-append_seam}
use Rattle.vyrd_base.specs.Limits.{most_lines}
use Rattle.vyrd_batch.specs.Rounds.{logs_before, logs_on, IsRefused, IsJudgedBy}
use Rattle.vyrd_batch.proofs.LogFacts.{all_more, at_line, logs_end, logs_full, reading_at}
use Rattle.vyrd_batch.proofs.LogFacts.{behind_first_line}
use Rattle.vyrd_batch.proofs.TextLaws.{StandsAt, stands_at, log_bytes, next_bytes, cut_is}
use Rattle.vyrd_batch.proofs.TextLaws.{log_isnt_end, span_at, text_stands, text_found}

-- a log before those of the rest
span_first : (input : List ℕ) (span : Span) (r : Result (List Span) ℕ)
    → logs_of input (span_before span r) ≡ logs_before (bytes_of input span ∷ []) (logs_of input r)
span_first input span r = search arith

logs_joined : (a b : List (List ℕ)) (r : Result (List (List ℕ)) ℕ) → logs_before a (logs_before b r)
    ≡ logs_before (a ++ b) r
logs_joined a b r = search (append_assoc, arith)

none_first : (r : Result (List (List ℕ)) ℕ) → r ≡ logs_before [] r
none_first r = search arith

-- the logs from a place on, where a log's text stands
one_log : (front log more : List ℕ) (n place : ℕ) → length front ≡ place → n < most_logs
    → length log ≤ most_bytes
    → place + length (log_text log) ≤ logs_end_within
    → logs_on (front ++ (log_text log ++ more)) n place (log_text log ++ more)
    ≡ logs_before (log ∷ [])
    (logs_on (front ++ (log_text log ++ more)) (n + 1) (span_at place log).past more)
one_log front log more n place len room small near =
    let bytes = log_text _ ++ more in
    let whole = front ++ bytes in
    let span = span_at _ _ in
    let s = text_stands _ _ _ small near in
    let count : most_logs - n ≡ suc (most_logs - (n + 1)) = omega arith in
    let behind : drop (span.past - place) bytes ≡ more = next_bytes _ _ _ s
    ∙ drop-append_seam log _ in
    let here : bytes_of whole span ≡ log = log_bytes _ _ _ _ s len ∙ take-append_seam _ _ in
    cc (
      at_line (most_logs - (n + 1)) n place bytes (Some span) (log_isnt_end log more)
          (text_found place log more small near),
      span_first whole span
          (logs_from (most_logs - (n + 1)) (n + 1) span.past (drop (span.past - place) bytes)),
    )

-- a span, counted from a place on
abbrev pub from_place : ℕ → Span → Span
from_place place span = record { first = span.first - place; past = span.past - place }

-- how many bytes stand before a place, with some more
moved_len : (front bytes : List ℕ) (place taken : ℕ) → length front ≡ place → taken ≤ length bytes
    → length (front ++ take taken bytes) ≡ place + taken
moved_len front bytes place taken len within =
    grind (arith, length-append front (take taken bytes), length-take taken bytes)

pub count_more : (spans : List Span) (span : Span) → length (spans ++ span ∷ []) ≡ length spans + 1
count_more spans span = length-append spans (span ∷ [])

-- one more log
pub cut_more : (bytes : List ℕ) (log place : ℕ) (spans new : List Span) (span : Span) (taken : ℕ)
    → IsCut bytes log place spans taken
    → log + length spans < most_logs → log_at (place + taken) (drop taken bytes) ≡ Some span
    → new ≡ spans ++ from_place place span ∷ []
    → IsCut bytes log place new (span.past - place)
cut_more bytes log place spans new span taken cut room found grown =
    rw grown (record {
      few = omega (arith, count_more spans here, room);
      near = omega (arith, s.near, s.first_is, s.past_is);
      within = within;
      inside = all_more (LiesWithin (length bytes)) spans here cut.inside
          (omega (arith, s.past_is), within);
      goes_on = goes_on;
    })
  where
    here : Span
    here = from_place place span

    rest : List ℕ
    rest = drop taken bytes

    s : StandsAt (place + taken) rest span
    s = stands_at (place + taken) rest span found

    within : span.past - place ≤ length bytes
    within =
        let all : length (take taken bytes ++ rest) ≡ length bytes = ap length
        (take-append-drop taken bytes) in
        let short : length (take taken bytes)
        ≡ taken = omega (arith, length-take taken bytes, cut.within) in
        omega (
          arith,
          all,
          short,
          length-append (take taken bytes) rest,
          ap length s.is,
          length-append (log_word s.size) (10 ∷ s.rest),
          s.fits,
          s.first_is,
          s.past_is,
        )

    log_is : bytes_of bytes here ≡ take s.size s.rest
    log_is =
        let short : length (take taken bytes)
        ≡ taken = omega (arith, length-take taken bytes, cut.within) in
        let stands : StandsAt taken rest here = record {
          size = s.size;
          rest = s.rest;
          is = s.is;
          fits = s.fits;
          small = s.small;
          near = omega (arith, s.near);
          first_is = omega (arith, s.first_is);
          past_is = omega (arith, s.first_is, s.past_is);
        } in
        cc (take-append-drop taken bytes, log_bytes (take taken bytes) rest taken here stands short)

    body : List ℕ
    body = take s.size s.rest

    size : length body ≡ s.size
    size = omega (arith, length-take s.size s.rest, s.fits)

    -- what is taken grows by the log's text
    taken_is : take (span.past - place) bytes ≡ take taken bytes ++ log_text body
    taken_is =
        let word = log_word s.size in
        let count : span.past - place ≡ taken + (length word + suc s.size) =
        omega (arith, s.first_is, s.past_is) in
        let text : take (length word + suc s.size) rest ≡ log_text body =
        ap (take (length word + suc s.size)) s.is ∙ take-append-add word (10 ∷ s.rest) (suc s.size)
        ∙ sym (append_assoc word (10 ∷ []) body) ∙ ap (λ n. (log_word n ++ 10 ∷ []) ++ body)
        (sym size) in
        cc (take-add taken (length word + suc s.size) bytes)

    text_len : length (log_text body) ≡ length (log_word s.size) + 1 + s.size
    text_len =
        let word : length (log_word (length body)) ≡ length (log_word s.size) =
        ap (λ n. length (log_word n)) size in
        omega (
          arith,
          length-append (ended_line (log_word (length body))) body,
          length-append
              (log_word (length body)) (10 ∷ []),
          word,
          size,
        )

    goes_on : (front more : List ℕ) → length front ≡ place
        → logs_on (front ++ (take (span.past - place) bytes ++ more)) log place
        (take (span.past - place) bytes ++ more)
        ≡ logs_before (map (bytes_of bytes) (spans ++ here ∷ []))
        (logs_on (front ++ (take (span.past - place) bytes ++ more))
        (log + length (spans ++ here ∷ [])) (place + (span.past - place)) more)
    goes_on front more len =
        let logs = map (bytes_of bytes) spans in
        let n = log + length spans in
        let next = log_text body ++ more in
        let whole = front ++ (take taken bytes ++ next) in
        let all : take (span.past - place) bytes ++ more ≡ take taken bytes ++ next =
        ap (λ t. t ++ more) taken_is ∙ append_assoc (take taken bytes) (log_text body) more in
        let parted : (front ++ take taken bytes) ++ next ≡ whole = append_assoc front
        (take taken bytes) next in
        let count : n + 1 ≡ log + length (spans ++ here ∷ []) =
        omega (arith, count_more spans here) in
        let word : length (log_word (length body)) ≡ length (log_word s.size) =
        ap (λ n. length (log_word n)) size in
        let past : (span_at (place + taken) body).past ≡ place + (span.past - place) =
        omega (arith, word, size, s.first_is, s.past_is) in
        let behind = logs_on whole (log + length (spans ++ here ∷ [])) (place + (span.past - place))
        more in
        let one : logs_on whole n (place + taken) next ≡ logs_before (bytes_of bytes here ∷ [])
        behind =
        ap (λ w. logs_on w n (place + taken) next) (sym parted)
        ∙ one_log (front ++ take taken bytes) body more n (place + taken)
        (moved_len front bytes place taken len cut.within) room
        (omega (arith, size, s.small)) (omega (arith, text_len, s.near, s.first_is, s.past_is))
        ∙ (λ i. logs_before (sym log_is i ∷ []) (logs_on (parted i) (count i) (past i) more)) in
        cc (
          cut.goes_on front next len,
          logs_joined logs (bytes_of bytes here ∷ [])
              behind,
          map-append (bytes_of bytes) spans (here ∷ []),
        )

-- what comes after the logs
pub cut_rest : (bytes rest next : List ℕ) (place taken : ℕ) (span : Span)
    → log_at (place + taken) rest ≡ Some span → rest ≡ drop taken bytes
    → next ≡ drop (span.past - (place + taken)) rest → next ≡ drop (span.past - place) bytes
cut_rest bytes rest next place taken span found is behind =
    let s = stands_at _ rest span found in
    let count : taken + (span.past - (place + taken)) ≡ span.past - place =
    omega (arith, s.first_is, s.past_is) in
    cc (drop-drop (span.past - (place + taken)) taken bytes)

-- more bytes come
judged_more : (input rest more : List ℕ) (verdicts : List Verdict) (place : Option ℕ)
    → AreJudgedTo place input verdicts rest
    → AreJudgedTo place (input ++ more) verdicts (rest ++ more)
judged_more input rest more verdicts place j = search (append_assoc, arith)

pub judged_longer : (refused : Bool) (input rest more : List ℕ) (verdicts : List Verdict)
    (place : Option ℕ)
    → IsJudgedBy refused place input verdicts rest → IsJudgedBy refused place
    (input ++ more) verdicts (rest ++ more)
judged_longer false input rest more verdicts place j = judged_more input rest more verdicts place j
judged_longer true input rest more verdicts place r = record {
  rest = r.rest ++ more;
  judged = judged_more input r.rest more verdicts place r.judged;
  lasts = λ later. ap batch_logs (append_assoc input more later) ∙ r.lasts (more ++ later);
}

-- the first line wasn't read yet
pub none_there : (place : Option ℕ) → is_some place ≡ false → place ≡ None
none_there place none = search arith

-- the first line was read
pub judged_begun : (input bytes rest : List ℕ) (verdicts : List Verdict)
    → AreJudgedTo None input verdicts bytes → bytes ≡ ended_line first_word ++ rest
    → AreJudged input verdicts 6 rest
judged_begun input bytes rest verdicts j is = record {
  front = ended_line first_word;
  logs = [];
  input_is = j.0 ∙ is;
  place_is = refl;
  verdicts_are = j.1;
  goes_on = λ more.
      let whole = ended_line first_word ++ more in
      let read : batch_reading whole ≡ logs_from most_logs 0 6 more =
      behind_first_line whole first_word more refl refl refl in
      ap (logs_of whole) read ∙ none_first (logs_on whole 0 6 more);
}

-- more logs were judged
pub judged_logs : (input bytes : List ℕ) (old new : List Verdict) (place taken : ℕ)
    (spans : List Span) → AreJudged input old place bytes
    → IsCut bytes (length old) place spans taken → new ≡ old
    ++ verdicts_of (map (bytes_of bytes) spans)
    → AreJudged input new (place + taken) (drop taken bytes)
judged_logs input bytes old new place taken spans j cut grown = record {
  front = j.front ++ take taken bytes;
  logs = logs;
  input_is = j.input_is ∙ ap (λ bytes. j.front ++ bytes) (sym (take-append-drop taken bytes))
      ∙ sym (append_assoc j.front (take taken bytes) (drop taken bytes));
  place_is = moved_len j.front bytes place taken j.place_is cut.within;
  verdicts_are = grown ∙ ap (λ verdicts. verdicts ++ verdicts_of here) j.verdicts_are
      ∙ sym (map-append (λ log. log_verdict most_lines log) j.logs here);
  goes_on = λ more.
      let next = take taken bytes ++ more in
      let whole = j.front ++ next in
      let parted : (j.front ++ take taken bytes) ++ more ≡ whole = append_assoc j.front
      (take taken bytes) more in
      ap batch_logs parted ∙ j.goes_on next
      ∙ ap (logs_before j.logs) (ap (λ n. logs_on whole n place next) (sym count)
      ∙ cut.goes_on j.front more j.place_is)
      ∙ logs_joined j.logs here (logs_on whole (length old + length spans) (place + taken) more)
      ∙ (λ i. logs_before logs (logs_on (sym parted i) (all i) (place + taken) more));
}
  where
    here : List (List ℕ)
    here = map (bytes_of bytes) spans

    logs : List (List ℕ)
    logs = j.logs ++ here

    count : length old ≡ length j.logs
    count = ap length j.verdicts_are ∙ length-map j.logs (λ log. log_verdict most_lines log)

    all : length old + length spans ≡ length logs
    all = omega (arith, count, length-append j.logs here, length-map spans (bytes_of bytes))

-- the input ends here
pub judged_all : (input rest : List ℕ) (verdicts : List Verdict) (place : ℕ)
    → AreJudged input verdicts place rest → rest ≡ last_line
    → (logs : List (List ℕ)) × (batch_logs input ≡ Ok logs) × (verdicts ≡ verdicts_of logs)
judged_all input rest verdicts place j is = (
  j.logs,
  ap batch_logs j.input_is ∙ j.goes_on rest
      ∙ ap (λ r. logs_before j.logs (logs_of (j.front ++ rest) r))
      (logs_end (most_logs - length j.logs) (length j.logs) place rest is)
      ∙ ap Ok (append-nil j.logs),
  j.verdicts_are,
)

refused_from : (k n place : ℕ) (rest : List ℕ) → (rest ≡ last_line → ⊥) → (k ≡ zero)
    ⊎ (log_at place rest ≡ None) → logs_from k n place rest ≡ Err n
refused_from zero n place rest apart why = logs_full n place rest apart
refused_from (suc k) n place rest apart (inl none) = absurd (omega (arith, none))
refused_from (suc k) n place rest apart (inr none) = at_line k n place rest None apart none

pub judged_refused : (input rest : List ℕ) (verdicts : List Verdict) (place : ℕ)
    → AreJudged input verdicts place rest
    → (rest ≡ last_line → ⊥) → IsNoLog (length verdicts) place rest → batch_logs input
    ≡ Err (length verdicts)
judged_refused input rest verdicts place j apart why = search (refused_from, length-map, arith)

-- there is no first line
pub judged_unbegun : (input bytes : List ℕ) → input ≡ bytes
    → ((more : List ℕ) → bytes ≡ ended_line first_word ++ more → ⊥) → batch_logs input ≡ Err 0
judged_unbegun input bytes is apart = cc (by_cut (first_line bytes) refl)
  where
    by_word : (cut : Cut) → bytes ≡ cut.line ++ 10 ∷ cut.rest → (t : Bool)
        → bytes_eq cut.line first_word ≡ t
        → cond t (logs_from most_logs 0 (length cut.line + 1) cut.rest) (Err 0) ≡ Err 0
    by_word cut is true e =
        let word : cut.line ≡ first_word = (bytes_eq-Decides cut.line first_word).0 e in
        absurd (apart cut.rest (is ∙ ap (λ line. line ++ 10 ∷ cut.rest) word))
    by_word cut is false e = refl

    by_cut : (o : Option Cut) → first_line bytes ≡ o → batch_reading bytes ≡ Err 0
    by_cut None e = reading_at bytes None e
    by_cut (Some cut) e = reading_at bytes (Some cut) e ∙ by_word cut (cut_is bytes cut e)
        (bytes_eq cut.line first_word) refl

-- however the input goes on, nothing comes after the logs that were judged
pub judged_never : (place : Option ℕ) (input rest : List ℕ) (verdicts : List Verdict)
    → AreJudgedTo place input verdicts rest
    → IsNothingEver place (length verdicts) rest → IsRefused place input verdicts
judged_never place input rest verdicts j never = grind (arith, lasts place j never)
  where
    lasts : (place : Option ℕ) → AreJudgedTo place input verdicts rest
        → IsNothingEver place (length verdicts) rest
        → (more : List ℕ) → batch_logs (input ++ more) ≡ Err (length verdicts)
    lasts None j never more = judged_unbegun (input ++ more) (rest ++ more) (cc j.0) (never more)
        ∙ ap Err (sym (ap length j.1))
    lasts (Some place) j never more = judged_refused (input ++ more) (rest ++ more) verdicts place
        (judged_more input rest more verdicts (Some place) j) (never more).0 (never more).1

pub refused_at_end : (place : Option ℕ) (input : List ℕ) (verdicts : List Verdict)
    → IsRefused place input verdicts
    → batch_logs input ≡ Err (length verdicts)
refused_at_end place input verdicts r = ap batch_logs (sym (append-nil input)) ∙ r.lasts []

-- what is judged and left while the batch isn't refused
pub not_refused : (refused : Bool) (place : Option ℕ) (input rest : List ℕ)
    (verdicts : List Verdict) → refused ≡ false
    → IsJudgedBy refused place input verdicts rest → AreJudgedTo place input verdicts rest
not_refused refused place input rest verdicts e j = search arith

pub nothing_more : (refused : Bool) (place : Option ℕ) (log : ℕ) (rest : List ℕ) → refused ≡ false
    → IsSpentBy refused place log rest
    → IsNothingMore place log rest
nothing_more refused place log rest e spent = search arith

-- and once it is
pub is_refused : (refused : Bool) (place : Option ℕ) (input rest : List ℕ) (verdicts : List Verdict)
    → refused ≡ true
    → IsJudgedBy refused place input verdicts rest → IsRefused place input verdicts
is_refused refused place input rest verdicts e j = search arith
