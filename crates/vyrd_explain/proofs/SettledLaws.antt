-- When no further byte changes what is answered about a log.
use Rattle.std.proofs.Common.{◌≡◌, ℕ, ◌*◌, ◌≤◌, true, false, List, [], ◌++◌, length, Option, Some}
use Rattle.std.proofs.Common.{ap, ◌∙◌, sym, arith, append-nil}
use Rattle.std.specs.Prelude.{◌&&◌, is_some}
use Rattle.vyrd_base.specs.declared.verdict.Verdict.{Verdict}
use Rattle.vyrd_base.specs.LogVerdicts.{log_verdict, log_verdict_so_far}
use Rattle.vyrd_base.specs.Reading.{TextFault}
use Rattle.vyrd_base.proofs.ReadingGrows.{reading_grows}
use Rattle.vyrd_base.proofs.TestLaws.{first_true, second_true}
use Rattle.vyrd_base.specs.Limits.{most_lines}
use Rattle.vyrd_own_log.proofs.GrownLaws.{reading_grown}
use Rattle.vyrd_log_check.proofs.LengthFacts.{bytes_short}
use Rattle.vyrd_log_check.proofs.LengthLaws.{undecided_is_short}
use Rattle.vyrd_log_check.proofs.LogLasts.{log_verdict_lasts, log_verdict_stands, nothing_yet}
use Rattle.vyrd_log_check.proofs.OwnLengths.{own_bytes_short}
use Rattle.vyrd_explain.specs.declared.about.About.{About}
use Rattle.vyrd_explain.specs.Explained.{read_as, own_read_as, explanation, explained, is_settled}

-- there is something
some_of : {A : Type 0} (o : Option A) → is_some o ≡ true → (a : A) × (o ≡ Some a)
some_of o e = search arith

module _ (max : ℕ) (bytes : List ℕ) where
  -- the verdict stands, and a line breaks a rule of text by either reading
  record Settled : Type 0 where
    verdict : Verdict
    stands : log_verdict_so_far max bytes ≡ Some verdict
    fault : TextFault
    stops : (read_as max bytes).fault ≡ Some fault
    own_fault : TextFault
    own_stops : (own_read_as max bytes).fault ≡ Some own_fault

  settled : is_settled max bytes ≡ true → Settled
  unfolding is_settled
  settled e = search (is_some, first_true, some_of, second_true, arith)

pub verdict_lasts : (max : ℕ) (bytes more : List ℕ) → 1 ≤ max → max ≤ most_lines
    → is_settled max bytes ≡ true → log_verdict max (bytes ++ more) ≡ log_verdict max bytes
verdict_lasts max bytes more low high e =
    let s = settled _ _ e in
    log_verdict_stands _ bytes more _ low high s.stands
    ∙ sym (ap (log_verdict _) (sym (append-nil _)) ∙ log_verdict_stands _ _ [] _ low high s.stands)

pub text_lasts : (about : About) (max : ℕ) (bytes more : List ℕ) → 1 ≤ max → max ≤ most_lines
    → is_settled max bytes ≡ true
    → explained about max (bytes ++ more) ≡ explained about max bytes
unfolding explained
text_lasts about max bytes more low high e =
    let s = settled _ _ e in
    let read = (reading_grows _ false _ more low).grown.fault s.fault s.stops in
    let own_read = (reading_grown _ false _ more low high).fault s.own_fault s.own_stops in
    let verdict = verdict_lasts _ _ more low high e in
    λ i. explanation about (read i) (own_read i) (verdict i)

pub ruleset lasting = (verdict_lasts, text_lasts)

pub settled_stays : (max : ℕ) (bytes more : List ℕ) → 1 ≤ max → max ≤ most_lines
    → is_settled max bytes ≡ true → is_settled max (bytes ++ more) ≡ true
unfolding is_settled
settled_stays max bytes more low high e =
    let s = settled max bytes e in
    let verdict = log_verdict_lasts max bytes more s.verdict low high s.stands in
    let stops = ap (λ read. read.fault)
    ((reading_grows max false bytes more low).grown.fault s.fault s.stops) ∙ s.stops in
    let own_stops = ap (λ read. read.fault)
    ((reading_grown max false bytes more low high).fault s.own_fault s.own_stops) ∙ s.own_stops in
    λ i. is_some (verdict i) && is_some (stops i) && is_some (own_stops i)

-- without a byte anything may come
pub nothing_settled : (max : ℕ) → is_settled max [] ≡ false
unfolding is_settled
nothing_settled max = cc (nothing_yet max)

pub unsettled_is_short : (max : ℕ) (bytes : List ℕ) → 1 ≤ max → is_settled max bytes ≡ false
    → length bytes ≤ 201 * max
unfolding is_settled
unsettled_is_short max bytes low e = search
    (is_some, undecided_is_short, bytes_short, own_bytes_short, arith)
