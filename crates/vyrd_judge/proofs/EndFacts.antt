-- What is wrong if `end` stands after entries with which nothing is wrong.
use Rattle.vyrd_judge.proofs.Prelude
use Prelude.{◌≡◌, Bool, true, false, List, length, Option, Some, None, Result, Ok, Err, IfOk, refl}
use Prelude.{◌∙◌, unwrap_or, is_none, option_or, then_some, Rules, Entry, StartWord, StartState}
use Prelude.{CallOpen, Verdict, Accepted, Violation, Malformed, newest_first, state_at_start}
use Prelude.{line_of, verdict_so_far, is_call_open, end_verdict, accepted, verdict}

-- a verdict that isn't acceptance
abbrev pub unless_accepted : Verdict → Option Verdict
unless_accepted (Accepted entries commits observers) = None
unless_accepted (Violation line why) = Some (Violation line why)
unless_accepted (Malformed line rule) = Some (Malformed line rule)

pub open_at_end : (r : Rules) (starting : List StartWord) (log : List Entry) (v : Verdict)
    → verdict_so_far r starting log ≡ None
    → v ≡ verdict r starting log → unless_accepted v ≡ end_verdict r starting log
unfolding verdict end_verdict accepted
open_at_end r starting log v none is =
    cc (by_tests (is_none (state_at_start r starting)) (is_call_open r.header (newest_first log)))
  where
    at_end : Bool → Bool → Option Verdict
    at_end stateless open_call = option_or (then_some stateless (Malformed 2 StartState))
        (then_some open_call (Malformed (line_of starting (length log)) CallOpen))

    by_tests : (stateless open_call : Bool)
        → unless_accepted (unwrap_or (at_end stateless open_call) (accepted log))
        ≡ at_end stateless open_call
    by_tests true open_call = refl
    by_tests false true = refl
    by_tests false false = refl

pub where_same : {A E : Type 0} (a b : A) → a ≡ b → (r : Result A E) → IfOk r (λ v. v ≡ a)
    → IfOk r (λ v. v ≡ b)
where_same a b same (Ok v) is = is ∙ same
where_same a b same (Err e) is = tt

pub where_none : {A E : Type 0} (r : Result (Option A) E) (P : Type 0) → P
    → IfOk r (λ v. v ≡ None → P)
where_none (Ok v) P p = λ none. p
where_none (Err e) P p = tt
