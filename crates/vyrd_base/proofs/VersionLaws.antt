-- A log of version 1 has the verdict of old.
use Rattle.vyrd_base.proofs.Prelude
use Prelude.{◌≡◌, List, [], ◌∷◌, length, Option, Some, None, refl, ap, ◌∙◌, unwrap_or, option_map}
use Prelude.{◌+◌, option_or, then_some, Header, Kind, Call, Return, Write, Commit, BlockOpen}
use Prelude.{BlockClose, BlockCommit, Entry, Rule, CallOpen, Verdict, Violation, Malformed, Place}
use Prelude.{places_after, position_of, newest_first, first_answer, State, start, broken_rule}
use Prelude.{front, front_after, first_break, WellFormed, states_of, fault_of_kind, fault_at}
use Prelude.{line_of, violation_at, first_fault, shape_verdict, is_call_open, verdict_so_far}
use Prelude.{end_verdict, accepted, verdict, old_broken_rule, rules_of}
use Rattle.vyrd_base.specs.FirstVersion.{old_front_after, old_front, old_fault_of_kind}
use Rattle.vyrd_base.specs.FirstVersion.{old_first_fault, old_verdict_so_far, old_verdict}
use Rattle.vyrd_base.proofs.Fronts.{break_after}
use Rattle.vyrd_base.proofs.NoStart.{line_of-none, states_along-none, start_verdict-none}
use Rattle.vyrd_base.proofs.NoStart.{begun_verdict-none}
use Rattle.vyrd_base.proofs.VersionWords.{broken_rule-old, first_words_at}

-- the first break after some entries
abbrev pub old_break_after : Header → List Entry → List Entry → Option Rule
old_break_after h earlier entries = first_answer
    (λ place. old_broken_rule h place.earlier place.here) (places_after earlier entries)

front_after-old : (h : Header) (earlier es : List Entry) → h.version ≡ 1 → WellFormed h earlier
    → front_after h earlier es ≡ old_front_after h earlier es
front_after-old h earlier [] one wf = refl
front_after-old h earlier (e ∷ es) one wf = by_rule (broken_rule h earlier e) refl
    (λ kept. front_after-old h (e ∷ earlier) es one (kept, wf))
  where
    by_rule : (o : Option Rule) → broken_rule h earlier e ≡ o
        → (broken_rule h earlier e ≡ None → front_after h (e ∷ earlier) es ≡ old_front_after h
        (e ∷ earlier) es)
        → (elim o as (λ _. List Entry) [
          | None ↦ e ∷ front_after h (e ∷ earlier) es
          | Some rule ↦
              []
        ]) ≡ old_front_after h earlier (e ∷ es)
    by_rule None is rest = cc (rest is, broken_rule-old h earlier e one wf)
    by_rule (Some rule) is rest = cc (broken_rule-old h earlier e one wf)

break_after-old : (h : Header) (earlier es : List Entry) → h.version ≡ 1 → WellFormed h earlier
    → break_after h earlier es ≡ old_break_after h earlier es
break_after-old h earlier [] one wf = refl
break_after-old h earlier (e ∷ es) one wf = by_rule (broken_rule h earlier e) refl
    (λ kept. break_after-old h (e ∷ earlier) es one (kept, wf))
  where
    by_rule : (o : Option Rule) → broken_rule h earlier e ≡ o
        → (broken_rule h earlier e ≡ None → break_after h (e ∷ earlier) es ≡ old_break_after h
        (e ∷ earlier) es)
        → option_or o (break_after h (e ∷ earlier) es) ≡ old_break_after h earlier (e ∷ es)
    by_rule None is rest = cc (rest is, broken_rule-old h earlier e one wf)
    by_rule (Some rule) is rest = cc (broken_rule-old h earlier e one wf)

-- the first fault of the places from one on
abbrev pub old_fault_after : Header → List State → List Entry → List Entry → Option Verdict
old_fault_after h states earlier later = first_answer
    (λ place. option_map (Violation (position_of place + 2))
    (old_fault_of_kind h states place place.here.kind)) (places_after earlier later)

fault-old : (h : Header) (states : List State) (place : Place Entry) (kind : Kind) → h.version ≡ 1
    → WellFormed h (place.here ∷ place.earlier)
    → fault_of_kind (rules_of h) [] states place kind ≡ old_fault_of_kind h states place kind
fault-old h states place Commit one wf = cc (first_words_at h place one wf)
fault-old h states place BlockCommit one wf = cc (first_words_at h place one wf)
fault-old h states place (Return reply) one wf = refl
fault-old h states place (Call method args) one wf = refl
fault-old h states place (Write word value) one wf = refl
fault-old h states place BlockOpen one wf = refl
fault-old h states place BlockClose one wf = refl

-- the rest of a front that keeps the rules from a place on
fault_after-old : (h : Header) (states : List State) (earlier later : List Entry) → h.version ≡ 1
    → WellFormed h earlier
    → first_answer (violation_at (rules_of h) [] states)
    (places_after earlier (front_after h earlier later))
    ≡ old_fault_after h states earlier (front_after h earlier later)
unfolding fault_at
fault_after-old h states earlier [] one wf = refl
fault_after-old h states earlier (e ∷ later) one wf =
    by_rule (broken_rule h earlier e) refl
    (λ kept. fault_after-old h states (e ∷ earlier) later one (kept, wf))
  where
    claim : List Entry → Type 0
    claim xs = first_answer (violation_at (rules_of h) [] states) (places_after earlier xs)
        ≡ old_fault_after h states earlier xs

    by_rule : (o : Option Rule) → broken_rule h earlier e ≡ o
        → (broken_rule h earlier e ≡ None → first_answer (violation_at (rules_of h) [] states)
        (places_after (e ∷ earlier) (front_after h (e ∷ earlier) later))
        ≡ old_fault_after h states (e ∷ earlier) (front_after h (e ∷ earlier) later))
        → claim (elim o as (λ _. List Entry) [
          | None ↦ e ∷ front_after h (e ∷ earlier) later
          | Some
              rule ↦ []
        ])
    by_rule None is rest =
        let place : Place Entry =
        record { earlier = earlier; here = e; later = front_after h (e ∷ earlier) later } in
        let here = fault-old h states place e.kind one (is, wf) in
        let onward = rest is in
        let line = line_of-none (position_of place) in
        λ i. option_or (option_map (Violation (line i)) (here i)) (onward i)
    by_rule (Some rule) is rest = refl

first_fault-old : (h : Header) (es : List Entry) → h.version ≡ 1 → first_fault (rules_of h) []
    (front h es) ≡ old_first_fault h (old_front h es)
unfolding first_fault front
first_fault-old h es one =
    ap (λ ss. first_answer (violation_at (rules_of h) [] ss)
    (places_after [] (front_after h [] es))) (states_along-none h (front_after h [] es))
    ∙ fault_after-old h (states_of (rules_of h) (Some start) (front_after h [] es)) [] es one tt
    ∙ ap (λ xs. old_first_fault h xs) (front_after-old h [] es one tt)

pub old_so_far : (h : Header) (es : List Entry) → h.version ≡ 1 → verdict_so_far (rules_of h) [] es
    ≡ old_verdict_so_far h es
unfolding verdict_so_far shape_verdict front first_break
old_so_far h es one =
    ap (λ o. option_or o
    (option_or (first_fault (rules_of h) [] (front h es)) (shape_verdict h [] es)))
    (begun_verdict-none h es)
    ∙ ap (λ o. option_or o
    (option_map (Malformed (line_of [] (length (front h es)))) (first_break h es)))
    (first_fault-old h es one)
    ∙ ap (λ n. option_or (old_first_fault h (old_front h es))
    (option_map (Malformed n) (first_break h es))) (line_of-none (length (front h es)))
    ∙ ap (λ xs. option_or (old_first_fault h (old_front h es))
    (option_map (Malformed (length xs + 2)) (first_break h es)))
    (front_after-old h [] es one tt)
    ∙ ap (λ o. option_or (old_first_fault h (old_front h es))
    (option_map (Malformed (length (old_front h es) + 2)) o))
    (break_after-old h [] es one tt)

pub old_whole : (h : Header) (es : List Entry) → h.version ≡ 1 → verdict (rules_of h) [] es
    ≡ old_verdict h es
unfolding verdict end_verdict old_verdict
old_whole h es one =
    ap (λ o. unwrap_or (option_or o (end_verdict (rules_of h) [] es)) (accepted es))
    (old_so_far h es one)
    ∙ ap (λ o. unwrap_or (option_or (old_verdict_so_far h es) (option_or o
    (then_some (is_call_open h (newest_first es)) (Malformed (line_of [] (length es)) CallOpen))))
    (accepted es)) (start_verdict-none h)
    ∙ ap (λ n. unwrap_or (option_or (old_verdict_so_far h es)
    (then_some (is_call_open h (newest_first es)) (Malformed n CallOpen))) (accepted es))
    (line_of-none (length es))
