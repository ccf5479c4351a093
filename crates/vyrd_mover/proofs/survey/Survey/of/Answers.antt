use Rattle.vyrd_mover.proofs.Prelude
use Prelude.{◌≡◌, ℕ, suc, ◌+◌, ◌-◌, ◌<◌, List, [], ◌∷◌, ◌∙◌, map, arith, ap, sym, subst, get_or}
use Prelude.{take, drop, length, drop-cons, Header, Read, Stamped, newest_first, cells_of, Step}
use Prelude.{line_of, is_race_free, step_coded, step_of, IsWithin, preceded_by, UsageKept, HasTaken}
use Rattle.std.proofs.Common.{length-drop}
use Rattle.std.proofs.Math.Seq.{drop-length}
use Rattle.vyrd_base.proofs.HeaderLaws.{some_callers}
use Rattle.vyrd_mover.proofs.LegalPlaces.{MayCome, legal_event, in_range}
use Rattle.vyrd_mover.proofs.StepLaws.{codes_count, code_at, role_within}
use Rattle.vyrd_mover.proofs.SurveyLaws.{IsSurvey, survey_begins, survey_goes_on}
use Rattle.vyrd_mover.proofs.survey.Survey.of.Goals as goal

abbrev some_event : Stamped
some_event = record { number = 0; caller = 0; did = Read 0 0 }

-- what the step at a place is
record Here (h : Header) (uses : UsageKept) (codes : List ℕ) (history : List Stamped) (i : ℕ)
    (step : Step) : Type 0 where
  low : i < length history
  come : MayCome (cells_of h) (newest_first (take i history)) i (get_or history i some_event)
  is : step ≡ step_of (get_or history i some_event)
  caller : step.caller < h.callers
  within : IsWithin (length uses.cells) step.role

here : (h : Header) (uses : UsageKept) (codes : List ℕ) (history : List Stamped) (i : ℕ)
    (step : Step)
    → HasTaken (record { header = h; uses = uses; steps = map step_coded codes }) history
    → i < length codes → step ≡ step_coded (get_or codes i 0)
    → Here h uses codes history i step
here h uses codes history i step taken low coded =
    let count = codes_count codes history taken.steps_are in
    let low_too : i < length history = omega (arith, count) in
    let come = legal_event (cells_of h) history i some_event taken.legal low_too in
    let e = get_or history i some_event in
    let is = coded ∙ code_at codes history i some_event taken.steps_are low in
    record {
      low = low_too;
      come = come;
      is = is;
      caller = subst (λ s. s.caller < h.callers) (sym is) come.caller;
      within = subst (λ n. IsWithin n step.role) (sym taken.seen.all_cells)
          (subst (λ s. IsWithin (cells_of h).plain s.role) (sym is)
          (role_within (cells_of h).plain ((cells_of h).plain + (cells_of h).locks) e.did
          (in_range (cells_of h) (newest_first (take i history)) e.caller e.did come.may)));
    }

pub loop-place-init : goal.loop-place-init
loop-place-init c = λ history taken.
    let free = is_race_free (cells_of c.args.header) history in
    let none = ap (λ n. drop n history) (codes_count c.args.codes.now history taken.steps_are)
    ∙ drop-length history in
    let first = survey_begins free c.callers.result in
    subst (λ later. IsSurvey free c.args.header.callers later c.in_ok-survey.survey) (sym none)
    (subst (λ n. IsSurvey free n [] c.in_ok-survey.survey) c.callers.ensures
    (subst (IsSurvey free c.callers.result []) (sym c.in_ok-survey.ensures) first))

pub precede-requires-clause-caller : goal.precede-requires-clause-caller
precede-requires-clause-caller c =
    let i = c.loop-place.place - 1 in
    let at = here c.args.header c.args.uses.now c.args.codes.now c.requires.history i c.coded.result
    c.requires.taken (omega arith) c.coded.ensures in
    let survey = c.loop-place.invariant c.requires.history c.requires.taken in
    omega (arith, at.caller, survey.callers_are)

pub precede-requires-clause-within : goal.precede-requires-clause-within
precede-requires-clause-within c =
    let i = c.loop-place.place - 1 in
    let at = here c.args.header c.args.uses.now c.args.codes.now c.requires.history i c.coded.result
    c.requires.taken (omega arith) c.coded.ensures in
    at.within

pub precede-requires-clause-few : goal.precede-requires-clause-few
precede-requires-clause-few c =
    let survey = c.loop-place.invariant c.requires.history c.requires.taken in
    let count = codes_count c.args.codes.now c.requires.history c.requires.taken.steps_are in
    let few = survey.surveyed.few in
    let dropped = length-drop c.loop-place.place c.requires.history in
    omega (arith, few, count, dropped)

pub loop-place-preserved : goal.loop-place-preserved
loop-place-preserved c = λ history taken.
    let h = c.args.header in
    let free = is_race_free (cells_of h) history in
    let i = c.loop-place.place - 1 in
    let at = here h c.args.uses.now c.args.codes.now history i c.coded.result taken
    (omega arith) c.coded.ensures in
    let e = get_or history i some_event in
    let later = drop c.loop-place.place history in
    let next : suc i ≡ c.loop-place.place = omega arith in
    let front : drop i history ≡ e ∷ later = cc (drop-cons history i some_event at.low) in
    let line : i + 2 ≡ line_of e = cc (at.come.numbered) in
    let more = survey_goes_on free h.callers e later c.loop-place.survey
    (c.loop-place.invariant history taken) at.come.caller in
    let on = c.precede.ensures (cells_of h) history taken.seen (omega (arith, some_callers h))
    ∙ λ j. preceded_by free c.loop-place.survey (line j) (at.is j).caller (at.is j).role in
    rw front
    (subst (IsSurvey free h.callers (e ∷ later)) (sym on) more)

pub returns : goal.returns
returns c = λ history taken. grind (arith, (c.loop-place.invariant history taken).surveyed)
