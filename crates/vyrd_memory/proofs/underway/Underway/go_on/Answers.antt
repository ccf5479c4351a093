-- The operation under way is sound and ends in time, so that its next place is, unless nothing is
-- left there: then this is its return.
use Rattle.vyrd_memory.proofs.Prelude.{◌∙◌, sym, ap, arith, option_map_or, stop, next_act}
use Rattle.vyrd_memory.proofs.Prelude.{after_answer, IsAnswer, IsUnderway, of_some, underway_sound}
use Rattle.vyrd_memory.specs.Laws.Underway.{is_of_some, underway_goes_on, underway_left}
use Rattle.vyrd_memory.specs.Laws.Underway.{underway_next, underway_over, underway_ends}
use Rattle.vyrd_memory.proofs.underway.Underway.go_on.Goals as goal

pub took-requires-clause-sound : goal.took-requires-clause-sound
took-requires-clause-sound = grind (arith, underway_sound, of_some)

pub took-requires-clause-goes_on : goal.took-requires-clause-goes_on
took-requires-clause-goes_on = grind (arith, underway_goes_on, of_some)

pub overflow_sub-self : goal.overflow_sub-self
overflow_sub-self = grind (arith, underway_left, of_some)

pub invariant_of-self-else-is_over-clause-goes_on :
    goal.invariant_of-self-else-is_over-clause-goes_on
invariant_of-self-else-is_over-clause-goes_on =
    grind (arith, is_of_some, of_some, underway_ends, underway_next)

pub returns-then-is_over-clause-script : goal.returns-then-is_over-clause-script
returns-then-is_over-clause-script g c =
    let s = c.args.self.now in
    let answer = is_of_some (λ p. IsAnswer
    (next_act (g.P.Progress.rest s.header p)) c.args.answer) s.progress c.in-Some.progress
    c.in-Some.is c.requires.answer in
    let underway = of_some (λ p. IsUnderway s.header s.left (g.P.Progress.rest s.header p))
    s.progress c.in-Some.progress c.in-Some.is s.goes_on in
    let same = underway_ends s.header s.left (g.P.Progress.rest s.header c.in-Some.progress)
    (g.P.Progress.rest s.header c.took.new.self) c.args.answer underway answer c.took.ensures in
    let ends = sym same ∙ sym (c.is_over.ensures s.header s.subject) ∙ c.if-is_over.true in
    ap (λ o. option_map_or (g.P.Progress.rest s.header) o stop) c.forget.ensures
    ∙ sym (ap (λ o. after_answer (option_map_or (g.P.Progress.rest s.header) o stop) c.args.answer)
    c.in-Some.is
    ∙ underway_over s.header s.left (g.P.Progress.rest s.header c.in-Some.progress) c.args.answer
    underway ends answer)

pub returns-then-is_over-clause-falls : goal.returns-then-is_over-clause-falls
returns-then-is_over-clause-falls = grind (arith, underway_left, of_some)

pub returns-else-is_over-clause-falls : goal.returns-else-is_over-clause-falls
returns-else-is_over-clause-falls = grind (arith, underway_left, of_some)
